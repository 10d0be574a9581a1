-- A code looked up between the ends of its bucket: its first place stands there, or no place has it. Assumes nothing.
use mathlib.Core.Path.{◌≡◌, refl, sym, ap, ◌∙◌}
use mathlib.Core.List.{List}
use mathlib.Core.Logic.{⊎_elim}
use Prim.Native.Nat.{ℕ, zero, suc, ◌+◌, ◌-◌, ◌<◌, ◌≤◌}
use native.Mathlib.Omega.{arith}
use lib.ListN.{length, get_or}
use Rattle.std.proofs.Common.{Bool, true, false, nat_lt}
use Rattle.std.specs.List.Sorted.{IsPartitionedBy, IsPartitionPoint}
use Rattle.std.proofs.lemmas.Bool.Decides.{nat_tests}
use Rattle.rules.specs.Codes.{code_at}
use Rattle.rules.proofs.Tests.{Three, below, equal, above, three}
use Rattle.requests.specs.Index.{kmer_places}
use Rattle.requests.proofs.Index.{code_inside}
use Rattle.requests.proofs.IndexPass.{indexed_long, indexed_has, indexed_order, codes_rise}
use Rattle.order.proofs.Cases.{le_or_lt}
use Rattle.ownership.specs.Owners.{own_of}
use Rattle.ownership.proofs.Hits.{hit_none, hit_at}
use Rattle.ownership.proofs.Owns.{is_owner}
use Rattle.index.specs.Keys.{Indexed}
use Rattle.directory.proofs.Between.{between, between_length, between_at, between_here}
use Rattle.directory.specs.Directory.{bucket_of, Rising, Bucketed, Reached, Lower}

-- ---- where a code would stand, among the keys from begin to end

abbrev pub under : ℕ → ℕ → Bool
under c key = nat_lt key c

module _ (keys : List ℕ) (begin end c : ℕ) (inside : end ≤ length keys) where
  -- none that is below the code stands behind one that is not
  pub parted : Rising keys end → IsPartitionedBy (under c) (between keys begin end)
  parted r i j d h l e =
      let long = between_length keys begin end inside in
      let at_i = between_at keys begin end inside i d (omega arith) in
      let at_j = between_at keys begin end inside j d (omega arith) in
      let rise = r.rise (begin + i) (begin + j) (omega arith) (omega arith) in
      grind (arith, nat_tests)

  low : (p : ℕ) → begin ≤ p → p < end → under c (get_or (between keys begin end) (p - begin) 0) ≡ true → get_or keys p 0 < c
  low p a b e = let at = between_here keys begin end inside p a b in grind (arith, nat_tests)

  high : (p : ℕ) → begin ≤ p → p < end → under c (get_or (between keys begin end) (p - begin) 0) ≡ false → c ≤ get_or keys p 0
  high p a b e = let at = between_here keys begin end inside p a b in grind (arith, nat_tests)

  pub lower_at : {q : ℕ} → begin ≤ end → q ≤ length (between keys begin end)
      → IsPartitionPoint (λ y. under c y ≡ true) (λ y. under c y ≡ false) (between keys begin end) q
      → Lower keys begin end c (begin + q) (begin + q)
  lower_at {q} h l (front, back) =
      let long = between_length keys begin end inside in
      record {
        after = omega arith;
        within = omega arith;
        upto = omega arith;
        low = λ p a b. low p a (omega arith) (front (p - begin) 0 (omega arith) (omega arith));
        high = λ p a b. high p (omega arith) b (back (p - begin) 0 (omega arith) (omega arith));
      }

-- ---- reaching for it

-- what is left before begin, and the next step
pub record Reaching (end begin step : ℕ) : Type 0 where
  pub upto : begin ≤ end
  pub some : 1 ≤ step
  pub short : 0 < begin → begin + step ≤ end + 1

-- ---- an index and its keys

-- where the bucket of a code ends
pub record EndOf (low c : ℕ) (ends : List ℕ) (end : ℕ) : Type 0 where
  pub ends_at : end ≡ get_or ends (bucket_of low c) 0

module _ {second index keys : List ℕ} (x : Indexed second index keys) where
  abbrev places : ℕ
  places = kmer_places second

  pub keys_rise : {end : ℕ} → end ≤ places → Rising keys end
  keys_rise h = record {
    rise = λ p q a b. omega (arith, x.key p (omega arith), x.key q (omega arith), codes_rise second index x.begins p q a (omega arith));
  }

  pub index_long : places ≤ length index
  index_long = indexed_long second index x.begins

  module _ {low : ℕ} {ends : List ℕ} (w : Bucketed low keys ends places) {c end : ℕ} (at : EndOf low c ends end) where
    upto : end ≤ places
    upto = omega (arith, w.upto (bucket_of low c), at.ends_at)

    pub can_reach : (end ≤ length keys) × Rising keys end
    can_reach = (omega (arith, upto, x.long), keys_rise upto)

    -- a place that has the code stands in the bucket
    record Stands (p : ℕ) : Type 0 where
      rank : ℕ
      inside : rank < places
      holds : get_or index rank 0 ≡ suc p
      same : get_or keys rank 0 ≡ c
      to : rank < end

    stands : (c ≡ 0 → ⊥) → (p : ℕ) → get_or second p 0 ≡ c → Stands p
    unfolding code_at
    stands nz p e =
        let (q, l, f) = indexed_has second index x.begins (suc p) (omega arith) in
        let same : get_or keys q 0 ≡ c = x.key q l ∙ ap (code_at second) f ∙ e in
        let bucket : bucket_of low (get_or keys q 0) ≡ bucket_of low c = ap (bucket_of low) same in
        record {
          rank = q;
          inside = l;
          holds = f;
          same = same;
          to = omega (arith, w.to q l, at.ends_at, ap (λ (n : ℕ). get_or ends n 0) bucket);
        }

    module _ (nz : c ≡ 0 → ⊥) {begin r : ℕ} (u : Reached keys end c begin) (v : Lower keys begin end c r r) where
      pub rank_inside : r < end → r < places
      rank_inside h = omega (arith, upto)

      from : {p : ℕ} (s : Stands p) → begin ≤ s.rank
      from s =
          ⊎_elim (λ (l : begin ≤ s.rank). l) (λ (l : s.rank < begin). absurd (omega (arith, s.same, u.below s.rank l))) (le_or_lt begin s.rank)

      not_earlier : {p : ℕ} (s : Stands p) → r ≤ s.rank
      not_earlier s =
          ⊎_elim (λ (l : r ≤ s.rank). l) (λ (l : s.rank < r). absurd (omega (arith, s.same, v.low s.rank (from s) l))) (le_or_lt r s.rank)

      pub owner_past : end ≤ r → 0 ≡ own_of second c
      owner_past l = is_owner nz (hit_none λ p a h e. let s = stands nz p e in omega (arith, s.to, not_earlier s))

      pub owner_other : r < end → (get_or keys r 0 ≡ c → ⊥) → 0 ≡ own_of second c
      owner_other l n = is_owner nz (hit_none λ p a h e.
          let s = stands nz p e in
          let rise = (keys_rise upto).rise r s.rank (not_earlier s) s.to in
          n (omega (arith, s.same, v.high r (omega arith) l)))

      pub owner_found : r < end → get_or keys r 0 ≡ c → get_or index r 0 ≡ own_of second c
      unfolding code_at
      owner_found l e = go (get_or index r 0) refl
        where
          inside : r < places
          inside = rank_inside l

          go : (n : ℕ) → get_or index r 0 ≡ n → n ≡ own_of second c
          go zero f = absurd (let z = ap (code_at second) f in omega (arith, x.key r inside))
          go (suc p) f =
              let code : get_or second p 0 ≡ c = sym (ap (code_at second) f) ∙ sym (x.key r inside) ∙ e in
              let within = code_inside second (suc p) (omega arith) in
              is_owner nz (hit_at p (omega arith) (omega (arith, within.1)) code (λ q a h g. earlier q h g (stands nz q g)))
            where
              earlier : (q : ℕ) → q < p → get_or second q 0 ≡ c → Stands q → ⊥
              earlier q l g s = either (three r s.rank)
                where
                  either : Three r s.rank → ⊥
                  either (below h) =
                      let t = indexed_order second index x.begins r s.rank h s.inside in
                      omega (arith, f, s.holds, t.tie (sym (x.key r inside) ∙ e ∙ sym s.same ∙ x.key s.rank s.inside))
                  either (equal h) = omega (arith, f, s.holds, ap (λ (n : ℕ). get_or index n 0) h)
                  either (above h) = omega (arith, not_earlier s)
