-- Owners written along an index: after q turns the first q places have theirs, and the run that is met last has its own. Assumes nothing.
use mathlib.Core.Path.{◌≡◌, refl, sym, ap, ◌∙◌}
use mathlib.Core.Bool.{cond}
use mathlib.Core.List.{List, ◌∷◌}
use mathlib.Core.Logic.{⊎_elim}
use Prim.Native.Nat.{ℕ, zero, suc, ◌+◌, ◌<◌, ◌≤◌}
use native.Mathlib.Omega.{arith}
use native.Mathlib.Numerals.{add-one}
use borrow.Author.Tests.{eq-eqb, ne_eqb}
use lib.Dec.{eqb}
use lib.ListN.{length, get_or, set, length-set, take, length-take}
use Rattle.std.proofs.Common.{get_or-take}
use Rattle.rules.specs.Codes.{code_at}
use Rattle.requests.specs.Index.{kmer_places}
use Rattle.requests.proofs.Index.{code_inside}
use Rattle.requests.proofs.IndexPass.{indexed_long, indexed_rising, indexed_has, codes_rise, run_first}
use Rattle.order.proofs.Cases.{eq_or_ne, after_set}
use Rattle.ownership.specs.Owners.{own_of, Owned}
use Rattle.ownership.proofs.Hits.{hit_at}
use Rattle.ownership.proofs.Owns.{own_none, is_owner}
use Rattle.totals.specs.Steps.{Zeros}
use Rattle.index.specs.Keys.{Indexed}

-- ---- a loop over the first n numbers of an index with their keys: where its turn q stands

pub record Turn (index keys : List ℕ) (n q place key : ℕ) : Type 0 where
  pub upto : q < n
  pub place_is : place ≡ get_or index q 0
  pub key_is : key ≡ get_or keys q 0

pub turn_of : {index keys : List ℕ} {n q place key : ℕ}
    → (q < length (take n index)) × (q < length keys) × ((d : ℕ) → place ≡ get_or (take n index) q d) × ((d : ℕ) → key ≡ get_or keys q d)
    → Turn index keys n q place key
turn_of {index} {keys} {n} {q} {place} {key} t =
    let l : q < n = omega (arith, t.0, length-take n index) in
    record { upto = l; place_is = t.2 0 ∙ get_or-take n index q 0 l; key_is = t.3 0 }

-- ---- the loop: after q turns, with the key and the owner that were met last

pub record Owning (second index keys own₀ own : List ℕ) (q last owner : ℕ) : Type 0 where
  pub upto : q ≤ kmer_places second
  pub long : length own ≡ length own₀
  pub last_is : last ≡ code_at second (get_or (0 ∷ index) q 0)
  pub owner_is : owner ≡ own_of second last
  pub owners : (p r : ℕ) → r < q → get_or index r 0 ≡ suc p → get_or own p 0 ≡ own_of second (get_or keys r 0)
  pub others : (p : ℕ) → ((r : ℕ) → r < q → get_or index r 0 ≡ suc p → ⊥) → get_or own p 0 ≡ get_or own₀ p 0

module _ {second index keys : List ℕ} (x : Indexed second index keys) where
  abbrev places : ℕ
  places = kmer_places second

  -- a number of the index is a column
  pub record Column (q : ℕ) : Type 0 where
    pub kmer : 0 < get_or keys q 0
    pub some : 1 ≤ get_or index q 0
    pub within : get_or index q 0 ≤ length second
    pub in_keys : q < length keys
    pub in_index : q < length index

  pub column : (q : ℕ) → q < places → Column q
  column q l =
      let kmer = (indexed_rising second index x.begins).kmer q l in
      let (some, within) = code_inside second (get_or index q 0) kmer in
      record {
        kmer = omega (arith, x.key q l);
        some = some;
        within = within;
        in_keys = omega (arith, x.long);
        in_index = omega (arith, indexed_long second index x.begins);
      }

  -- a number with a larger key than the one before it is the first column of its code
  first_column : (q : ℕ) → q < places → code_at second (get_or (0 ∷ index) q 0) < code_at second (get_or index q 0) → get_or index q 0 ≡ own_of second (get_or keys q 0)
  unfolding code_at
  first_column q l h = go (get_or index q 0) refl
    where
      go : (n : ℕ) → get_or index q 0 ≡ n → n ≡ own_of second (get_or keys q 0)
      go zero e = absurd (omega (arith, (column q l).some))
      go (suc p) e =
          let code : get_or second p 0 ≡ get_or keys q 0 = sym (x.key q l ∙ ap (code_at second) e) in
          is_owner (λ z. omega (arith, (column q l).kmer))
          (hit_at p (omega arith) (omega (arith, (column q l).within, e)) code
          (λ r a b g. omega (arith, e, run_first second index x.begins q l h (suc r) (g ∙ x.key q l))))

  pub owning_start : {own : List ℕ} → Owning second index keys own own 0 0 0
  unfolding code_at
  owning_start =
      record {
        upto = omega arith;
        long = refl;
        last_is = refl;
        owner_is = own_none second refl;
        owners = λ p r l. absurd (omega arith);
        others = λ p h. refl;
      }

  module _ {own₀ own : List ℕ} {q last owner : ℕ} (w : Owning second index keys own₀ own q last owner) (l : q < places) where
    -- the keys do not fall, and the first is not 0
    not_below : (n : ℕ) → n < places → code_at second (get_or (0 ∷ index) n 0) ≤ code_at second (get_or index n 0)
    unfolding code_at
    not_below zero h = omega arith
    not_below (suc n) h = codes_rise second index x.begins n (suc n) (omega arith) h

    own_key : {r : ℕ} → r ≡ cond (eqb (get_or keys q 0) last) owner (get_or index q 0) → r ≡ own_of second (get_or keys q 0)
    own_key e =
        ⊎_elim
        (λ (f : get_or keys q 0 ≡ last). e ∙ rw (eq-eqb (get_or keys q 0) last f) (w.owner_is ∙ ap (own_of second) (sym f)))
        (λ (f : get_or keys q 0 ≡ last → ⊥).
        e ∙ rw (ne_eqb (get_or keys q 0) last f)
        (first_column q l (let h = not_below q l in let g : code_at second (get_or (0 ∷ index) q 0) ≡ code_at second (get_or index q 0) → ⊥ = λ d. f (x.key q l ∙ sym d ∙ sym w.last_is) in omega arith)))
        (eq_or_ne (get_or keys q 0) last)

    pub owning_next : {p r : ℕ} → get_or index q 0 ≡ suc p → p < length own → r ≡ cond (eqb (get_or keys q 0) last) owner (get_or index q 0)
        → Owning second index keys own₀ (set own p r) (q + 1) (get_or keys q 0) r
    owning_next {p} {r} at h e =
        let mine = own_key e in
        record {
          upto = omega arith;
          long = length-set own p r ∙ w.long;
          last_is = rw (add-one q) (x.key q l);
          owner_is = mine;
          owners = after_set (λ z v. (s : ℕ) → s < q + 1 → get_or index s 0 ≡ suc z → v ≡ own_of second (get_or keys s 0)) own p r h
              (λ s b d. mine ∙ ap (own_of second) (x.key q l ∙ ap (code_at second) (at ∙ sym d) ∙ sym (x.key s (omega arith))))
              (λ z n s b d.
              ⊎_elim
              (λ (g : s ≡ q). absurd (n (let k = ap (λ (m : ℕ). get_or index m 0) g in omega arith)))
              (λ (g : s ≡ q → ⊥). w.owners z s (omega arith) d)
              (eq_or_ne s q));
          others = after_set (λ z v. ((s : ℕ) → s < q + 1 → get_or index s 0 ≡ suc z → ⊥) → v ≡ get_or own₀ z 0) own p r h
              (λ non. absurd (non q (omega arith) at)) (λ z n non. w.others z (λ s b d. non s (omega arith) d));
        }

  -- THE END: every column has its owner, in an array that was blank
  pub owning_end : {own₀ own : List ℕ} {q last owner : ℕ} → Owning second index keys own₀ own q last owner → places ≤ q → Zeros own₀ → Owned second second own₀ own (length second)
  unfolding code_at
  owning_end {own₀} {own} w h z =
      record {
        long = w.long;
        owners = λ p l.
            ⊎_elim
            (λ (e : get_or second p 0 ≡ 0). w.others p (λ s b d. absent p e s (omega (arith, w.upto)) d) ∙ z.zeros p ∙ own_none second e)
            (λ (e : get_or second p 0 ≡ 0 → ⊥).
            let (s, b, d) = indexed_has second index x.begins (suc p) (omega arith) in
            w.owners p s (omega (arith, b)) d ∙ ap (own_of second) (x.key s b ∙ ap (code_at second) d))
            (eq_or_ne (get_or second p 0) 0);
        others = λ p l. w.others p (λ s b d. omega (arith, d, (column s (omega (arith, w.upto))).within));
      }
    where
      absent : (p : ℕ) → get_or second p 0 ≡ 0 → (s : ℕ) → s < places → get_or index s 0 ≡ suc p → ⊥
      absent p e s l d = omega (arith, (column s l).kmer, x.key s l, ap (code_at second) d)
