-- An index turned run by run is the index of the codes read backwards. Assumes nothing.
use mathlib.Core.Path.{◌≡◌, refl, sym, ap, subst, subst⁻¹, ◌∙◌}
use mathlib.Core.List.{List, ◌++◌, reverse}
use mathlib.Core.Logic.{◌⊎◌, inl, inr}
use Prim.Native.Nat.{ℕ, zero, suc, ◌+◌, ◌-◌, ◌<◌, ◌≤◌}
use native.Mathlib.Omega.{arith}
use lib.ListN.{length, get_or, take, drop, length-take, length-drop, length-append}
use lib.Seq.{drop-append_seam}
use borrow.Author.Tests.{eqb-true, eqb-false}
use Rattle.std.proofs.Common.{true, false, nat_eq, add-zero, get_or-take}
use Rattle.std.proofs.lemmas.List.{get_or-drop, drop-drop}
use Rattle.std.specs.List.{IsChunkByPrefix}
use Rattle.rules.specs.Codes.{code_at}
use Rattle.rules.proofs.Tests.{Three, below, equal, above, three}
use Rattle.requests.specs.Index.{kmer_places}
use Rattle.requests.proofs.Index.{code_inside}
use Rattle.requests.proofs.IndexPass.{Rising, rising_end, indexed_long, indexed_rising, indexed_order, codes_rise}
use Rattle.requests.proofs.Backwards.{code_back, kmers_back}
use Rattle.order.proofs.Cases.{le_or_lt}
use Rattle.ownership.specs.Owners.{Kept}
use Rattle.index.specs.Keys.{Indexed}
use Rattle.turning.specs.Turning.{RunTo, Within, RunTurned}

-- ---- a run: as many keys as are equal, of those that are left of the first n

module _ (keys rest run rest' : List ℕ) (from n : ℕ) (room : n ≤ length keys) (upto : from ≤ n) (at : rest ≡ drop from (take n keys)) (cut : rest ≡ run ++ rest')
    (some : 0 < length run) (prefix : IsChunkByPrefix nat_eq rest (length run)) where
  abbrev size : ℕ
  size = length run

  rest_length : length rest ≡ n - from
  rest_length = ap length at ∙ omega (arith, length-drop {A = ℕ}, length-take {A = ℕ})

  within : size ≤ n - from
  within = omega (arith, rest_length, ap length cut, length-append run rest')

  read : (j : ℕ) → j < n - from → get_or rest j 0 ≡ get_or keys (from + j) 0
  read j h = ap (λ (l : List ℕ). get_or l j 0) at ∙ get_or-drop from (take n keys) j 0 ∙ get_or-take n keys (from + j) 0 (omega arith)

  same : (j : ℕ) → j < size → get_or keys (from + j) 0 ≡ get_or keys from 0
  same zero h = ap (λ (m : ℕ). get_or keys m 0) (add-zero from)
  same (suc j) h =
      let adjacent : nat_eq (get_or rest j 0) (get_or rest (j + 1) 0) ≡ true = prefix.0 j 0 (omega arith) in
      let before = same j (omega arith) in
      let one = read j (omega (arith, within)) in
      let two = read (j + 1) (omega (arith, within)) in
      let e : from + suc j ≡ from + (j + 1) = omega arith in
      ap (λ (m : ℕ). get_or keys m 0) e ∙ sym two ∙ sym (eqb-true (get_or rest j 0) (get_or rest (j + 1) 0) adjacent) ∙ one ∙ before

  pub run_of : RunTo keys from n (from + size)
  run_of =
      record {
        some = omega arith;
        upto = omega (arith, within);
        same = λ q a b. let e : from + (q - from) ≡ q = omega arith in ap (λ (m : ℕ). get_or keys m 0) (sym e) ∙ same (q - from) (omega arith);
        other = λ l d.
            let apart : nat_eq (get_or rest (size - 1) 0) (get_or rest size 0) ≡ false = prefix.1 (omega (arith, rest_length)) 0 in
            let last = same (size - 1) (omega arith) in
            let one = read (size - 1) (omega arith) in
            let two = read size (omega arith) in
            eqb-false (get_or rest (size - 1) 0) (get_or rest size 0) apart (one ∙ last ∙ sym d ∙ sym two);
      }

  pub run_left : rest' ≡ drop (from + size) (take n keys)
  run_left =
      sym (drop-append_seam run rest') ∙ ap (drop size) (sym cut ∙ at) ∙ drop-drop size from (take n keys)

-- ---- a run turned, up to index q

pub record TurnedTo (index : List ℕ) (columns from to : ℕ) (out₀ out : List ℕ) (q : ℕ) : Type 0 where
  pub after : from ≤ q
  pub upto : q ≤ to
  pub long : length out ≡ length out₀
  pub inside : (r : ℕ) → from ≤ r → r < q → get_or out r 0 ≡ columns + 1 - get_or index (from + (to - 1 - r)) 0
  pub below : (r : ℕ) → r < from → get_or out r 0 ≡ get_or out₀ r 0
  pub above : (r : ℕ) → q ≤ r → get_or out r 0 ≡ get_or out₀ r 0

-- ---- the whole index, up to the run that begins at `from`

pub record Turning (codes keys out₀ out : List ℕ) (from : ℕ) : Type 0 where
  pub upto : from ≤ kmer_places codes
  pub kept : Kept out₀ out from
  pub coded : (q : ℕ) → q < from → code_at (reverse codes) (get_or out q 0) ≡ get_or keys q 0
  pub order : (q : ℕ) → suc q < from → get_or keys q 0 ≡ get_or keys (suc q) 0 → get_or out q 0 < get_or out (suc q) 0
  pub broken : (q : ℕ) → suc q ≡ from → from < kmer_places codes → get_or keys q 0 ≡ get_or keys from 0 → ⊥

pub turning_start : {codes keys out : List ℕ} → Turning codes keys out out 0
turning_start =
    record {
      upto = omega arith;
      kept = record { long = refl; others = λ q l. refl };
      coded = λ q l. absurd (omega arith);
      order = λ q l. absurd (omega arith);
      broken = λ q e. absurd (omega arith);
    }

module _ {codes index keys : List ℕ} (x : Indexed codes index keys) where
  abbrev places : ℕ
  places = kmer_places codes

  -- a number of the index is a place
  place_in : (q : ℕ) → q < places → get_or index q 0 ≤ length codes
  place_in q l = (code_inside codes (get_or index q 0) ((indexed_rising codes index x.begins).kmer q l)).1

  pub run_within : {from to : ℕ} → to ≤ places → Within index (length codes) from to
  run_within h = record { within = λ q a b. place_in q (omega arith) }

  pub in_index : {q : ℕ} → q ≤ places → q ≤ length index
  in_index h = omega (arith, indexed_long codes index x.begins)

  -- it keeps its key, counted from the last place
  turned_key : (q : ℕ) → q < places → code_at (reverse codes) (length codes + 1 - get_or index q 0) ≡ get_or keys q 0
  turned_key q l =
      let p = place_in q l in code_back codes (length codes + 1 - get_or index q 0) (get_or index q 0) (omega arith) ∙ sym (x.key q l)

  module _ {out₀ out out' : List ℕ} {from to : ℕ} (w : Turning codes keys out₀ out from) (r : RunTo keys from places to)
      (t : RunTurned index (length codes) from to out out') where
    -- the number that a number of the run is turned from, and its key
    abbrev facing : ℕ → ℕ
    facing q = from + (to - 1 - q)

    facing_key : (q : ℕ) → from ≤ q → q < to → get_or keys (facing q) 0 ≡ get_or keys q 0
    facing_key q a b = r.same (facing q) (omega arith) (omega arith) ∙ sym (r.same q a b)

    coded : (q : ℕ) → q < to → (from ≤ q) ⊎ (q < from) → code_at (reverse codes) (get_or out' q 0) ≡ get_or keys q 0
    coded q l (inl a) =
        ap (code_at (reverse codes)) (t.inside q a l) ∙ turned_key (facing q) (omega (arith, r.upto)) ∙ facing_key q a l
    coded q l (inr b) = ap (code_at (reverse codes)) (t.below q b) ∙ w.coded q b

    order : (q : ℕ) → suc q < to → Three (suc q) from → get_or keys q 0 ≡ get_or keys (suc q) 0 → get_or out' q 0 < get_or out' (suc q) 0
    order q l (below b) e = omega (arith, t.below q (omega arith), t.below (suc q) b, w.order q b e)
    order q l (equal b) e = absurd (w.broken q b (omega (arith, r.some, r.upto)) (e ∙ ap (λ (n : ℕ). get_or keys n 0) b))
    order q l (above b) e =
        let from_in : from ≤ q = omega arith in
        let later : facing q < places = omega (arith, r.upto) in
        let same : get_or keys (facing (suc q)) 0 ≡ get_or keys (facing q) 0 =
        facing_key (suc q) (omega arith) l ∙ sym e ∙ sym (facing_key q from_in (omega arith)) in
        let before = indexed_order codes index x.begins (facing (suc q)) (facing q) (omega arith) later in
        let less = before.tie (sym (x.key (facing (suc q)) (omega arith)) ∙ same ∙ x.key (facing q) later) in
        omega (arith, t.inside q from_in (omega arith), t.inside (suc q) (omega arith) l, less, place_in (facing q) later)

    pub turning_next : Turning codes keys out₀ out' to
    turning_next =
        record {
          upto = r.upto;
          kept = record { long = t.long ∙ w.kept.long; others = λ q l. t.above q l ∙ w.kept.others q (omega (arith, r.some)) };
          coded = λ q l. coded q l (le_or_lt from q);
          order = λ q l. order q l (three (suc q) from);
          broken = λ q e l d.
              r.other l (sym d ∙ r.same q (omega (arith, r.some)) (omega arith));
        }

  -- THE END: the index of the codes read backwards, with the same keys
  module _ {out₀ out : List ℕ} {from : ℕ} (w : Turning codes keys out₀ out from) (done : places ≤ from) (room : places ≤ length out₀) where
    at : from ≡ places
    at = omega (arith, w.upto)

    rising : Rising (reverse codes) out places
    rising =
        record {
          kmer = λ q l.
              omega (arith, w.coded q (omega (arith, at)), x.key q l, (indexed_rising codes index x.begins).kmer q l);
          order = λ q l.
              let one = w.coded q (omega (arith, at)) in
              let two = w.coded (suc q) (omega (arith, at)) in
              record {
                code = omega (arith, one, two, x.key q (omega arith), x.key (suc q) l, codes_rise codes index x.begins q (suc q) (omega arith) l);
                tie = λ e. w.order q (omega (arith, at)) (sym one ∙ e ∙ two);
              };
        }

    pub turning_end : Indexed (reverse codes) out keys
    turning_end =
        let count = kmers_back codes in
        record {
          begins = rising_end (reverse codes) out (omega (arith, w.kept.long)) (subst⁻¹ (Rising (reverse codes) out) count rising);
          long = omega (arith, x.long);
          key = λ q l. sym (w.coded q (omega (arith, at)));
        }

    pub kept_end : Kept out₀ out places
    kept_end = subst (Kept out₀ out) at w.kept
