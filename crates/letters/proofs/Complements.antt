-- Letter by letter from the end, complements turn a sequence. Assumes nothing.
use mathlib.Core.Path.{◌≡◌, ap, ◌∙◌}
use mathlib.Core.List.{List, ◌∷◌, ◌++◌}
use Prim.Native.Nat.{ℕ, suc, ◌+◌, ◌-◌, ◌≤◌, ◌<◌}
use native.Mathlib.Omega.{arith}
use native.Mathlib.Numerals.{add-one}
use lib.ListN.{length, get_or, drop, set, length-append, length-drop, drop_of_length-le}
use lib.Seq.{drop-cons, set_at, append_snoc}
use Rattle.std.proofs.Common.{reverse, zero-add}
use Rattle.std.specs.List.{enumerate_from}
use Rattle.std.proofs.lemmas.List.{get_or-reverse, get_or_default, length-reverse}
use Rattle.std.proofs.lemmas.List.FromFn.{get_or-enumerate_from, length-enumerate_from}
use Rattle.rules.specs.Letters.{complement, reverse_complement}
use Rattle.rules.proofs.Strands.{turned_length}

-- the last n letters stand turned in front of the slice, and behind them what was there
pub record Turning (s old out : List ℕ) (n : ℕ) : Type 0 where
  pub within : n ≤ length s
  pub room : length s ≤ length old
  pub front : out ≡ reverse_complement (drop (length s - n) s) ++ drop n old

pub turning_long : {s old out : List ℕ} {n : ℕ} → Turning s old out n → length out ≡ length old
turning_long {s} {old} {out} {n} v =
    let w = v.within in
    let r = v.room in
    ap length v.front
    ∙ omega (
      arith,
      length-append (reverse_complement (drop (length s - n) s)) (drop n old),
      turned_length (drop (length s - n) s),
      length-drop (length s - n) s,
      length-drop n old,
    )

pub turning_start : (s old : List ℕ) → length s ≤ length old → Turning s old old 0
unfolding reverse_complement
turning_start s old h =
    let e : length s ≤ length s - 0 = omega arith in
    record { within = omega arith; room = h; front = rw (drop_of_length-le s e) }

-- one letter more, the last of those that are left
pub turning_next : {s old out : List ℕ} {n : ℕ} → Turning s old out n → n < length s → {x : ℕ} → x ≡ complement (get_or s (length s - 1 - n) 0)
    → Turning s old (set out n x) (n + 1)
unfolding reverse_complement
turning_next {s} {old} {out} {n} v h {x} ex =
    let r = v.room in
    let p = length s - 1 - n in
    let next : length s - (n + 1) ≡ p = omega arith in
    let was : length s - n ≡ suc p = omega arith in
    let done = reverse_complement (drop (suc p) s) in
    let front : out ≡ done ++ get_or old n 0 ∷ drop (suc n) old = v.front ∙ rw (was, drop-cons old n 0 (omega arith)) in
    let size : length done ≡ n = turned_length (drop (suc p) s) ∙ length-drop (suc p) s ∙ omega arith in
    record {
      within = omega arith;
      room = r;
      front = rw (next, drop-cons s p 0 (omega arith), ← ex, add-one n, append_snoc done x (drop (suc n) old), front)
          (set_at done (get_or old n 0) (drop (suc n) old) x n size);
    }

pub turning_end : {s old out : List ℕ} {n : ℕ} → Turning s old out n → length s ≤ n → out ≡ reverse_complement s ++ drop (length s) old
turning_end {s} {old} {out} {n} v h =
    let w = v.within in
    let e : n ≡ length s = omega arith in
    let z : length s - length s ≡ 0 = omega arith in
    rw (e, z) at v.front

-- the letter that is read at turn n, from the last one back
module _ (s : List ℕ) (n : ℕ) {i x : ℕ} (h : (n < length (enumerate_from 0 (reverse s))) × (◌≡◌ {A = ℕ × ℕ} (i, x) (get_or (enumerate_from 0 (reverse s)) n (i, x)))) where
  pub turn_in : n < length s
  turn_in = omega (arith, h.0, length-enumerate_from 0 (reverse s), length-reverse s)

  turn_is : ◌≡◌ {A = ℕ × ℕ} (i, x) (n, get_or (reverse s) n x)
  turn_is = h.1 ∙ get_or-enumerate_from 0 (reverse s) n (i, x) (omega (arith, turn_in, length-reverse s)) ∙ ap (λ (k : ℕ). (k, get_or (reverse s) n x)) (zero-add n)

  pub turn_index : i ≡ n
  turn_index = ap (λ (p : ℕ × ℕ). p.0) turn_is

  pub turn_letter : x ≡ get_or s (length s - 1 - n) 0
  turn_letter = ap (λ (p : ℕ × ℕ). p.1) turn_is ∙ get_or-reverse s n x turn_in ∙ get_or_default s (length s - 1 - n) x 0 (omega (arith, turn_in))

pub turned_all : (s : List ℕ) {n : ℕ} → n ≡ length (enumerate_from 0 (reverse s)) → length s ≤ n
turned_all s e = omega (arith, length-enumerate_from 0 (reverse s), length-reverse s)
