-- Codes read from the last place to the first, after so many turns. Assumes nothing.
use mathlib.Core.Path.{◌≡◌, ap, ◌∙◌}
use mathlib.Core.List.{List, ◌∷◌, ◌++◌, reverse, reverse-cons}
use Prim.Native.Nat.{ℕ, suc, ◌+◌, ◌-◌, ◌<◌, ◌≤◌}
use native.Mathlib.Omega.{arith}
use native.Mathlib.Numerals.{add-one}
use lib.ListN.{length, get_or, set, drop, length-append, length-drop, length-reverse}
use Rattle.std.proofs.Common.{zero-add}
use Rattle.std.specs.List.{enumerate_from}
use Rattle.std.proofs.lemmas.List.{get_or-reverse}
use Rattle.std.proofs.lemmas.List.FromFn.{length-enumerate_from, get_or-enumerate_from}
use Rattle.std.proofs.lemmas.Grind.{get_or_default_zero}
use lib.Seq.{drop-cons, set_at, append_snoc}

-- the last n codes stand in front, the last first
pub record Backwards (codes old out : List ℕ) (n : ℕ) : Type 0 where
  pub within : n ≤ length codes
  pub room : length codes ≤ length old
  pub front : out ≡ reverse (drop (length codes - n) codes) ++ drop n old

pub backwards_long : {codes old out : List ℕ} {n : ℕ} → Backwards codes old out n → length out ≡ length old
backwards_long {codes} {old} {out} {n} v =
    let rest = drop (length codes - n) codes in
    ap length v.front
    ∙ omega (
      arith,
      v.within,
      v.room,
      length-append (reverse rest) (drop n old),
      length-reverse rest,
      length-drop (length codes - n) codes,
      length-drop n old,
    )

-- one code more, the last of those that are left
pub backwards_next : {codes old out : List ℕ} {n : ℕ} → Backwards codes old out n → n < length codes
    → Backwards codes old (set out n (get_or codes (length codes - 1 - n) 0)) (n + 1)
backwards_next {codes} {old} {out} {n} v h =
    let room = v.room in
    let p = length codes - 1 - n in
    let next : length codes - (n + 1) ≡ p = omega arith in
    let was : length codes - n ≡ suc p = omega arith in
    let done = reverse (drop (suc p) codes) in
    let x = get_or codes p 0 in
    let front : out ≡ done ++ get_or old n 0 ∷ drop (suc n) old = v.front ∙ rw (was, drop-cons old n 0 (omega arith)) in
    let size : length done ≡ n = length-reverse (drop (suc p) codes) ∙ length-drop (suc p) codes ∙ omega arith in
    record {
      within = omega arith;
      room = room;
      front = rw (next, drop-cons codes p 0 (omega arith), reverse-cons x (drop (suc p) codes), add-one n, append_snoc done x (drop (suc n) old), front)
          (set_at done (get_or old n 0) (drop (suc n) old) x n size);
    }

-- ---- a loop over the codes from the last to the first, each with its turn

pub code_back : (codes : List ℕ) {n i x : ℕ} → (n < length (enumerate_from 0 (reverse codes))) × ((i, x) ≡ get_or (enumerate_from 0 (reverse codes)) n (i, x))
    → (n < length codes) × ((i ≡ n) × (x ≡ get_or codes (length codes - 1 - n) 0))
code_back codes {n} {i} {x} (l, e) =
    let inside : n < length codes = omega (arith, length-enumerate_from 0 (reverse codes), length-reverse codes) in
    let lr : n < length (reverse codes) = omega (arith, length-reverse codes) in
    let back : get_or (reverse codes) n x ≡ get_or codes (length codes - 1 - n) x = get_or-reverse codes n x inside in
    let plain : get_or codes (length codes - 1 - n) x ≡ get_or codes (length codes - 1 - n) 0 = get_or_default_zero codes (length codes - 1 - n) x (omega arith) in
    let at : (i, x) ≡ (0 + n, get_or (reverse codes) n x) = e ∙ get_or-enumerate_from 0 (reverse codes) n (i, x) lr in
    let turn : i ≡ 0 + n = ap (λ (p : ℕ × ℕ). p.0) at in
    let read : x ≡ get_or (reverse codes) n x = ap (λ (p : ℕ × ℕ). p.1) at in
    (inside, (turn ∙ zero-add n, read ∙ back ∙ plain))
