-- The three ways of a piece: it is none, it is too long for its sequence, or it goes behind the letters there are. Assumes nothing.
use mathlib.Core.Path.{◌≡◌, refl, sym, ap, ◌∙◌}
use mathlib.Core.Bool.{Bool, true, false}
use mathlib.Core.List.{List, ◌++◌}
use Prim.Native.Nat.{ℕ, ◌+◌, ◌<◌, ◌≤◌}
use native.Mathlib.Omega.{arith}
use lib.Dec.{eqb, leb}
use lib.ListN.{length, take, drop, length-append, length-map}
use lib.Seq.{sets, sets-eq, length-take-le, take_at, drop_at}
use borrow.Author.Tests.{le-leb, lt-leb, leb-true, eqb-true, eqb-false}
use Rattle.rules.specs.Letters.{letter_of}
use Rattle.payloads.specs.Pieces.{codes_in}
use Rattle.pieces.specs.Letters.{is_piece, piece_number, letters_in}
use Rattle.pieces.specs.Taking.{Taken, piece_taken, piece_left}

module _ (payload letters : List ℕ) (count : ℕ) where
  pub no_piece : is_piece payload ≡ false → (record { number = 25; count = count } ≡ piece_taken payload count) × (letters ≡ piece_left payload count letters)
  unfolding piece_taken piece_left piece_number
  no_piece e = rw e (refl, refl)

  module _ (e : is_piece payload ≡ true) (more : ℕ) (m : more ≡ length (codes_in payload)) where
    pub too_many : 16384 < count + more → (record { number = 26; count = count } ≡ piece_taken payload count) × (letters ≡ piece_left payload count letters)
    unfolding piece_taken piece_left piece_number
    too_many h = rw (e, ← m) (rw (lt-leb (count + more) 16384 h) (refl, refl))

    pub piece_goes : (left : List ℕ) → count + more ≤ 16384 → left ≡ sets letters count (letters_in payload)
        → (record { number = 0; count = count + more } ≡ piece_taken payload count) × (left ≡ piece_left payload count letters)
    unfolding piece_taken piece_left piece_number
    piece_goes left h l = rw (e, ← m) (rw (le-leb (count + more) 16384 h) (refl, l))

-- ---- where the letters are then

-- a piece has gone behind the letters there were, or they are as they were
pub data Landed (payload letters left : List ℕ) (count : ℕ) (t : Taken) : Type 0 where
  lands : piece_number payload count ≡ 0 → t.number ≡ 0 → t.count ≤ 16384 → count ≤ t.count → take t.count left ≡ take count letters ++ letters_in payload
      → drop t.count left ≡ drop t.count letters → Landed payload letters left count t
  rests : piece_number payload count ≡ t.number → (t.number ≡ 0 → ⊥) → left ≡ letters → Landed payload letters left count t

pub few_letters : (payload : List ℕ) (count : ℕ) → piece_number payload count ≡ 0 → count + length (codes_in payload) ≤ 16384
unfolding piece_number
few_letters payload count z = go (is_piece payload) (leb (count + length (codes_in payload)) 16384) refl refl
  where
    go : (a b : Bool) → is_piece payload ≡ a → leb (count + length (codes_in payload)) 16384 ≡ b → count + length (codes_in payload) ≤ 16384
    go false b p q = let n = rw p at z in absurd (omega arith)
    go true false p q = let n = rw (p, q) at z in absurd (omega arith)
    go true true p q = leb-true (count + length (codes_in payload)) 16384 q

module _ (payload letters left : List ℕ) (count : ℕ) (t : Taken) (room : 16384 ≤ length letters) (is : t ≡ piece_taken payload count)
    (goes : left ≡ piece_left payload count letters) where
  taken_number : t.number ≡ piece_number payload count
  unfolding piece_taken
  taken_number = ap (λ (x : Taken). x.number) is

  pub landed : Landed payload letters left count t
  unfolding piece_taken piece_left letters_in
  landed = go (eqb (piece_number payload count) 0) refl
    where
      go : (b : Bool) → eqb (piece_number payload count) 0 ≡ b → Landed payload letters left count t
      go false e = rests (sym taken_number) (λ z. eqb-false (piece_number payload count) 0 e (sym taken_number ∙ z)) (rw e at goes)
      go true e =
          let z = eqb-true (piece_number payload count) 0 e in
          let ls = letters_in payload in
          let m : length ls ≡ length (codes_in payload) = length-map (codes_in payload) letter_of in
          let n : t.count ≡ count + length (codes_in payload) = ap (λ (x : Taken). x.count) is ∙ rw e in
          let f = few_letters payload count z in
          let s : left ≡ take count letters ++ ls ++ drop (count + length ls) letters = rw e at goes ∙ sets-eq ls letters count (omega arith) in
          let l : length (take count letters ++ ls) ≡ t.count =
          omega (arith, length-append (take count letters) ls, length-take-le count letters (omega arith)) in
          let k : count + length ls ≡ t.count = omega arith in
          lands z (taken_number ∙ z) (omega arith) (omega arith) (rw s (take_at (take count letters ++ ls) (drop (count + length ls) letters) t.count l))
          (rw s (drop_at (take count letters ++ ls) (drop (count + length ls) letters) t.count l) ∙ ap (λ (i : ℕ). drop i letters) k)
