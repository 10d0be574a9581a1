-- The lines of an input, taken one by one: the first ends with its line feed or with the input, and the others are those of what is left. Assumes nothing.
use Rattle.std.proofs.Common.{◌≡◌, ℕ, zero, suc, ◌+◌, ◌<◌, min, Bool, true, false, eqb, List, [], ◌∷◌, ◌++◌, length, take, drop, refl, sym, ap, ◌∙◌, arith, length-drop}
use lib.Seq.{take_at, drop_at}
use Rattle.std.specs.List.{IsFirstMatchOrLen}
use Rattle.input.specs.Lines.{add_to, lines_of, line_size}

pub empty : (s : List ℕ) → length s ≡ 0 → s ≡ []
empty [] h = refl
empty (b ∷ bs) h = absurd (omega arith)

-- ---- the first line and the rest

pub size_some : (s : List ℕ) → 0 < length s → 0 < line_size s
unfolding line_size
size_some [] h = absurd (omega arith)
size_some (b ∷ bs) h = go (eqb b 10) refl
  where
    go : (t : Bool) → eqb b 10 ≡ t → 0 < line_size (b ∷ bs)
    go true e = rw e (omega arith)
    go false e = rw e (omega arith)

pub first_line : (s : List ℕ) → 0 < length s → lines_of s ≡ take (line_size s) s ∷ lines_of (drop (line_size s) s)
unfolding lines_of line_size add_to
first_line [] h = absurd (omega arith)
first_line (b ∷ bs) h = go (eqb b 10) refl bs (first_line bs)
  where
    go : (t : Bool) → eqb b 10 ≡ t → (r : List ℕ) → (0 < length r → lines_of r ≡ take (line_size r) r ∷ lines_of (drop (line_size r) r))
        → lines_of (b ∷ r) ≡ take (line_size (b ∷ r)) (b ∷ r) ∷ lines_of (drop (line_size (b ∷ r)) (b ∷ r))
    go true e r ih = rw e
    go false e [] ih = rw e
    go false e (x ∷ xs) ih = rw e (rw (ih (omega arith)))

-- ---- cut at the first line feed

-- the first line, and what is left
pub record Cut (s this next : List ℕ) : Type 0 where
  pub first : this ≡ take (line_size s) s
  pub rest : next ≡ drop (line_size s) s
  pub joined : s ≡ this ++ next

-- a line ends behind its line feed
feed_ends : (s : List ℕ) (i : ℕ) → IsFirstMatchOrLen (λ b. eqb b 10) s i → line_size s ≡ min (i + 1) (length s)
unfolding line_size
feed_ends [] i f = omega arith
feed_ends (b ∷ bs) zero f = let e : eqb b 10 ≡ true = f.1 (omega arith) 0 in rw e (omega arith)
feed_ends (b ∷ bs) (suc i) f =
    let e : eqb b 10 ≡ false = f.0 0 0 (omega arith) (omega arith) in
    let l = feed_ends bs i (λ k d a b. f.0 (suc k) d (omega arith) (omega arith), λ a d. f.1 (omega arith) d) in
    rw e (omega arith)

pub cut_of : {s this next : List ℕ} {i : ℕ} → s ≡ this ++ next → length this ≡ min (i + 1) (length s) → IsFirstMatchOrLen (λ b. eqb b 10) s i → Cut s this next
cut_of {s} {this} {next} {i} e l f =
    let n : length this ≡ line_size s = l ∙ sym (feed_ends s i f) in
    record {
      first = sym (take_at this next (line_size s) n) ∙ ap (take (line_size s)) (sym e);
      rest = sym (drop_at this next (line_size s) n) ∙ ap (drop (line_size s)) (sym e);
      joined = e;
    }

module _ {s this next : List ℕ} (some : 0 < length s) (c : Cut s this next) where
  pub cut_lines : lines_of s ≡ this ∷ lines_of next
  cut_lines = rw (c.first, c.rest) (first_line s some)

  pub cut_shorter : length next < length s
  cut_shorter = omega (arith, ap length c.rest, length-drop (line_size s) s, size_some s some)
