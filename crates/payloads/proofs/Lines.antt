-- The ways out of a line's reader: each is one case of the definition. Assumes nothing.
use mathlib.Core.Path.{◌≡◌, sym, ◌∙◌}
use mathlib.Core.List.{List}
use Prim.Native.Nat.{ℕ}
use native.Mathlib.Omega.{arith}
use borrow.Author.Tests.{eq-eqb, ne_eqb}
use Rattle.std.proofs.Common.{Result}
use Rattle.lines.specs.declared.error.FrameError.{FrameError}
use Rattle.lines.specs.Errors.{number_of, number_in}
use Rattle.lines.proofs.Unique.{error_some, one_done}
use Rattle.decoding.specs.Reading.{refused_frame, frame_in}
use Rattle.payloads.specs.Lines.{kind_number}

module _ (kind size : ℕ) (line : List ℕ) where
  pub line_wrong : (e : FrameError) → refused_frame (number_of e) ≡ frame_in line → number_of e ≡ kind_number kind size line
  unfolding kind_number refused_frame
  line_wrong e is = rw (← is) (rw (ne_eqb (number_of e) 0 (λ z. omega (arith, error_some e))))

  -- the kind and the size that were read
  module _ (k s : ℕ) (is : record { number = 0; kind = k; size = s } ≡ frame_in line) where
    pub kind_wrong : (k ≡ kind → ⊥) → 23 ≡ kind_number kind size line
    unfolding kind_number
    kind_wrong n = rw (← is) (rw (ne_eqb k kind n))

    pub size_wrong : k ≡ kind → (s ≡ size → ⊥) → 25 ≡ kind_number kind size line
    unfolding kind_number
    size_wrong e n = rw (← is) (rw (eq-eqb k kind e, ne_eqb s size n))

    pub all_right : k ≡ kind → s ≡ size → 0 ≡ kind_number kind size line
    unfolding kind_number
    all_right e z = rw (← is) (rw (eq-eqb k kind e, eq-eqb s size z))

-- any two results of `payloads::read_kind` are equal
pub one_read : (r s : Result (Unit {0}) FrameError) (n : ℕ) → number_in r ≡ n → number_in s ≡ n → r ≡ s
one_read r s n h g = one_done r s (h ∙ sym g)
