-- The byte tells the kind, and so the kind of a number is one. Assumes nothing.
use Rattle.std.proofs.Common.{◌≡◌, ℕ, Result, Ok, Err, cond, eqb, sym, refl, ap, ◌∙◌}
use Rattle.lines.specs.declared.error.FrameError.{FrameError}
use Rattle.kinds.specs.declared.kind.Kind.{Kind}
use Rattle.kinds.specs.declared.kind.Kind.TheVariants.{Job, FirstPiece, SecondPiece, End, Entry, Done, ReverseEntry, Refused}
use Rattle.kinds.specs.Kind.{kind_byte, IsKind}

kind_of : ℕ → Kind
kind_of n =
    cond (eqb n 1) Job (cond (eqb n 2) FirstPiece (cond (eqb n 3) SecondPiece (cond (eqb n 4) End
    (cond (eqb n 16) Entry (cond (eqb n 17) Done (cond (eqb n 18) ReverseEntry Refused))))))

kind_back : (k : Kind) → kind_of (kind_byte k) ≡ k
unfolding kind_of
kind_back Job = refl
kind_back FirstPiece = refl
kind_back SecondPiece = refl
kind_back End = refl
kind_back Entry = refl
kind_back Done = refl
kind_back ReverseEntry = refl
kind_back Refused = refl

-- two kinds of one byte are one
pub one_kind : (k l : Kind) → kind_byte k ≡ kind_byte l → k ≡ l
one_kind k l h = sym (kind_back k) ∙ ap kind_of h ∙ kind_back l

-- any two results of `kinds::Kind::try_from` are equal
pub one_try : (n : ℕ) (r s : Result Kind FrameError) → IsKind n r → IsKind n s → r ≡ s
one_try n (Ok k) (Ok l) h g = ap Ok (one_kind k l (h ∙ sym g))
one_try n (Ok k) (Err e) h g = absurd (g.1 k h)
one_try n (Err d) (Ok l) h g = absurd (h.1 l g)
one_try n (Err d) (Err e) h g = ap Err (h.0 ∙ sym g.0)
