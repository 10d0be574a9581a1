-- Values that are not codes are no piece; else the codes are the values, and the writer of the sequence answers. Assumes nothing.
use Rattle.std.proofs.Common.{◌≡◌, refl, ap, ◌∙◌, arith}
use Rattle.std.proofs.lemmas.Result.{err_from_is_err_and}
use Rattle.kinds.specs.declared.kind.Kind.{Kind}
use Rattle.kinds.specs.declared.kind.Kind.TheVariants.{Job, FirstPiece, SecondPiece, End, Entry, Done, ReverseEntry, Refused}
use Rattle.kinds.specs.Kind.{kind_byte}
use Rattle.frames.specs.Frames.{piece_wanted}
use Rattle.frames.proofs.Frames.{left_out, not_fitting_wanted, answered, first_piece, second_piece}
use Rattle.frames.proofs.write_piece.Goals as goal

not_first : (k : Kind) → (k ≡ FirstPiece → ⊥) → kind_byte k ≡ 2 → ⊥
not_first Job n h = omega arith
not_first FirstPiece n h = n refl
not_first SecondPiece n h = omega arith
not_first End n h = omega arith
not_first Entry n h = omega arith
not_first Done n h = omega arith
not_first ReverseEntry n h = omega arith
not_first Refused n h = omega arith

pub returns-in_err-put_codes : goal.returns-in_err-put_codes
unfolding piece_wanted
returns-in_err-put_codes c =
    let p = err_from_is_err_and c.from_residual.result c.from_residual.ensures.1 in
    let both = not_fitting_wanted _ _ (left_out _ _ c.put_codes.auto.codes c.in_err-put_codes.ensures.1) in
    record { value = rw (p.1, p.2, c.in_err-put_codes.ensures.0) both.0; line_after = both.1 }

pub returns-in-FirstPiece : goal.returns-in-FirstPiece
returns-in-FirstPiece c =
    let wanted = ap (λ k. piece_wanted (kind_byte k) c.args.values.now) c.in-FirstPiece.is ∙ first_piece 2 c.in_ok-put_codes.ensures.1 in
    let both = answered _ wanted c.write_first_piece.ensures.value c.write_first_piece.ensures.out_after in
    record { value = both.0; line_after = both.1 }

pub returns-in_default : goal.returns-in_default
returns-in_default c =
    let other = not_first _ c.in_default.not-FirstPiece in
    let both = answered _ (second_piece _ other c.in_ok-put_codes.ensures.1) c.write_second_piece.ensures.value c.write_second_piece.ensures.out_after in
    record { value = both.0; line_after = both.1 }
