-- Each way out is one of a piece's three. Assumes nothing.
use mathlib.Core.Path.{sym, ◌∙◌}
use native.Mathlib.Omega.{arith}
use Rattle.pieces.proofs.Unpacking.{IsPiece, piece_parts, count_most}
use Rattle.pieces.proofs.Pieces.{no_piece, too_many, piece_goes}
use Rattle.pieces.proofs.take_piece.Goals as goal

pub overflow_add-count : goal.overflow_add-count
overflow_add-count c =
    let piece : IsPiece c.args.payload.now = piece_parts _ (sym c.is_piece.ensures ∙ c.if-not-is_piece.false) in
    omega (arith, c.requires.count_bound, c.code_count-more.ensures, piece.most, count_most c.args.payload.now)

pub code_count-more-requires : goal.code_count-more-requires
code_count-more-requires c =
    let piece : IsPiece c.args.payload.now = piece_parts _ (sym c.is_piece.ensures ∙ c.if-not-is_piece.false) in
    let p = piece in record { in_bounds = p.least; payload_len_bound = p.most }

pub put_letters-requires : goal.put_letters-requires
put_letters-requires c =
    let piece : IsPiece c.args.payload.now = piece_parts _ (sym c.is_piece.ensures ∙ c.if-not-is_piece.false) in
    record { payload_value = piece.codes; payload_in_bounds = omega (arith, c.if-count-more-le-MOST_LETTERS.true, c.code_count-more.ensures, c.requires.in_bounds) }

pub returns-then-count-more-le-MOST_LETTERS : goal.returns-then-count-more-le-MOST_LETTERS
returns-then-count-more-le-MOST_LETTERS c =
    let both = piece_goes c.args.payload.now c.args.letters.now c.args.count (sym c.is_piece.ensures ∙ c.if-not-is_piece.false) _ c.code_count-more.ensures _
    c.if-count-more-le-MOST_LETTERS.true c.put_letters.ensures in
    record { value = both.0; letters_after = both.1 }

pub returns-else-count-more-le-MOST_LETTERS : goal.returns-else-count-more-le-MOST_LETTERS
returns-else-count-more-le-MOST_LETTERS c =
    let both = too_many c.args.payload.now c.args.letters.now c.args.count (sym c.is_piece.ensures ∙ c.if-not-is_piece.false) _ c.code_count-more.ensures c.if-count-more-le-MOST_LETTERS.false in
    record { value = both.0; letters_after = both.1 }

pub returns-then-not-is_piece : goal.returns-then-not-is_piece
returns-then-not-is_piece c =
    let both = no_piece c.args.payload.now c.args.letters.now c.args.count (sym c.is_piece.ensures ∙ c.if-not-is_piece.true) in
    record { value = both.0; letters_after = both.1 }
