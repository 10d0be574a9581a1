-- Codes that are no piece refuse; else the line's writer answers for the packed codes. Assumes nothing.
use mathlib.Core.Path.{◌≡◌, sym, ◌∙◌}
use native.Mathlib.Omega.{arith}
use lib.ListN.{take, replicate}
use Rattle.std.proofs.lemmas.List.{length-take-le}
use Rattle.payloads.specs.Pieces.{code_bytes}
use Rattle.kinds.specs.Kind.{kind_byte}
use Rattle.writers.proofs.Writers.{not_fitting, fitting}
use Rattle.payloads.proofs.Pieces.{codes_parts, few_bytes, packed_front}
use Rattle.writers.proofs.write_piece_of.Goals as goal

pub slice_bounds-payload-end : goal.slice_bounds-payload-end
slice_bounds-payload-end c =
    omega (arith, c.pack-n.ensures.value, c.pack-n.auto, few_bytes c.args.codes.now (sym c.piece_fits.ensures ∙ c.if-piece_fits.true))

pub slice_bounds-write_line-end : goal.slice_bounds-write_line-end
slice_bounds-write_line-end c =
    sym (length-take-le _ c.pack-n.new.payload (omega (arith, c.pack-n.ensures.value, c.pack-n.auto, few_bytes c.args.codes.now (sym c.piece_fits.ensures ∙ c.if-piece_fits.true))))

pub pack-n-requires : goal.pack-n-requires
pack-n-requires c =
    let fits = codes_parts _ (sym c.piece_fits.ensures ∙ c.if-piece_fits.true) in
    record { codes_value = fits.are; codes_len_bound = omega (arith, fits.few) }

pub returns-then-piece_fits : goal.returns-then-piece_fits
returns-then-piece_fits c =
    let is = sym c.piece_fits.ensures ∙ c.if-piece_fits.true in
    let few = few_bytes c.args.codes.now is in
    let front : take c.pack-n.result c.pack-n.new.payload ≡ code_bytes c.args.codes.now =
    packed_front _ (replicate 64 0) _ _ c.pack-n.ensures.value c.pack-n.ensures.payload_after few in
    let both = fitting (kind_byte c.args.kind) (code_bytes c.args.codes.now) _ c.args.out.now _ _ _ is front few
    (rw c.byte.ensures at c.write_line.ensures.value) (rw c.byte.ensures at c.write_line.ensures.out_after) in
    record { value = both.0; out_after = both.1 }

pub returns-else-piece_fits : goal.returns-else-piece_fits
returns-else-piece_fits c =
    let both = not_fitting _ c.args.out.now _ (sym c.piece_fits.ensures ∙ c.if-piece_fits.false) in
    record { value = both.0; out_after = both.1 }
