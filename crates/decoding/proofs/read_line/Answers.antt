-- Each way out is one case of the definition, by what was stored and summed. Assumes nothing.
use Rattle.std.proofs.Common.{sym, ◌∙◌, arith, rules}
use Rattle.decoding.proofs.Decoding.{line_parts}
use Rattle.decoding.proofs.Frames.{no_line, length_wrong, check_wrong, is_frame}
use Rattle.decoding.proofs.read_line.Goals as goal

pub returns-then-not-is_line : goal.returns-then-not-is_line
returns-then-not-is_line c =
    let both = no_line c.args.line.now c.args.bytes.now (sym c.is_line.ensures ∙ c.if-not-is_line.true) in
    record { value = both.0; bytes_after = both.1 }

pub decode-found-requires : goal.decode-found-requires
decode-found-requires c =
    let p = line_parts _ (sym c.is_line.ensures ∙ c.if-not-is_line.false) in
    record { line_value = p.ends; line_len_bound = omega (arith, p.most, c.requires) }

pub returns-then-size-found : goal.returns-then-size-found
returns-then-size-found c =
    let both = length_wrong c.args.line.now c.args.bytes.now _ _ _ _ (sym c.is_line.ensures ∙ c.if-not-is_line.false) c.requires c.decode-found.ensures.bytes_after
    c.decode-found.ensures.count_value.0 c.decode-found.ensures.count_value.1 (search rules) c.if-size-found.true in
    record { value = both.0; bytes_after = both.1 }

pub returns-then-found-ne0 : goal.returns-then-found-ne0
returns-then-found-ne0 c =
    let both = check_wrong c.args.line.now c.args.bytes.now _ _ _ _ (sym c.is_line.ensures ∙ c.if-not-is_line.false) c.requires c.decode-found.ensures.bytes_after
    c.decode-found.ensures.count_value.0 c.decode-found.ensures.count_value.1 (search rules) c.if-size-found.false c.if-found-ne0.true in
    record { value = both.0; bytes_after = both.1 }

pub returns : goal.returns
returns c =
    let both = is_frame c.args.line.now c.args.bytes.now _ _ _ _ (sym c.is_line.ensures ∙ c.if-not-is_line.false) c.requires c.decode-found.ensures.bytes_after
    c.decode-found.ensures.count_value.0 c.decode-found.ensures.count_value.1 (search rules) c.if-size-found.false c.if-found-ne0.false in
    record { value = both.0; bytes_after = both.1 }
