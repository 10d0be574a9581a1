-- A line feed stands behind an even count of digits, or it is no line. Assumes nothing.
use Rattle.std.proofs.Common.{◌≡◌, ◌-◌, ◌∙◌, sym, length, take, arith, rules}
use Rattle.std.proofs.lemmas.Iterator.{YieldsList-from_slice}
use Rattle.std.proofs.lemmas.Iterator.Search.{all_from_yields_List}
use Rattle.std.specs.List.{list_all}
use Rattle.decoding.proofs.Decoding.{is_digit, line_short, no_feed, fed}
use Rattle.decoding.proofs.is_line.Goals as goal

pub returns-in-10 : goal.returns-in-10
returns-in-10 c =
    let digits = take (length c.args.line.now - 1) c.args.line.now in
    let e : c.all.result ≡ list_all is_digit digits =
    all_from_yields_List is_digit _ _ _ c.all.ensures.ran (YieldsList-from_slice digits cc) (λ x b q k. search rules) in
    e ∙ sym (fed c.args.line.now c.in-10.len_at_least (cc) ∙ rw (sym c.is_count.ensures ∙ c.if-is_count.true))

pub returns-in_default : goal.returns-in_default
returns-in_default c = sym (line_short c.args.line.now (omega arith))

pub returns-in_default-2 : goal.returns-in_default-2
returns-in_default-2 c = sym (fed c.args.line.now c.in-10.len_at_least (cc) ∙ rw (sym c.is_count.ensures ∙ c.if-is_count.false))

pub returns-in_default-3 : goal.returns-in_default-3
returns-in_default-3 c = no_feed c.args.line.now c.in_default.len_at_least (λ z. absurd (omega arith))
