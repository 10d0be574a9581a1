-- `listing::is_listed` meets its contract: the shorter span is tested first, and then whether the match is closed. Assumes nothing.
use mathlib.Core.Path.{sym, ap, ◌∙◌, ap₂}
use mathlib.Core.Bool.{not}
use Prim.Native.Nat.{min}
use native.Mathlib.Omega.{arith}
use borrow.Author.Tests.{lt-leb}
use Rattle.rules.specs.Listing.{first_span, second_span}
use Rattle.listing.proofs.Closing.{short_fails, long_passes}
use Rattle.listing.proofs.is_listed.Goals as goal

pub returns-then-m-min : goal.returns-then-m-min
unfolding first_span second_span
returns-then-m-min c =
    ap not c.is_open.ensures ∙ long_passes c.args.latest.now c.args.t c.args.x c.args.c (c.min.ensures ∙ ap₂ min c.span-first.ensures c.span-second.ensures) (omega arith)

pub returns-else-m-min : goal.returns-else-m-min
unfolding first_span second_span
returns-else-m-min c =
    lt-leb c.from-m.result c.min.result c.if-m-min.false
    ∙ sym (short_fails c.args.latest.now c.args.t c.args.x c.args.c (c.min.ensures ∙ ap₂ min c.span-first.ensures c.span-second.ensures) (omega arith))
