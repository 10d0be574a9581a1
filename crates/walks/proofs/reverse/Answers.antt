-- `walks::reverse` meets its contract: what stands in front of the array is the turned sequence, and it is matched as any other. Assumes nothing.
use mathlib.Core.Path.{◌≡◌, ap, subst, ◌∙◌}
use mathlib.Core.List.{List}
use Prim.Native.Nat.{ℕ}
use lib.ListN.{length, take}
use Rattle.rules.specs.Letters.{reverse_complement, as_read}
use Rattle.rules.specs.Strands.{on_strand}
use Rattle.rules.proofs.Masks.{read_turned}
use Rattle.walks.specs.Matched.{Columns}
use Rattle.walks.proofs.Turning.{turned_front}
use Rattle.walks.proofs.reverse.Goals as goal

pub returns : goal.returns
unfolding on_strand
returns c =
    let turned_is : take (length c.args.second.now) c.reverse_complement.new.out ≡ reverse_complement c.args.second.now = turned_front c.args.second.now _ _ c.reverse_complement.ensures in
    let read_is : as_read c.args.c.mask (take (length c.args.second.now) c.reverse_complement.new.out) ≡ reverse_complement (as_read c.args.c.mask c.args.second.now) = ap (as_read c.args.c.mask) turned_is ∙ read_turned c.args.c.mask c.args.second.now in
    subst (λ (l : List ℕ). Columns c.args.c c.args.coded.now l c.args.firsts.now c.args.nexts.now c.forward.new.firsts c.forward.new.nexts)
    read_is c.forward.ensures
