-- The first of the ordered places whose code is not below c has c, and is then its first place; or no place has it. Assumes nothing.
use mathlib.Core.Path.{sym, ◌∙◌}
use lib.ListN.{length}
use borrow.Author.Rules.{rules}
use borrow.Author.Tests.{tests}
use Rattle.order.specs.Order.{Ordered}
use Rattle.order.proofs.Sorting.{computes}
use Rattle.ownership.proofs.Owns.{own_none}
use Rattle.ordered.specs.Lower.{Lower}
use Rattle.ordered.proofs.Lowers.{by_merely, is_below, lower_at, owner_past, owner_found, owner_other}
use Rattle.ordered.proofs.SortedOwners.owner_of.Goals as goal
use Rattle.ordered.proofs.SortedOwners.owner_of.Goals.{After-partition_point-k}

-- where c would stand
stands : (c : After-partition_point-k) → Ordered c.args.self.now.second.now c.args.self.now.order.now c.args.self.now.order.now (length c.args.self.now.order.now)
    → Lower c.args.self.now.second.now c.args.self.now.order.now (length c.args.self.now.order.now) c.args.c c.partition_point-k.result c.partition_point-k.result
stands c o =
    let test = is_below c.args.self.now.second.now c.args.c in
    lower_at c.args.c c.partition_point-k.result o c.partition_point-k.ensures.bound
    (c.partition_point-k.ensures.partitioned test (computes test (λ a r f q. search (rules, tests))))

pub returns-then-c-eq0 : goal.returns-then-c-eq0
returns-then-c-eq0 c =
    own_none c.args.self.now.second.now c.if-c-eq0.true

pub returns-in-Some : goal.returns-in-Some
returns-in-Some c =
    let item = c.in-Some.ensures.lookup.3 in
    let e = item.1 0 in
    by_merely c.args.self.now.ordered (λ o.
    rw e (owner_found c.if-c-eq0.false o (stands (goal.at.returns-in-Some c).After-partition_point-k o) item.0 (rw e at (sym c.code_at.ensures ∙ c.if-code_at-c.true))))

pub returns-in_default : goal.returns-in_default
returns-in_default c =
    let item = c.in-Some.ensures.lookup.3 in
    let e = item.1 0 in
    by_merely c.args.self.now.ordered (λ o.
    owner_other c.if-c-eq0.false o (stands (goal.at.returns-in_default c).After-partition_point-k o) item.0 (λ z. c.if-code_at-c.false (c.code_at.ensures ∙ rw e z)))

pub returns-in_default-2 : goal.returns-in_default-2
returns-in_default-2 c =
    let none = rw c.in_default.is at c.get.ensures.lookup in
    by_merely c.args.self.now.ordered (λ o.
    owner_past c.if-c-eq0.false o (stands (goal.at.returns-in_default-2 c).After-partition_point-k o) none.3)
