-- The first key of the bucket that is not below the code has it, and then stands at its first place; or no place has it. Assumes nothing.
use mathlib.Core.Path.{◌≡◌, ap, ◌∙◌}
use mathlib.Core.List.{List}
use Prim.Native.Nat.{ℕ}
use native.Mathlib.Omega.{arith}
use lib.ListN.{get_or}
use Rattle.ownership.proofs.Owns.{own_none}
use Rattle.directory.specs.Directory.{bucket_of}
use Rattle.directory.proofs.Buckets.{bucket_small}
use Rattle.directory.proofs.Lookups.{EndOf, index_long, can_reach, rank_inside, owner_past, owner_other, owner_found}
use Rattle.directory.proofs.DirectoryOwners.owner_of.Goals as goal
use Rattle.directory.proofs.DirectoryOwners.owner_of.Goals.{else-q-end-via-then-q-end+else-keys-q, else-q-end-via-else-q-end}

-- where the bucket ends
ending : {low c b end : ℕ} (ends : List ℕ) → b ≡ bucket_of low c → end ≡ get_or ends b 0 → EndOf low c ends end
ending ends at e = record { ends_at = e ∙ ap (λ (n : ℕ). get_or ends n 0) at }

pub returns-then-code-eq0 : goal.returns-then-code-eq0
returns-then-code-eq0 c = own_none c.args.self.now.codes.now c.if-code-eq0.true

pub offset_bounds-self-bucket : goal.offset_bounds-self-bucket
offset_bounds-self-bucket c = omega (arith, bucket_small)

pub bounds-self-bucket : goal.bounds-self-bucket
bounds-self-bucket c = omega (arith, bucket_small, c.args.self.now.bucketed.wide)

pub reach-begin-requires-clause-rising : goal.reach-begin-requires-clause-rising
reach-begin-requires-clause-rising c = (can_reach c.args.self.now.indexed c.args.self.now.bucketed (ending _ c.bucket.ensures c.from-end.ensures)).1

pub lower-q-requires-clause-rising : goal.lower-q-requires-clause-rising
lower-q-requires-clause-rising c = (can_reach c.args.self.now.indexed c.args.self.now.bucketed (ending _ c.bucket.ensures c.from-end.ensures)).1

pub bounds-self-q : goal.bounds-self-q
bounds-self-q c =
    let inside = rank_inside c.args.self.now.indexed c.args.self.now.bucketed (ending _ c.bucket.ensures c.from-end.ensures) c.if-code-eq0.false c.reach-begin.ensures c.lower-q.ensures c.if-q-end.true in
    omega (arith, inside, index_long c.args.self.now.indexed)

pub returns-then-keys-q : goal.returns-then-keys-q
returns-then-keys-q c =
    owner_found c.args.self.now.indexed c.args.self.now.bucketed (ending _ c.bucket.ensures c.from-end.ensures) c.if-code-eq0.false c.reach-begin.ensures c.lower-q.ensures c.if-q-end.true
    c.if-keys-q.true

pub returns-else-q-end : goal.returns-else-q-end
returns-else-q-end c =
    elim c.else-q-end.branch [
      | else-q-end-via-then-q-end+else-keys-q w ↦ owner_other c.args.self.now.indexed c.args.self.now.bucketed (ending _ c.bucket.ensures c.from-end.ensures) c.if-code-eq0.false c.reach-begin.ensures c.lower-q.ensures w.if-q-end.true w.if-keys-q.false
      | else-q-end-via-else-q-end w ↦ owner_past c.args.self.now.indexed c.args.self.now.bucketed (ending _ c.bucket.ensures c.from-end.ensures) c.if-code-eq0.false c.reach-begin.ensures c.lower-q.ensures w.if-q-end.false
    ]
