-- `accepted::compare_coded` meets its contract: the job on the walks of both strands is the job on their matches. Assumes nothing.
use mathlib.Core.Path.{sym}
use Rattle.rules.proofs.Masks.{read_length}
use Rattle.accepted.proofs.Walking.{both_walks, walks_fit, compares}
use Rattle.accepted.proofs.compare_coded.Goals as goal

pub slice_bounds-reverse_firsts-end : goal.slice_bounds-reverse_firsts-end
slice_bounds-reverse_firsts-end c =
    (both_walks c.requires c.both-reverse_rows.ensures).reverse.inside

pub slice_bounds-strands-end-3 : goal.slice_bounds-strands-end-3
slice_bounds-strands-end-3 c =
    (both_walks c.requires c.both-reverse_rows.ensures).reverse.long

pub invariant_of-strands : goal.invariant_of-strands
invariant_of-strands c = record { safe = (both_walks c.requires c.both-reverse_rows.ensures).forward.safe }

pub invariant_of-strands-2 : goal.invariant_of-strands-2
invariant_of-strands-2 c = record { safe = (both_walks c.requires c.both-reverse_rows.ensures).reverse.safe }

pub returns : goal.returns
returns c =
    let letters = sym (read_length c.args.c.mask c.args.second.now) in
    compares (both_walks c.requires c.both-reverse_rows.ensures) _ _ letters c.compare_matches.ensures

pub compare_matches-requires : goal.compare_matches-requires
compare_matches-requires c =
    let m = both_walks c.requires c.both-reverse_rows.ensures in
    record { walked = walks_fit c.requires m.forward; walked_2 = walks_fit c.requires m.reverse; letters_bound = c.requires.short_second }
