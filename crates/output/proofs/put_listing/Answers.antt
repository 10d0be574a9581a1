-- `output::put_listing` meets its contract: the done frame goes behind the entries. Assumes nothing.
use Rattle.std.proofs.Common.{refl, arith}
use Rattle.rules.specs.Answers.{done}
use Rattle.output.specs.Output.{done_of}
use Rattle.output.proofs.Writing.{was_written, as_long}
use Rattle.output.proofs.Answering.{done_written, done_ends, listing_written}
use Rattle.output.proofs.put_listing.Goals as goal

pub unwrap-requires : goal.unwrap-requires
unfolding done done_of
unwrap-requires c =
    let a = c.args in
    let e = c.put_entries-at in
    let w = c.write_done in
    was_written (done_written a.list.now a.output.now e.new.output _ a.tallies.listed e.result c.requires refl e.ensures.value e.ensures.output_after w.new.out w.result w.ensures.value w.ensures.out_after)

pub overflow_add-result : goal.overflow_add-result
unfolding done done_of
overflow_add-result c =
    let a = c.args in
    let e = c.put_entries-at in
    let w = c.write_done in
    let l = done_written a.list.now a.output.now e.new.output _ a.tallies.listed e.result c.requires refl e.ensures.value e.ensures.output_after w.new.out w.result w.ensures.value w.ensures.out_after in
    let f = done_ends a.list.now a.output.now e.new.output _ a.tallies.listed e.result c.requires refl e.ensures.value e.ensures.output_after w.new.out w.result w.ensures.value w.ensures.out_after in
    omega (arith, as_long c.unwrap.ensures l, f)

pub returns : goal.returns
unfolding done done_of
returns c =
    let a = c.args in
    let e = c.put_entries-at in
    let w = c.write_done in
    let l = done_written a.list.now a.output.now e.new.output _ a.tallies.listed e.result c.requires refl e.ensures.value e.ensures.output_after w.new.out w.result w.ensures.value w.ensures.out_after in
    let both = listing_written a.list.now a.output.now e.new.output _ a.tallies.listed e.result c.requires refl e.ensures.value e.ensures.output_after w.new.out w.result w.ensures.value w.ensures.out_after
    c.unwrap.result (as_long c.unwrap.ensures l) in
    record { value = both.0; output_after = both.1 }
