-- Assumes nothing.
use Rattle.std.proofs.Common.{◌<◌, length-take, arith}
use Rattle.output.proofs.Writing.{was_written, as_long, writing_start, writing_length, writing_next, chunk_is_entry}
use Rattle.output.proofs.put_entries.Goals as goal

pub slice_bounds-put_entry-count : goal.slice_bounds-put_entry-count
slice_bounds-put_entry-count c = omega (arith, c.as_chunks.ensures.front_len, c.requires.held)

pub loop-entry-init : goal.loop-entry-init
loop-entry-init c = writing_start

pub unwrap-at-requires : goal.unwrap-at-requires
unwrap-at-requires c =
    let h : c.loop-entry.entry-index < c.args.count = omega (arith, length-take c.args.count c.as_chunks.result.0.now) in
    let en = chunk_is_entry _ _ _ _ c.as_chunks.ensures.front h c.requires.held in
    was_written (writing_length c.requires c.loop-entry.invariant h en c.put_entry.result c.put_entry.ensures.value c.put_entry.ensures.output_after)

pub overflow_add-at : goal.overflow_add-at
overflow_add-at c =
    let h : c.loop-entry.entry-index < c.args.count = omega (arith, length-take c.args.count c.as_chunks.result.0.now) in
    let en = chunk_is_entry _ _ _ _ c.as_chunks.ensures.front h c.requires.held in
    let l = writing_length c.requires c.loop-entry.invariant h en c.put_entry.result c.put_entry.ensures.value c.put_entry.ensures.output_after in
    omega (arith, as_long c.unwrap-at.ensures l, c.requires.few, c.loop-entry.invariant.place)

pub loop-entry-preserved : goal.loop-entry-preserved
loop-entry-preserved c =
    let h : c.loop-entry.entry-index < c.args.count = omega (arith, length-take c.args.count c.as_chunks.result.0.now) in
    let en = chunk_is_entry _ _ _ _ c.as_chunks.ensures.front h c.requires.held in
    let l = writing_length c.requires c.loop-entry.invariant h en c.put_entry.result c.put_entry.ensures.value c.put_entry.ensures.output_after in
    writing_next c.requires c.loop-entry.invariant h en c.put_entry.result c.put_entry.ensures.value c.put_entry.ensures.output_after c.unwrap-at.result (as_long c.unwrap-at.ensures l)
