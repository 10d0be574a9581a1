-- `output::put_refused` meets its contract: the line fits and has room. Assumes nothing.
use Rattle.output.proofs.Writing.{was_written, as_long}
use Rattle.output.proofs.Answering.{refused_written}
use Rattle.output.proofs.put_refused.Goals as goal

pub unwrap-requires : goal.unwrap-requires
unwrap-requires c =
    let w = c.write_refused in
    was_written (refused_written c.args.x c.args.output.now w.new.out w.result c.requires.x_value c.requires.in_bounds w.ensures.value w.ensures.out_after).0

pub returns : goal.returns
returns c =
    let w = c.write_refused in
    let both = refused_written c.args.x c.args.output.now w.new.out w.result c.requires.x_value c.requires.in_bounds w.ensures.value w.ensures.out_after in
    record { value = as_long c.unwrap.ensures both.0; output_after = both.1 }
