-- Too long a payload and too short a slice refuse; else the five stores are the line. Assumes nothing.
use Rattle.std.proofs.Common.{arith}
use Rattle.lines.proofs.Lines.{line_length, refuses, writes, payload_long, slice_short, has_room, line_stored}
use Rattle.lines.proofs.write_line.Goals as goal

pub returns-then-payload-gt64 : goal.returns-then-payload-gt64
returns-then-payload-gt64 c =
    let both = refuses _ c.args.out.now _ (payload_long c.args.kind c.args.payload.now c.args.out.now c.if-payload-gt64.true) in
    record { value = both.0; out_after = both.1 }

pub returns-then-out-feed : goal.returns-then-out-feed
returns-then-out-feed c =
    let both = refuses _ c.args.out.now _ (slice_short c.args.kind c.args.payload.now c.args.out.now c.if-payload-gt64.false (omega (arith, c.if-out-feed.true))) in
    record { value = both.0; out_after = both.1 }

pub returns : goal.returns
returns c =
    let both = writes _ c.args.out.now _ _ _ (has_room c.args.kind c.args.payload.now c.args.out.now c.if-payload-gt64.false c.if-out-feed.false)
    (omega (arith, line_length c.args.kind c.args.payload.now))
    (line_stored c.args.kind c.args.payload.now c.args.out.now _ _ _ _ _ _ c.if-out-feed.false (omega arith) c.check.ensures c.put_byte.ensures
    c.put_byte-2.ensures c.put_bytes.ensures c.put_byte-3.ensures) in
    record { value = both.0; out_after = both.1 }
