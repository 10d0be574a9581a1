-- The line is that of the payload, which is never too long for one. Assumes nothing.
use Rattle.std.proofs.Common.{◌≤◌, length, arith}
use Rattle.kinds.specs.Kind.{kind_byte}
use Rattle.writers.proofs.Writers.{short_payload}
use Rattle.writers.proofs.write_values.Goals as goal

pub returns : goal.returns
returns g c =
    let laws = g.met.V.Values.laws in
    let s : length (g.V.Values.bytes_of c.args.values) ≤ 64 = omega (arith, laws.sized c.args.values, laws.few) in
    let both = short_payload (kind_byte c.args.kind) (g.V.Values.bytes_of c.args.values) _ c.args.out.now _ _ _ _ c.fits.ensures c.payload.ensures s
    c.write_fitting.ensures.value c.write_fitting.ensures.out_after in
    record { value = both.0; out_after = both.1 }
