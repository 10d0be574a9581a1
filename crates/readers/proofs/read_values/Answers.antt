-- A right line's values stand in its bytes alone. Assumes nothing.
use Rattle.std.proofs.Common.{◌≡◌, sym, ◌∙◌, replicate, arith, rules}
use Rattle.payloads.specs.Lines.{kind_number}
use Rattle.kinds.specs.Kind.{kind_byte}
use Rattle.readers.proofs.Readers.{bytes_read}
use Rattle.readers.proofs.read_values.Goals as goal

pub returns-clause-values : goal.returns-clause-values
returns-clause-values g c =
    let laws = g.met.V.Values.laws in
    let z : 0 ≡ kind_number (kind_byte c.args.kind) g.row.N c.args.line.now = search rules in
    c.read.ensures
    ∙ laws.alone _ _ (bytes_read (kind_byte c.args.kind) g.row.N c.args.line.now (replicate 67 0) _ laws.few (omega arith) c.read_kind.ensures.bytes_after (sym z))
