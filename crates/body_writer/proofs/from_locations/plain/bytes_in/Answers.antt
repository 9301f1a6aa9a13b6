use Rattle.std.proofs.Common.{◌+◌, arith, subst, sym}
use Rattle.body_writer.proofs.GatheredCells.{AreBytes, bytes-between}
use Rattle.body_writer.proofs.from_locations.plain.bytes_in.Goals as goal

pub returns-clause-small : goal.returns-clause-small
returns-clause-small c =
    let r = c.args.range.now in
    subst AreBytes (sym c.buffer.ensures)
    (bytes-between c.args.body.now r.from (r.from + r.len) (λ n. omega (arith, c.type_inv.body n)))
