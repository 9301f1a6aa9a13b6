use Rattle.std.proofs.Common.{arith, sym}
use Rattle.values.specs.Rose.{kids_of}
use Rattle.stream_writer.proofs.RangeBoundLemmas.{IsFlat, values-bounded}
use Rattle.stream_writer.proofs.range_bounds.bound_values.Goals as goal

pub returns : goal.returns
returns c =
    let flat : IsFlat c.layout.inside.layout =
    record { list = c.in_default.not-List; struct = c.in_default.not-Struct } in
    let small = c.if-most-gt-MAX_CELL_WEIGHT.false in
    values-bounded c.args.layout.now c.layout.inside.layout (kids_of c.layout.inside.children.items) c.args.column.now
    c.args.from c.args.to c.bound_cells.result c.null_weight.result c.max-most.result (sym c.layout.view_is) flat c.law.ensures
    c.requires c.bound_cells.ensures c.null_weight.ensures c.max-most.ensures (omega (arith, small))
