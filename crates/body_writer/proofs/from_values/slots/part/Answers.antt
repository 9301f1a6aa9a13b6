use Rattle.std.proofs.Common.{ap, ◌∙◌, arith, get_or, rules}
use Rattle.values.specs.Datum.{null}
use Rattle.body_writer.specs.Slots.{cell_of}
use Rattle.body_writer.proofs.Cells.{part-read}
use Rattle.body_writer.proofs.from_values.slots.part.Goals as goal

pub returns-in-Struct : goal.returns-in-Struct
returns-in-Struct c =
    let read = c.get.ensures.lookup.4 (omega arith) null ∙ ap (λ ds. get_or ds c.args.j null) c.deref.ensures.value in
    part-read c.get.result c.args.j c.in-Struct.children.items (cell_of c.args.cell) read (search rules)
