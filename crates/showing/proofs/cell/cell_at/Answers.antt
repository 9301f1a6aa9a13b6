use Rattle.values.specs.Rose.{node, kids_of}
use Rattle.showing.proofs.Slots.{slot-below, slot-valid, slot-shown}
use Rattle.showing.proofs.cell.cell_at.Goals as goal

pub slot_cell-requires-clause-below : goal.slot_cell-requires-clause-below
slot_cell-requires-clause-below c =
    slot-below _ c.parts-parts.result.own.now (kids_of c.parts-parts.result.children.now) _ _ c.parts-parts.ensures.cells
    c.requires

pub slot_cell-requires-clause-valid : goal.slot_cell-requires-clause-valid
slot_cell-requires-clause-valid c =
    slot-valid c.parts-parts.result.body.now
    (node c.parts-parts.result.own.now (kids_of c.parts-parts.result.children.now)) _ c.args.i
    c.parts-parts.ensures.cells c.requires

pub returns-clause-value : goal.returns-clause-value
returns-clause-value c =
    slot-shown c.parts-parts.result.body.now
    (node c.parts-parts.result.own.now (kids_of c.parts-parts.result.children.now)) c.args.column.now.cells c.args.i _
    c.parts-parts.ensures.cells c.requires c.slot_cell.ensures.value
