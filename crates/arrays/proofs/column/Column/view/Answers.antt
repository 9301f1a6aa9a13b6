use Rattle.values.specs.Rose.{node, kids_of}
use Rattle.arrays.proofs.ViewLemmas.{cell_within, cell_valid, cell_viewed}
use Rattle.arrays.proofs.column.Column.view.Goals as goal

pub view_slot-requires-clause-below : goal.view_slot-requires-clause-below
view_slot-requires-clause-below c =
    let p = c.parts-parts.result in
    cell_within p.body.now (node p.own.now (kids_of p.children.now)) c.args.self.now.cells c.args.i
    c.parts-parts.ensures.cells c.requires

pub view_slot-requires-clause-valid : goal.view_slot-requires-clause-valid
view_slot-requires-clause-valid c =
    let p = c.parts-parts.result in
    cell_valid p.body.now (node p.own.now (kids_of p.children.now)) c.args.self.now.cells c.args.i
    c.parts-parts.ensures.cells c.requires

pub returns : goal.returns
returns c =
    let p = c.parts-parts.result in
    cell_viewed p.body.now (node p.own.now (kids_of p.children.now)) c.args.self.now.cells c.args.i _
    c.parts-parts.ensures.cells c.requires c.view_slot.ensures
