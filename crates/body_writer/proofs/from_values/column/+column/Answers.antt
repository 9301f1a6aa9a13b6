use Rattle.std.proofs.Common.{rules, ap, ◌∙◌, ◌+◌, drop}
use denote.Param.Weighed.{at_most}
use Rattle.values.proofs.Roses.{kid_smaller}
use Rattle.body_writer.specs.Slots.{cell_of, cells_of}
use Rattle.values.specs.Rose.{kids_of}
use Rattle.body_writer.proofs.Ahead.{ahead-start, ahead-first, ahead-call, ahead-next}
use Rattle.body_writer.proofs.Cells.{few-cells}
use Rattle.body_writer.proofs.WeightLemmas.{total-short}
use Rattle.body_writer.proofs.from_values.column.+column.Goals as goal

pub write_column_from_values-write_own-requires-clause-few : goal.write_column_from_values-write_own-requires-clause-few
write_column_from_values-write_own-requires-clause-few t c = few-cells cell_of c.args.layout.now c.args.cells.now c.requires.light

pub write_column_from_values-write_own-requires-clause-short : goal.write_column_from_values-write_own-requires-clause-short
write_column_from_values-write_own-requires-clause-short t c =
    total-short c.args.layout.now (cells_of c.args.cells.now) c.requires.layouts c.requires.held c.requires.light

pub write_children-loop-j-init : goal.write_children-loop-j-init
write_children-loop-j-init t c =
    ahead-start c.args.layout (kids_of c.args.children.now) (cells_of c.args.cells.now) c.args.body.now c.requires.own
    c.requires.layouts
    c.requires.held c.requires.light

pub write_children-write_column_from_values-requires : goal.write_children-write_column_from_values-requires
write_children-write_column_from_values-requires t c =
    let children = c.args.children.now in
    let child = c.index-children-j.result in
    let small = kid_smaller children c.loop-j.j child child c.index-children-j.is c.loop-j-test.true in
    let below = ap cells_of c.deref.ensures.value ∙ c.in_ok-below.ensures in
    let first =
    ahead-first c.args.layout c.loop-j.j children child (cells_of c.args.cells.now) c.loop-j.body _ _ _
    c.loop-j-test.true c.index-children-j.is c.loop-j.invariant in
    let call =
    ahead-call c.args.layout c.loop-j.j child (kids_of (drop (c.loop-j.j + 1) children)) (cells_of c.args.cells.now)
    (cells_of c.deref.result.now) c.loop-j.body _ _ _ below first in
    (search (rules, at_most, small), (call.0, (call.1, call.2)))

pub write_children-loop-j-preserved : goal.write_children-loop-j-preserved
write_children-loop-j-preserved t c =
    let children = c.args.children.now in
    let child = c.index-children-j.result in
    let below = ap cells_of c.deref.ensures.value ∙ c.in_ok-below.ensures in
    let first =
    ahead-first c.args.layout c.loop-j.j children child (cells_of c.args.cells.now) c.loop-j.body _ _ _
    c.loop-j-test.true c.index-children-j.is c.loop-j.invariant in
    ahead-next c.args.layout c.loop-j.j child (kids_of (drop (c.loop-j.j + 1) children)) (cells_of c.args.cells.now)
    (cells_of c.deref.result.now) c.loop-j.body c.write_column_from_values.new.body _ _ _ below first
    c.in_ok-write_column_from_values.ensures
