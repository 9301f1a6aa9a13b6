use Rattle.std.proofs.Common.{◌∙◌, ap, get_or, refl}
use Rattle.std.specs.Prelude.{if◌then◌else◌}
use Rattle.values.specs.Coded.{is_coded}
use Rattle.values.specs.Rose.{Rose}
use Rattle.values.specs.declared.layout.Layout.{Layout}
use Rattle.body_writer.specs.Slots.{cells_of}
use Rattle.body_writer.proofs.Rows.{cells_in}
use Rattle.stream_writer.proofs.IndexedBodies.{indexing-call, indexing-done, indexing-next, indexing-start}
use Rattle.stream_writer.proofs.coded_batch.write_indexed_body.Goals as goal

pub loop-j-init : goal.loop-j-init
loop-j-init c =
    indexing-start c.args.coded.now c.args.layouts.now (cells_in c.args.rows.now) c.in_ok-body.body c.requires.batch
    (record { nodes = c.in_ok-body.ensures.nodes; ranges = c.in_ok-body.ensures.ranges; bytes = c.in_ok-body.ensures.bytes })

pub write_column_from_values-requires : goal.write_column_from_values-requires
write_column_from_values-requires c =
    let coded = c.args.coded.now in
    let ts = c.args.layouts.now in
    let j = c.loop-j.j in
    let d : Rose Layout = c.index_tree-indices.result in
    let t : Rose Layout = get_or ts j d in
    let layout_is = c.layout_shown-layout.ensures
    ∙ ap (λ (u : Rose Layout). if is_coded coded j then u else t) c.index_tree-indices.ensures in
    let cells_is = ap cells_of c.deref.ensures.value ∙ c.in_ok-cells.ensures in
    let call =
    indexing-call coded j ts (cells_in c.args.rows.now) c.loop-j.body t d c.layout_shown-layout.result.now
    (cells_of c.deref.result.now) c.loop-j-test.true refl layout_is cells_is c.loop-j.invariant in
    record { layouts = call.0; held = call.1; light = call.2 }

pub loop-j-preserved : goal.loop-j-preserved
loop-j-preserved c =
    let coded = c.args.coded.now in
    let ts = c.args.layouts.now in
    let j = c.loop-j.j in
    let d : Rose Layout = c.index_tree-indices.result in
    let t : Rose Layout = get_or ts j d in
    let layout_is = c.layout_shown-layout.ensures
    ∙ ap (λ (u : Rose Layout). if is_coded coded j then u else t) c.index_tree-indices.ensures in
    let cells_is = ap cells_of c.deref.ensures.value ∙ c.in_ok-cells.ensures in
    indexing-next coded j ts (cells_in c.args.rows.now) c.loop-j.body c.write_column_from_values.new.body t d
    c.layout_shown-layout.result.now (cells_of c.deref.result.now) c.loop-j-test.true refl layout_is cells_is
    c.loop-j.invariant c.in_ok-write_column_from_values.ensures

pub returns : goal.returns
returns c =
    let rows = cells_in c.args.rows.now in
    let written =
    indexing-done c.args.coded.now c.loop-j.j c.args.layouts.now rows c.loop-j.body c.loop-j-test.false
    c.loop-j.invariant in
    record { nodes = written.nodes; ranges = written.ranges; bytes = written.bytes }
