use Rattle.std.proofs.Common.{arith}
use Rattle.std.proofs.lemmas.Result.{err_from_is_err_and}
use Rattle.values.specs.Rose.{Roses, kids_of}
use Rattle.array_layout.specs.declared.array.ArrayData.{ArrayData}
use Rattle.array_layout.specs.Placing.{layouts_of}
use Rattle.dictionaries.specs.Table.{values_in}
use Rattle.schema_meta.specs.Parts.{arrays_of}
use Rattle.schema_meta.proofs.Counts.{nodes_step, ranges_step}
use Rattle.schema_meta.proofs.Places.{arrays_end, arrays_from, arrays_next}
use Rattle.feed.proofs.GatherLemmas.{
  columns-none,
  columns-more,
  columns-fails,
  columns-end,
  layouts-none,
  layouts-more,
  layouts-end,
  placed-first,
  placed-rest,
  typed-first,
  typed-rest,
}
use Rattle.feed.proofs.columns.check_columns.Goals as goal

pub loop-field-init : goal.loop-field-init
unfolding arrays_of
loop-field-init c =
    let all : Roses ArrayData =
    arrays_from (values_in c.args.dicts.now) c.args.header.now.nodes c.args.header.now.ranges 0 0
    (kids_of c.args.fields.now) in
    record {
      cells = columns-none c.args.body.now.value.items all _ c.in_ok-columns.ensures.items;
      layouts = layouts-none all _ c.in_ok-columns.ensures.items;
      placed = c.requires.placed;
      typed = c.requires.dictionary;
      nodes = omega (arith, c.requires.nodes);
      ranges = omega (arith, c.requires.ranges);
    }

pub place_array-requires-clause-nodes : goal.place_array-requires-clause-nodes
place_array-requires-clause-nodes c =
    let step =
    nodes_step c.args.fields.now c.loop-field.field-index c.field-item.result c.field-item.result c.field-item.is
    c.loop-field-test.true in
    omega (arith, step, c.loop-field.invariant.nodes)

pub place_array-requires-clause-ranges : goal.place_array-requires-clause-ranges
place_array-requires-clause-ranges c =
    let step =
    ranges_step c.args.fields.now c.loop-field.field-index c.field-item.result c.field-item.result c.field-item.is
    c.loop-field-test.true in
    omega (arith, step, c.loop-field.invariant.ranges)

pub check_column-requires-clause-placed : goal.check_column-requires-clause-placed
check_column-requires-clause-placed c =
    let next =
    arrays_next (values_in c.args.dicts.now) c.args.header.now.nodes c.args.header.now.ranges c.args.fields.now
    c.loop-field.field-index c.field-item.result c.field-item.result c.loop-field.at.node c.loop-field.at.range
    c.place_array.new.at.node c.place_array.new.at.range c.in_ok-array.array c.field-item.is c.loop-field-test.true
    c.in_ok-array.ensures.array c.in_ok-array.ensures.node c.in_ok-array.ensures.range in
    placed-first c.args.body.now.value.items _ _ c.in_ok-array.array next c.loop-field.invariant.placed

pub check_column-requires-clause-dictionary : goal.check_column-requires-clause-dictionary
check_column-requires-clause-dictionary c =
    let next =
    arrays_next (values_in c.args.dicts.now) c.args.header.now.nodes c.args.header.now.ranges c.args.fields.now
    c.loop-field.field-index c.field-item.result c.field-item.result c.loop-field.at.node c.loop-field.at.range
    c.place_array.new.at.node c.place_array.new.at.range c.in_ok-array.array c.field-item.is c.loop-field-test.true
    c.in_ok-array.ensures.array c.in_ok-array.ensures.node c.in_ok-array.ensures.range in
    typed-first _ _ c.in_ok-array.array next c.loop-field.invariant.typed

pub returns-in_err-check_column-clause-reading : goal.returns-in_err-check_column-clause-reading
returns-in_err-check_column-clause-reading c =
    let failed =
    err_from_is_err_and c.from_residual-in_err-check_column.result c.from_residual-in_err-check_column.ensures.1 in
    let next =
    arrays_next (values_in c.args.dicts.now) c.args.header.now.nodes c.args.header.now.ranges c.args.fields.now
    c.loop-field.field-index c.field-item.result c.field-item.result c.loop-field.at.node c.loop-field.at.range
    c.place_array.new.at.node c.place_array.new.at.range c.in_ok-array.array c.field-item.is c.loop-field-test.true
    c.in_ok-array.ensures.array c.in_ok-array.ensures.node c.in_ok-array.ensures.range in
    rw (failed.1, failed.2) (
    columns-fails c.args.body.now.value.items _ _ c.in_ok-array.array c.loop-field.columns.items
    c.in_err-check_column.field-0.0 _ next c.in_err-check_column.ensures.reading c.loop-field.invariant.cells)

pub loop-field-preserved : goal.loop-field-preserved
loop-field-preserved c =
    let at = c.loop-field.invariant in
    let made = c.loop-field.columns.items in
    let next =
    arrays_next (values_in c.args.dicts.now) c.args.header.now.nodes c.args.header.now.ranges c.args.fields.now
    c.loop-field.field-index c.field-item.result c.field-item.result c.loop-field.at.node c.loop-field.at.range
    c.place_array.new.at.node c.place_array.new.at.range c.in_ok-array.array c.field-item.is c.loop-field-test.true
    c.in_ok-array.ensures.array c.in_ok-array.ensures.node c.in_ok-array.ensures.range in
    let nodes =
    nodes_step c.args.fields.now c.loop-field.field-index c.field-item.result c.field-item.result c.field-item.is
    c.loop-field-test.true in
    let ranges =
    ranges_step c.args.fields.now c.loop-field.field-index c.field-item.result c.field-item.result c.field-item.is
    c.loop-field-test.true in
    rw c.in_ok-push.ensures.items (record {
      cells = columns-more c.args.body.now.value.items _ _ c.in_ok-array.array made c.in_ok-check_column.field-0 _ next
          c.in_ok-check_column.ensures.reading at.cells;
      layouts = layouts-more _ _ c.in_ok-array.array made c.in_ok-check_column.field-0 _ next
          c.in_ok-check_column.ensures.typed at.layouts;
      placed = placed-rest c.args.body.now.value.items _ _ c.in_ok-array.array next at.placed;
      typed = typed-rest _ _ c.in_ok-array.array next at.typed;
      nodes = omega (arith, nodes, c.in_ok-array.ensures.node, at.nodes);
      ranges = omega (arith, ranges, c.in_ok-array.ensures.range, at.ranges);
    })

pub returns-clause-reading : goal.returns-clause-reading
returns-clause-reading c =
    let at = c.loop-field in
    columns-end c.args.body.now.value.items _ at.columns.items _
    (arrays_end (values_in c.args.dicts.now) c.args.header.now.nodes c.args.header.now.ranges c.args.fields.now
    at.field-index at.at.node at.at.range c.loop-field-test.false) at.invariant.cells

pub returns-clause-typed : goal.returns-clause-typed
returns-clause-typed c =
    let at = c.loop-field in
    layouts-end _ at.columns.items _
    (arrays_end (values_in c.args.dicts.now) c.args.header.now.nodes c.args.header.now.ranges c.args.fields.now
    at.field-index at.at.node at.at.range c.loop-field-test.false) at.invariant.layouts
