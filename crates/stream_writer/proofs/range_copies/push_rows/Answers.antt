use Rattle.std.proofs.Common.{◌++◌, ◌∙◌, List, [], ◌∷◌, ap, sym}
use Rattle.std.specs.Prelude.{Vec, map}
use Rattle.std.specs.declared.alloc.Global.{Global}
use Rattle.std.proofs.lemmas.List.{map-append}
use Rattle.values.specs.Datum.{Datum}
use Rattle.arrays.specs.Checked.{CheckedColumn}
use Rattle.schema_meta.specs.Rows.{row_at}
use Rattle.body_writer.specs.RowRanges.{cells_in}
use Rattle.body_writer.specs.Picked.{picked, picked_rows}
use Rattle.stream_writer.proofs.RangeLemmas.{copied-end, copied-more, range-rows}
use Rattle.stream_writer.proofs.range_copies.push_rows.Goals as goal

abbrev items_of : Vec Datum Global → List Datum
items_of row = row.items

pub loop-index-init : goal.loop-index-init
loop-index-init c =
    ap (λ rs. map items_of c.args.rows.now.items ++ picked_rows c.args.columns.now rs)
    (sym (range-rows c.requires.0 c.args.range.now c.requires.1))

pub loop-index-preserved : goal.loop-index-preserved
loop-index-preserved c =
    let l = c.loop-index in
    let row = c.in_ok-copy_row.field-0 in
    let cells = cells_in c.args.range.now.batch.now.columns.items in
    copied-more c.args.columns.now cells l.index c.args.range.now.to row.items (map items_of l.rows.items)
    (map items_of c.push.new.self.items) _ c.loop-index-test.true
    (c.in_ok-copy_row.ensures
    ∙ ap (λ (ks : List CheckedColumn). picked c.args.columns.now (row_at (cells_in ks) l.index)) c.deref.ensures.value)
    (ap (map items_of) c.in_ok-push.ensures.items ∙ map-append items_of l.rows.items (row ∷ [])) l.invariant

pub returns : goal.returns
returns c =
    copied-end c.args.columns.now (cells_in c.args.range.now.batch.now.columns.items) c.loop-index.index
    c.args.range.now.to (map items_of c.loop-index.rows.items) _ c.loop-index-test.false c.loop-index.invariant
