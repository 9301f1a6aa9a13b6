use Rattle.std.proofs.Common.{◌<◌, ◌≤◌, ◌∙◌, List, [], ◌∷◌, ap, arith, length}
use Rattle.std.specs.Prelude.{Vec, map}
use Rattle.std.specs.declared.alloc.Global.{Global}
use Rattle.std.proofs.lemmas.List.{map-append}
use Rattle.values.specs.Datum.{Datum}
use Rattle.stream_writer.specs.JoinedRows.{joined_rows}
use Rattle.stream_writer.proofs.JoinedLemmas.{joined-many}
use Rattle.stream_writer.proofs.PlaceRowLemmas.{copied-end, copied-more}
use Rattle.stream_writer.proofs.joined_copies.copy_joined.Goals as goal

abbrev items_of : Vec Datum Global → List Datum
items_of row = row.items

pub loop-index-preserved : goal.loop-index-preserved
loop-index-preserved c =
    let columns = c.args.columns.now in
    let rows = joined_rows c.args.rows.now in
    let many = joined-many columns c.args.rows.now c.requires in
    let below : c.loop-index.index < length rows = omega (arith, c.loop-index-test.true, many) in
    let row = c.in_ok-copy_row.field-0 in
    copied-more columns rows c.loop-index.index row.items (map items_of c.loop-index.copies.items)
    (map items_of c.push.new.self.items) _ below c.in_ok-copy_row.ensures
    (ap (map items_of) c.in_ok-push.ensures.items ∙ map-append items_of c.loop-index.copies.items (row ∷ []))
    c.loop-index.invariant

pub returns : goal.returns
returns c =
    let columns = c.args.columns.now in
    let rows = joined_rows c.args.rows.now in
    let many = joined-many columns c.args.rows.now c.requires in
    let end : length rows ≤ c.loop-index.index = omega (arith, c.loop-index-test.false, many) in
    copied-end columns rows c.loop-index.index (map items_of c.loop-index.copies.items) _ end c.loop-index.invariant
