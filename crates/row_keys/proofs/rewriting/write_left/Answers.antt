use Rattle.std.proofs.Common.{◌≡◌, ◌∙◌, All, List, ap, length, subst, sym}
use Rattle.values.specs.Rose.{kids_of}
use Rattle.body_writer.specs.RowRanges.{IsRange, ranges_rows}
use Rattle.body_writer.specs.declared.from_columns.batch.RowRange.{RowRange}
use Rattle.body_writer.specs.Batch.{IsBatch}
use Rattle.row_keys.specs.Batches.{batch_rows}
use Rattle.row_keys.proofs.MergedChunks.{few_rows, made_of}
use Rattle.row_keys.proofs.rewriting.write_left.Goals as goal

pub are_few-requires-clause-ranges : goal.are_few-requires-clause-ranges
are_few-requires-clause-ranges c = (length c.args.layouts.now, c.requires.ranges)

pub merge_rows-requires-clause-ranges : goal.merge_rows-requires-clause-ranges
merge_rows-requires-clause-ranges c =
    let P : List RowRange → Type 0 = λ rs. All (IsRange (length c.args.layouts.now)) rs in
    subst P (sym c.deref.ensures.value) c.requires.ranges

pub merge_rows-requires-clause-batch : goal.merge_rows-requires-clause-batch
merge_rows-requires-clause-batch c =
    let P : List RowRange → Type 0 = λ rs. IsBatch (kids_of c.args.layouts.now) (ranges_rows rs) in
    subst P (sym c.deref.ensures.value)
    (few_rows (kids_of c.args.layouts.now) (ranges_rows c.args.left.ranges.items) (length c.args.left.numbers.items)
    c.requires.many (c.in_ok-are_few.ensures.few c.if-not-branch.false) c.requires.held c.requires.narrow
    c.requires.layouts (c.in_ok-are_few.ensures.light c.if-not-branch.false))

pub make_chunk-requires : goal.make_chunk-requires
make_chunk-requires c = λ k d below.
    c.in_ok-columns.ensures.long k d below ∙ ap (λ rs. length (ranges_rows rs)) c.deref.ensures.value
    ∙ sym c.requires.many

pub returns : goal.returns
returns c =
    let numbers = c.args.left.numbers.items in
    let rows = ranges_rows c.args.left.ranges.items in
    let written : batch_rows (length numbers) c.in_ok-columns.columns.items ≡ rows =
    ap (λ n. batch_rows n c.in_ok-columns.columns.items) c.requires.many
    ∙ ap (λ rs. batch_rows (length (ranges_rows rs)) c.in_ok-columns.columns.items) (sym c.deref.ensures.value)
    ∙ c.in_ok-columns.ensures.rows ∙ ap ranges_rows c.deref.ensures.value in
    made_of c.args.first c.args.span numbers (batch_rows (length numbers) c.in_ok-columns.columns.items) rows
    c.in_ok-chunk.chunk written c.in_ok-chunk.ensures.first c.in_ok-chunk.ensures.span c.in_ok-chunk.ensures.made
