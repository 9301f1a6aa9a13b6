use Rattle.std.proofs.Common.{◌≡◌, ◌∙◌, length, arith, ap, sym, inr}
use Rattle.std.proofs.lemmas.List.{length-map}
use Rattle.values.specs.Rose.{kids_of}
use Rattle.body_writer.specs.Batch.{row_weight}
use Rattle.body_writer.specs.RowRanges.{rows_of}
use Rattle.stream_writer.specs.Stream.{trees}
use Rattle.stream_writer.specs.Weights.{weights_of}
use Rattle.stream_writer.proofs.BatchRowLemmas.{as-many, sized-as}
use Rattle.stream_writer.proofs.table.write_weighed_batches.Goals as goal

pub write_messages-requires-clause-fits : goal.write_messages-requires-clause-fits
write_messages-requires-clause-fits g c =
    let fs = c.args.schema.now.fields.items in
    let rows = rows_of c.args.batches.now in
    let ls = c.deref.result.now in
    let same : kids_of ls ≡ trees fs = ap kids_of c.deref.ensures.value ∙ c.in_ok-layouts.ensures in
    let many = ap length c.requires.weighed ∙ length-map rows (row_weight (trees fs)) in
    record {
      sized = sized-as (length ls) (length fs) c.args.batches.now (as-many ls fs same) c.requires.sized;
      weighed = inr (c.requires.weighed ∙ ap (λ us. weights_of us rows) (sym same));
      left = many;
      small = omega (arith, many, c.requires.table.few);
    }
