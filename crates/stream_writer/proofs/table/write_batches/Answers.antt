use Rattle.std.proofs.Common.{◌≡◌, ◌∙◌, length, arith, ap, refl, inl}
use Rattle.values.specs.Rose.{kids_of}
use Rattle.body_writer.specs.RowRanges.{rows_of}
use Rattle.stream_writer.specs.Stream.{trees}
use Rattle.stream_writer.proofs.BatchRowLemmas.{as-many, light-as, sized-as}
use Rattle.stream_writer.proofs.table.write_batches.Goals as goal

pub write_messages-requires-clause-fits : goal.write_messages-requires-clause-fits
write_messages-requires-clause-fits g c =
    let fs = c.args.schema.now.fields.items in
    let ls = c.deref.result.now in
    let same : kids_of ls ≡ trees fs = ap kids_of c.deref.ensures.value ∙ c.in_ok-layouts.ensures in
    record {
      sized = sized-as (length ls) (length fs) c.args.batches.now (as-many ls fs same) c.requires.sized;
      weighed = inl (refl, light-as (kids_of ls) (trees fs) (rows_of c.args.batches.now) same c.requires.light);
      left = c.requires.rows;
      small = omega (arith, c.requires.rows, c.requires.table.few);
    }
