use Rattle.std.proofs.Common.{◌≡◌, ◌∙◌, ap, arith, subst, sym}
use Rattle.values.specs.Rose.{kids_of}
use Rattle.values.specs.declared.schema.Schema.{Schema}
use Rattle.stream_writer.specs.Stream.{trees}
use Rattle.stream_writer.specs.ViewedRows.{AreFlat, viewed_columns}
use Rattle.stream_writer.proofs.BatchRowLemmas.{as-many, rows_from-length}
use Rattle.stream_writer.proofs.ViewLemmas.{all-long}
use Rattle.stream_writer.proofs.table.write_cells.Goals as goal

pub write_messages-requires-clause-fits : goal.write_messages-requires-clause-fits
write_messages-requires-clause-fits g c =
    let fs = c.args.schema.now.fields.items in
    let ls = c.deref.result.now in
    let columns = c.args.columns.now in
    let same : kids_of ls ≡ trees fs = ap kids_of c.deref.ensures.value ∙ c.in_ok-layouts.ensures ∙ ap (λ (s : Schema). trees s.fields.items) c.schema.ensures in
    let long = rows_from-length (viewed_columns columns) 0 c.args.rows in
    let few = c.requires.table.few in
    record {
      many = c.requires.many ∙ sym (as-many ls fs same);
      long = all-long columns c.args.rows c.requires.sized;
      flat = subst AreFlat (sym same) c.requires.flat;
      small = omega (arith, long, few);
    }
