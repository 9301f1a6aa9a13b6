use Rattle.std.proofs.Common.{◌≡◌, ◌∙◌, arith, ap, refl, sym}
use Rattle.values.specs.Rose.{kids_of}
use Rattle.values.specs.declared.schema.Schema.{Schema}
use Rattle.body_writer.specs.RowRanges.{ranges_rows}
use Rattle.body_writer.specs.Picked.{picked_rows}
use Rattle.stream_writer.specs.Stream.{trees}
use Rattle.stream_writer.proofs.BatchRowLemmas.{as-many, light-as}
use Rattle.stream_writer.proofs.RangeLemmas.{picked-long, rows-hold}
use Rattle.stream_writer.proofs.table.write_ranges.Goals as goal

pub are_light-requires-clause-many : goal.are_light-requires-clause-many
are_light-requires-clause-many g c =
    let fs = c.args.schema.now.fields.items in
    let ls = c.deref.result.now in
    let same : kids_of ls ≡ trees fs = ap kids_of c.deref.ensures.value ∙ c.in_ok-layouts.ensures ∙ ap (λ (s : Schema). trees s.fields.items) c.schema.ensures in
    c.requires.many ∙ sym (as-many ls fs same)

pub are_light-requires-clause-held : goal.are_light-requires-clause-held
are_light-requires-clause-held g c =
    let fs = c.args.schema.now.fields.items in
    let ls = c.deref.result.now in
    let same : kids_of ls ≡ trees fs = ap kids_of c.deref.ensures.value ∙ c.in_ok-layouts.ensures ∙ ap (λ (s : Schema). trees s.fields.items) c.schema.ensures in
    rows-hold fs (kids_of ls) (picked_rows c.args.columns.now (ranges_rows c.args.ranges.now)) same
    c.requires.table.sound

pub write_messages-requires-clause-fits : goal.write_messages-requires-clause-fits
write_messages-requires-clause-fits g c =
    let fs = c.args.schema.now.fields.items in
    let ls = c.deref-2.result.now in
    let columns = c.args.columns.now in
    let rows = ranges_rows c.args.ranges.now in
    let same : kids_of ls ≡ trees fs = ap kids_of c.deref-2.ensures.value ∙ c.in_ok-layouts.ensures ∙ ap (λ (s : Schema). trees s.fields.items) c.schema.ensures in
    let again : kids_of ls ≡ kids_of c.deref.result.now =
    ap kids_of (c.deref-2.ensures.value ∙ sym c.deref.ensures.value) in
    let long = picked-long columns rows in
    record {
      many = c.requires.many ∙ sym (as-many ls fs same);
      width = c.requires.ranges.0;
      have = c.requires.ranges.1;
      light = light-as (kids_of ls) (kids_of c.deref.result.now) (picked_rows columns rows) again
          (c.if-not-are_light.ensures refl);
      left = omega (arith, c.requires.rows, long);
      small = omega (arith, c.requires.rows, long, c.requires.table.few);
    }
