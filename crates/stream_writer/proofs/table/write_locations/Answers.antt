use Rattle.std.proofs.Common.{◌≡◌, ◌∙◌, arith, ap, refl, subst, sym}
use Rattle.values.specs.Rose.{kids_of}
use Rattle.values.specs.declared.schema.Schema.{Schema}
use Rattle.body_writer.specs.Picked.{picked_rows}
use Rattle.stream_writer.specs.JoinedRows.{AreArrays, joined_rows}
use Rattle.stream_writer.specs.Stream.{trees}
use Rattle.stream_writer.proofs.BatchRowLemmas.{as-many, light-as}
use Rattle.stream_writer.proofs.PlaceRowLemmas.{placed-many}
use Rattle.stream_writer.proofs.RangeLemmas.{rows-hold}
use Rattle.stream_writer.proofs.table.write_locations.Goals as goal

pub are_light_joined-requires-clause-many : goal.are_light_joined-requires-clause-many
are_light_joined-requires-clause-many g c =
    let fs = c.args.schema.now.fields.items in
    let ls = c.deref.result.now in
    let same : kids_of ls ≡ trees fs = ap kids_of c.deref.ensures.value ∙ c.in_ok-layouts.ensures ∙ ap (λ (s : Schema). trees s.fields.items) c.schema.ensures in
    c.requires.many ∙ sym (as-many ls fs same)

pub are_light_joined-requires-clause-held : goal.are_light_joined-requires-clause-held
are_light_joined-requires-clause-held g c =
    let fs = c.args.schema.now.fields.items in
    let ls = c.deref.result.now in
    let same : kids_of ls ≡ trees fs = ap kids_of c.deref.ensures.value ∙ c.in_ok-layouts.ensures ∙ ap (λ (s : Schema). trees s.fields.items) c.schema.ensures in
    rows-hold fs (kids_of ls) (picked_rows c.args.columns.now (joined_rows c.args.rows.now)) same
    c.requires.table.sound

pub find_arrays-requires : goal.find_arrays-requires
find_arrays-requires g c =
    let fs = c.args.schema.now.fields.items in
    let ls = c.deref-2.result.now in
    let same : kids_of ls ≡ trees fs = ap kids_of c.deref-2.ensures.value ∙ c.in_ok-layouts.ensures ∙ ap (λ (s : Schema). trees s.fields.items) c.schema.ensures in
    c.requires.many ∙ sym (as-many ls fs same)

pub write_messages-requires-clause-fits : goal.write_messages-requires-clause-fits
write_messages-requires-clause-fits g c =
    let fs = c.args.schema.now.fields.items in
    let first = c.deref.result.now in
    let ls = c.deref-4.result.now in
    let columns = c.args.columns.now in
    let rows = c.args.rows.now in
    let before : kids_of first ≡ trees fs = ap kids_of c.deref.ensures.value ∙ c.in_ok-layouts.ensures ∙ ap (λ (s : Schema). trees s.fields.items) c.schema.ensures in
    let same : kids_of ls ≡ trees fs = ap kids_of c.deref-4.ensures.value ∙ c.in_ok-layouts.ensures ∙ ap (λ (s : Schema). trees s.fields.items) c.schema.ensures in
    let many = placed-many columns rows c.requires.have in
    record {
      many = c.requires.many ∙ sym (as-many ls fs same);
      arrays = subst (AreArrays rows columns) (sym c.deref-3.ensures.value) c.in_ok-arrays.ensures;
      have = c.requires.have;
      light = light-as (kids_of ls) (kids_of first) (picked_rows columns (joined_rows rows)) (same ∙ sym before)
          (c.if-not-are_light_joined.ensures refl);
      small = omega (arith, many, c.requires.table.few);
    }
