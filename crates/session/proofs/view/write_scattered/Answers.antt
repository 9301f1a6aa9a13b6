use Rattle.std.proofs.Common.{ℕ, ◌∙◌, ◌<◌, All, List, ap, subst, sym}
use denote.Ref.{Bor}
use Rattle.body_writer.specs.declared.from_columns.batch.Batch.{Batch}
use Rattle.body_writer.specs.Locations.{IsRowAt, located_rows}
use Rattle.body_writer.specs.Picked.{picked_rows}
use Rattle.stream_writer.specs.Sinks.{Writes}
use Rattle.stream_writer.specs.Stream.{canon}
use Rattle.stream_writer.specs.Table.{IsTable}
use Rattle.upkeep.specs.Stores.{rows_at, rows_in, tables_in}
use Rattle.upkeep.specs.ViewStates.{width_in}
use Rattle.session.proofs.view.write_scattered.Goals as goal

pub write_locations-requires-clause-table : goal.write_locations-requires-clause-table
write_locations-requires-clause-table g c =
    let fs = c.args.schema.now.fields.items in
    let slots = rows_at (rows_in c.args.tables.now.stores) 0 in
    let found = c.in_ok-found.found in
    let lie = ap (λ (bs : List (Bor Batch)). located_rows bs c.deref-2.result.now) c.deref.ensures.value
    ∙ ap (located_rows found.batches.items) c.deref-2.ensures.value ∙ c.in_ok-found.ensures.rows in
    subst (IsTable fs) (sym (ap (picked_rows c.args.columns.now) (c.alone-rows.ensures.rows ∙ lie))) c.requires.table

pub write_locations-requires-clause-have : goal.write_locations-requires-clause-have
write_locations-requires-clause-have g c =
    let width : ℕ = width_in (tables_in c.args.tables.now.stores) in
    let found = c.in_ok-found.found in
    c.alone-rows.ensures.have c.args.columns.now
    (record {
      main = subst (λ w. All (IsRowAt w c.deref.result.now) c.deref-2.result.now) (sym c.width.ensures)
          (subst (λ (bs : List (Bor Batch)). All (IsRowAt width bs) c.deref-2.result.now) (sym c.deref.ensures.value)
          (subst (All (IsRowAt width found.batches.items)) (sym c.deref-2.ensures.value) c.in_ok-found.ensures.placed));
      below = subst (λ w. All (λ j. j < w) c.args.columns.now) (sym c.width.ensures) c.requires.below;
    })

pub returns : goal.returns
returns g c =
    let fs = c.args.schema.now.fields.items in
    let found = c.in_ok-found.found in
    let lie = ap (λ (bs : List (Bor Batch)). located_rows bs c.deref-2.result.now) c.deref.ensures.value
    ∙ ap (located_rows found.batches.items) c.deref-2.ensures.value ∙ c.in_ok-found.ensures.rows in
    subst (Writes (g.S.Sink.sunk c.args.sink.now) (g.S.Sink.sunk c.write_locations.new.sink) c.write_locations.result)
    (ap (λ rows. canon fs (picked_rows c.args.columns.now rows)) (c.alone-rows.ensures.rows ∙ lie)) c.write_locations.ensures
