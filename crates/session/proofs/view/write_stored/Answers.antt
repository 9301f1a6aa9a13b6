use Rattle.std.proofs.Common.{◌≡◌, ℕ, ◌<◌, ◌∙◌, All, ap, length, map, subst, sym}
use Rattle.std.proofs.lemmas.List.{length-map}
use Rattle.body_writer.specs.RowRanges.{IsRange, ranges_rows}
use Rattle.body_writer.specs.Picked.{picked_rows}
use Rattle.stream_writer.specs.Sinks.{Writes}
use Rattle.stream_writer.specs.Stream.{canon}
use Rattle.stream_writer.specs.Table.{IsTable}
use Rattle.row_keys.specs.Slots.{row_of}
use Rattle.upkeep.specs.Stores.{rows_at, rows_in, tables_in}
use Rattle.upkeep.specs.ViewStates.{width_in}
use Rattle.session.proofs.view.write_stored.Goals as goal

pub write_ranges-requires : goal.write_ranges-requires
write_ranges-requires g c =
    let fs = c.args.schema.now.fields.items in
    let slots = rows_at (rows_in c.args.tables.now.stores) 0 in
    let stored = c.args.stored in
    let width : ℕ = width_in (tables_in c.args.tables.now.stores) in
    let lie = ap ranges_rows c.deref-3.ensures.value ∙ c.in_ok-ranges.ensures.rows in
    let same : picked_rows c.deref-2.result.now (ranges_rows c.deref-3.result.now)
    ≡ picked_rows stored.columns.items (map (row_of slots) stored.visits) =
    ap (λ cs. picked_rows cs (ranges_rows c.deref-3.result.now)) c.deref-2.ensures.value
    ∙ ap (picked_rows stored.columns.items) lie in
    record {
      table = subst (IsTable fs) (sym same) c.requires.table;
      many = ap length c.deref-2.ensures.value ∙ c.requires.many;
      ranges = (
        width,
        record {
          ranges = subst (All (IsRange width)) (sym c.deref-3.ensures.value) c.in_ok-ranges.ensures.ranges;
          below = subst (All (λ j. j < width)) (sym c.deref-2.ensures.value) c.requires.below;
        },
      );
      rows = c.len-count.ensures ∙ sym (ap length lie ∙ length-map stored.visits (row_of slots));
    }

pub returns : goal.returns
returns g c =
    let fs = c.args.schema.now.fields.items in
    let slots = rows_at (rows_in c.args.tables.now.stores) 0 in
    let stored = c.args.stored in
    let lie = ap ranges_rows c.deref-3.ensures.value ∙ c.in_ok-ranges.ensures.rows in
    let same : picked_rows c.deref-2.result.now (ranges_rows c.deref-3.result.now)
    ≡ picked_rows stored.columns.items (map (row_of slots) stored.visits) =
    ap (λ cs. picked_rows cs (ranges_rows c.deref-3.result.now)) c.deref-2.ensures.value
    ∙ ap (picked_rows stored.columns.items) lie in
    subst (Writes (g.S.Sink.sunk c.args.sink.now) (g.S.Sink.sunk c.write_ranges.new.sink) c.write_ranges.result)
    (ap (canon fs) same) c.write_ranges.ensures
