use Rattle.std.proofs.Common.{◌≡◌, ℕ, ◌∙◌, ◌+◌, ◌<◌, All, List, ap, length, subst, sym}
use Rattle.std.proofs.lemmas.List.{length-map}
use denote.Ref.{Bor}
use Rattle.body_writer.specs.declared.from_columns.batch.Batch.{Batch}
use Rattle.body_writer.specs.Locations.{IsLocated, IsRowAt, located_row}
use Rattle.row_keys.specs.Locations.{row_if}
use Rattle.row_keys.specs.Slots.{row_of}
use Rattle.upkeep.specs.Stores.{rows_at, rows_in, tables_in}
use Rattle.upkeep.specs.ViewStates.{width_at, width_in}
use Rattle.session.proofs.view.write_joined.Goals as goal

pub write_locations-requires-clause-have : goal.write_locations-requires-clause-have
write_locations-requires-clause-have g c =
    let tables = tables_in c.args.tables.now.stores in
    let rows = rows_in c.args.tables.now.stores in
    let joined = c.requires.joined.2 in
    let main = c.in_ok-main.main in
    let side = c.in_ok-side.side in
    let more : ℕ = width_at tables c.args.joined.table in
    let as-visits : length main.locations.items ≡ length c.args.joined.visits =
    sym (length-map main.locations.items (located_row main.batches.items)) ∙ ap length c.in_ok-main.ensures.rows
    ∙ length-map c.args.joined.visits (row_of (rows_at rows 0)) in
    let as-numbers : length side.locations.items ≡ length c.args.joined.side_numbers.items =
    sym (length-map side.locations.items (located_row side.batches.items)) ∙ ap length c.in_ok-side.ensures.rows
    ∙ length-map c.deref.result.now (row_if (row_of (rows_at rows c.args.joined.table)))
    ∙ ap length c.deref.ensures.value in
    record {
      many = ap length c.deref-5.ensures.value ∙ as-numbers ∙ joined.many ∙ sym as-visits
          ∙ sym (ap length c.deref-3.ensures.value);
      main = subst (λ w. All (IsRowAt w c.deref-2.result.now) c.deref-3.result.now) (sym c.width.ensures)
          (subst (λ (bs : List (Bor Batch)). All (IsRowAt (width_in tables) bs) c.deref-3.result.now)
          (sym c.deref-2.ensures.value)
          (subst (All (IsRowAt (width_in tables) main.batches.items)) (sym c.deref-3.ensures.value)
          c.in_ok-main.ensures.placed));
      more = more;
      side = subst (λ (bs : List (Bor Batch)). All (IsLocated more bs) c.deref-5.result.now) (sym c.deref-4.ensures.value)
          (subst (All (IsLocated more side.batches.items)) (sym c.deref-5.ensures.value) c.in_ok-side.ensures.placed);
      below = subst (λ w. All (λ j. j < w + more) c.deref-6.result.now) (sym c.width.ensures)
          (subst (All (λ j. j < width_in tables + more)) (sym c.deref-6.ensures.value) joined.below);
    }
