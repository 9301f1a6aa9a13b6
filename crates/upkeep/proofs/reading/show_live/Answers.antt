use Rattle.std.proofs.Common.{◌≡◌, List, ap, subst, sym}
use Rattle.row_keys.specs.Slots.{Slot}
use Rattle.row_keys.specs.Store.{Store}
use Rattle.upkeep.specs.Inputs.{side_by}
use Rattle.upkeep.specs.Reading.{AreShown, IsReadable}
use Rattle.upkeep.specs.Stores.{rows_at, rows_in, tables_in}
use Rattle.upkeep.specs.declared.view_state.Materialized.TheVariants as kept
use Rattle.upkeep.proofs.reading.show_live.Goals as goal

pub show_numbers-requires-clause-view : goal.show_numbers-requires-clause-view
show_numbers-requires-clause-view c = c.requires.kept.viewed.view

pub show_numbers-requires-clause-plain : goal.show_numbers-requires-clause-plain
show_numbers-requires-clause-plain c = c.requires.kept.kept.plain

pub show_numbers-requires-clause-shown : goal.show_numbers-requires-clause-shown
show_numbers-requires-clause-shown c =
    let stores = c.args.stores.now.items in
    let v = c.args.view.now in
    let tables = tables_in stores in
    let side = side_by tables (rows_in stores) v in
    let same : rows_at (rows_in stores) 0 ≡ rows_at (rows_in c.deref.result.now) 0 =
    ap (λ (ss : List Store). rows_at (rows_in ss) 0) (sym c.deref.ensures.value) in
    subst (λ (slots : List Slot). AreShown v side slots c.in_ok-numbers.numbers.items) (sym same)
    (c.in_ok-numbers.ensures tables side
    (subst (λ (slots : List Slot). IsReadable tables v side slots kept.Live) same c.requires.kept))
