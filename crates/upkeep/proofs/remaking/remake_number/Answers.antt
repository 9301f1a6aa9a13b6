use Rattle.std.proofs.Common.{ap, refl, subst, sym, ◌∙◌}
use Rattle.std.specs.Prelude.{slice_set}
use Rattle.std.specs.Option.{option_map}
use Rattle.view_lang.specs.Config.{View}
use Rattle.view_lang.specs.Joined.{looked_up}
use Rattle.view_lang.specs.Shifts.{Fits}
use Rattle.row_keys.specs.Slots.{row_of}
use Rattle.upkeep.specs.SideRows.{side_of_rows, sided_cells}
use Rattle.upkeep.specs.Stores.{rows_at, rows_in}
use Rattle.upkeep.specs.ViewStates.{IsMaterialized}
use Rattle.upkeep.proofs.FollowedLookups.{on_ok}
use Rattle.upkeep.proofs.RowByRow.{same_change}
use Rattle.upkeep.proofs.SidesByKey.{remade_one}
use Rattle.upkeep.proofs.VisitedRows.{row_is}
use Rattle.upkeep.proofs.remaking.remake_number.Goals as goal

pub remake_row-requires : goal.remake_row-requires
remake_row-requires c =
    let v = c.args.view.now in
    let here = row_is c.args.stores.now.items
    (slice_set c.args.stores.now.items 0 c.visit-visit.new.self) c.index_mut.result.now c.visit-visit.new.self
    c.index.result.now c.args.number c.visit-visit.result c.row-row.result c.index_mut.ensures.value
    c.requires.main c.visit-visit.ensures.counted refl c.index.ensures
    c.visit-visit.ensures.number c.row-row.ensures.row in
    let looks = ap (λ (x : View). x.lookup) c.view.view_is in
    let same = remade_one v c.args.number c.row-row.result (row_of (rows_at (rows_in c.args.stores.now.items) 0) c.args.number)
    (side_of_rows c.args.sides.now.before.entries) (side_of_rows c.args.sides.now.after.entries)
    (option_map (λ cells. cells.now) c.in_ok-side_before.side_before)
    (option_map (λ cells. cells.now) c.in_ok-side_after.side_after)
    (option_map sided_cells c.keep_row-before.result) (option_map sided_cells c.keep_row-after.result) here
    (c.in_ok-side_before.ensures
    ∙ ap (λ l. looked_up l (side_of_rows c.args.sides.now.before.entries) c.row-row.result) looks)
    (c.in_ok-side_after.ensures
    ∙ ap (λ l. looked_up l (side_of_rows c.args.sides.now.after.entries) c.row-row.result) looks)
    c.keep_row-before.ensures c.keep_row-after.ensures in (
      c.requires.fits.0,
      (
        c.requires.fits.1.0,
        (subst (Fits c.requires.fits.0) (sym same) c.requires.fits.1.1.0, c.requires.fits.1.1.1),
      ),
    )

pub returns-clause-kept : goal.returns-clause-kept
returns-clause-kept c =
    let v = c.args.view.now in
    let here = row_is c.args.stores.now.items
    (slice_set c.args.stores.now.items 0 c.visit-visit.new.self) c.index_mut.result.now c.visit-visit.new.self
    c.index.result.now c.args.number c.visit-visit.result c.row-row.result c.index_mut.ensures.value
    c.requires.main c.visit-visit.ensures.counted refl c.index.ensures
    c.visit-visit.ensures.number c.row-row.ensures.row in
    let looks = ap (λ (x : View). x.lookup) c.view.view_is in
    let same = remade_one v c.args.number c.row-row.result (row_of (rows_at (rows_in c.args.stores.now.items) 0) c.args.number)
    (side_of_rows c.args.sides.now.before.entries) (side_of_rows c.args.sides.now.after.entries)
    (option_map (λ cells. cells.now) c.in_ok-side_before.side_before)
    (option_map (λ cells. cells.now) c.in_ok-side_after.side_after)
    (option_map sided_cells c.keep_row-before.result) (option_map sided_cells c.keep_row-after.result) here
    (c.in_ok-side_before.ensures
    ∙ ap (λ l. looked_up l (side_of_rows c.args.sides.now.before.entries) c.row-row.result) looks)
    (c.in_ok-side_after.ensures
    ∙ ap (λ l. looked_up l (side_of_rows c.args.sides.now.after.entries) c.row-row.result) looks)
    c.keep_row-before.ensures c.keep_row-after.ensures in
    on_ok _ _ c.remake_row.result
    (λ made. same_change (IsMaterialized v c.args.kept.now) (IsMaterialized v c.remake_row.new.kept) _ _ same made)
    c.remake_row.ensures.kept
