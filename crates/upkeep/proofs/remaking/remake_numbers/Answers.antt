use Rattle.std.proofs.Common.{◌<◌, ℕ, [], ◌∷◌, arith, get_or, length, subst, sym}
use Rattle.view_lang.specs.Limits.{max_appended_rows}
use Rattle.view_lang.specs.Shifts.{Fits, NumberedRows, Shift, patched, shift}
use Rattle.row_keys.specs.Slots.{row_of}
use Rattle.upkeep.specs.SideRows.{side_of_rows}
use Rattle.upkeep.specs.Stores.{Rows, rows_at, rows_in}
use Rattle.upkeep.specs.ViewStates.{IsMaterialized, projected_row, reprojected_by}
use Rattle.upkeep.proofs.ChangedStores.{still_same}
use Rattle.upkeep.proofs.Remade.{kept_all, kept_more, next_needs}
use Rattle.upkeep.proofs.remaking.remake_numbers.Goals as goal

pub remake_number-requires-clause-fits : goal.remake_number-requires-clause-fits
remake_number-requires-clause-fits c =
    let v = c.args.view.now in
    let f = projected_row v (side_of_rows c.args.sides.now.before.entries) in
    let g = projected_row v (side_of_rows c.args.sides.now.after.entries) in
    let slots = rows_at (rows_in c.args.stores.now.items) 0 in
    let s : ℕ → Shift = λ n. shift n (f (row_of slots n)) (g (row_of slots n)) in
    let n : ℕ = get_or c.args.numbers.now c.loop-index.index 0 in
    subst (λ (rs : Rows). (rows : NumberedRows) × (IsMaterialized v c.loop-index.kept rows
    × (Fits rows (reprojected_by f g (rows_at rs 0) (n ∷ [])) × (length rows < max_appended_rows))))
    (sym c.loop-index.invariant.same_rows.rows)
    (next_needs s (IsMaterialized v c.args.kept.now) (IsMaterialized v c.loop-index.kept) c.args.numbers.now c.loop-index.index
    c.loop-index.invariant.kept c.requires.fits.0 c.loop-index-test.true c.requires.fits.1.0 c.requires.fits.1.1.0
    c.requires.fits.1.1.1)

pub loop-index-preserved : goal.loop-index-preserved
loop-index-preserved c =
    let v = c.args.view.now in
    let f = projected_row v (side_of_rows c.args.sides.now.before.entries) in
    let g = projected_row v (side_of_rows c.args.sides.now.after.entries) in
    let slots = rows_at (rows_in c.args.stores.now.items) 0 in
    let s : ℕ → Shift = λ n. shift n (f (row_of slots n)) (g (row_of slots n)) in
    let n : ℕ = get_or c.args.numbers.now c.loop-index.index 0 in
    record {
      kept = kept_more s (IsMaterialized v c.args.kept.now) (IsMaterialized v c.loop-index.kept) c.args.numbers.now c.loop-index.index
          c.loop-index.invariant.kept (IsMaterialized v c.remake_number.new.kept) c.loop-index-test.true
          (subst (λ (rs : Rows). (rows : NumberedRows)
          → Fits rows (reprojected_by f g (rows_at rs 0) (n ∷ [])) → IsMaterialized v c.loop-index.kept rows
          → IsMaterialized v c.remake_number.new.kept (patched rows (reprojected_by f g (rows_at rs 0) (n ∷ []))))
          c.loop-index.invariant.same_rows.rows c.in_ok-remake_number.ensures.kept);
      same_rows = still_same c.loop-index.invariant.same_rows c.remake_number.ensures.same_rows;
      visits = omega (arith, c.remake_number.ensures.visits, c.loop-index.invariant.visits);
    }

pub returns-clause-kept : goal.returns-clause-kept
returns-clause-kept c =
    let v = c.args.view.now in
    let f = projected_row v (side_of_rows c.args.sides.now.before.entries) in
    let g = projected_row v (side_of_rows c.args.sides.now.after.entries) in
    let slots = rows_at (rows_in c.args.stores.now.items) 0 in
    kept_all (λ n. shift n (f (row_of slots n)) (g (row_of slots n))) (IsMaterialized v c.args.kept.now)
    (IsMaterialized v c.loop-index.kept) c.args.numbers.now c.loop-index.index c.loop-index.invariant.kept
    (omega (arith, c.loop-index-test.false))
