use Rattle.std.proofs.Common.{ap, false, refl, sym, true, ◌∙◌}
use Rattle.std.specs.Option.{option_map}
use Rattle.view_lang.specs.Config.{View}
use Rattle.view_lang.specs.Joined.{joined_by}
use Rattle.upkeep.specs.Inputs.{side_by}
use Rattle.upkeep.specs.JoinedRows.{joined_cells}
use Rattle.upkeep.specs.Stores.{rows_in, tables_in}
use Rattle.upkeep.proofs.InputRows.{row_dropped, row_kept, row_looked}
use Rattle.upkeep.proofs.inputs.join_row.Goals as goal

pub returns-in_default : goal.returns-in_default
returns-in_default c =
    row_dropped c.args.view.now (side_by (tables_in c.args.stores.now) (rows_in c.args.stores.now) c.args.view.now)
    c.args.row c.in_ok-side_row.side_row
    (option_map joined_cells c.join.result)
    (row_looked c.args.stores.now c.args.stores.now c.args.view.now c.view.inside.lookup c.args.row
    c.args.row c.in_ok-side_row.side_row refl
    (ap (λ (v : View). v.lookup) c.view.view_is) refl c.in_ok-side_row.ensures)
    (c.join.ensures
    ∙ ap (λ l. joined_by l c.args.row c.in_ok-side_row.side_row) (ap (λ (v : View). v.lookup) c.view.view_is)) (ap (option_map joined_cells) c.in_default.is)

pub returns-then-keeps : goal.returns-then-keeps
returns-then-keeps c =
    row_kept c.args.view.now (side_by (tables_in c.args.stores.now) (rows_in c.args.stores.now) c.args.view.now)
    c.args.row c.in_ok-side_row.side_row
    (option_map joined_cells c.join.result) (joined_cells c.in-Some.joined) true
    (row_looked c.args.stores.now c.args.stores.now c.args.view.now c.view.inside.lookup c.args.row
    c.args.row c.in_ok-side_row.side_row refl
    (ap (λ (v : View). v.lookup) c.view.view_is) refl c.in_ok-side_row.ensures)
    (c.join.ensures
    ∙ ap (λ l. joined_by l c.args.row c.in_ok-side_row.side_row) (ap (λ (v : View). v.lookup) c.view.view_is)) (ap (option_map joined_cells) c.in-Some.is)
    (sym c.if-keeps.true ∙ c.keeps.ensures)

pub returns-else-keeps : goal.returns-else-keeps
returns-else-keeps c =
    row_kept c.args.view.now (side_by (tables_in c.args.stores.now) (rows_in c.args.stores.now) c.args.view.now)
    c.args.row c.in_ok-side_row.side_row
    (option_map joined_cells c.join.result) (joined_cells c.in-Some.joined) false
    (row_looked c.args.stores.now c.args.stores.now c.args.view.now c.view.inside.lookup c.args.row
    c.args.row c.in_ok-side_row.side_row refl
    (ap (λ (v : View). v.lookup) c.view.view_is) refl c.in_ok-side_row.ensures)
    (c.join.ensures
    ∙ ap (λ l. joined_by l c.args.row c.in_ok-side_row.side_row) (ap (λ (v : View). v.lookup) c.view.view_is)) (ap (option_map joined_cells) c.in-Some.is)
    (sym c.if-keeps.false ∙ c.keeps.ensures)
