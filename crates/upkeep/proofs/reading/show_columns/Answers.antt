use Rattle.std.proofs.Common.{◌≡◌, ap, arith, length, refl, sym, ◌∙◌}
use Rattle.view_lang.specs.Config.{Table, View}
use Rattle.upkeep.specs.StoreLaws.{table_there}
use Rattle.upkeep.specs.Stores.{tables_in}
use Rattle.upkeep.specs.ViewStates.{width_in}
use Rattle.upkeep.proofs.JoinedViews.{columns_joined}
use Rattle.upkeep.proofs.ShownColumns.{columns_shown}
use Rattle.upkeep.proofs.reading.show_columns.Goals as goal

pub returns-then-shows_stored-clause-rows : goal.returns-then-shows_stored-clause-rows
returns-then-shows_stored-clause-rows c =
    let stores = c.args.stores.now.items in
    let own = ap (λ (t : Table). length t.columns) (c.behind-index.view_is ∙ c.table.ensures.value) in
    let there = ap (λ (t : Table). length t.columns) (table_there stores 0 c.index.result.now c.index.ensures c.requires.main) in
    let same : c.len.result ≡ width_in (tables_in stores) =
    omega (arith, c.len.ensures, c.behind-index.inside.columns.ok.0, own, there) in
    columns_shown stores c.args.view.now c.args.numbers.items c.args.outputs.now c.in_ok-stored.stored
    c.index-then-shows_stored.result.now c.len.result c.requires.main c.index-then-shows_stored.ensures c.requires.plain
    (c.if-shows_stored.ensures.coded refl) same (c.if-shows_stored.ensures.below refl) c.rows_law.ensures.held
    c.requires.shown c.in_ok-stored.ensures.columns c.in_ok-stored.ensures.visits

pub returns-then-shows_joined-clause-rows : goal.returns-then-shows_joined-clause-rows
returns-then-shows_joined-clause-rows c =
    columns_joined c.args.stores.now.items c.args.view.now c.in-Some.lookup c.args.outputs.now c.args.numbers.items
    c.in_ok-joined.joined c.requires.view (sym (ap (λ (v : View). v.lookup) c.view.view_is) ∙ c.in-Some.is)
    c.requires.plain (c.if-shows_joined.ensures refl) c.requires.shown c.in_ok-joined.ensures.joined
