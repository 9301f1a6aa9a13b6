use Rattle.std.proofs.Common.{◌∷◌, [], List, ap, subst, sym, ◌∙◌}
use Rattle.view_lang.specs.Config.{Table}
use Rattle.upkeep.specs.Following.{CanTurn, MaterializedFollows}
use Rattle.upkeep.specs.Stores.{Rows, rows_at, rows_in, tables_in}
use Rattle.upkeep.specs.ViewStates.{IsMaterialized, KeepsLinks, link_change, projected_change}
use Rattle.upkeep.proofs.FollowedLookups.{on_ok}
use Rattle.upkeep.proofs.RowByRow.{at_stores}
use Rattle.upkeep.proofs.follow.turn_visited.Goals as goal

pub turn_stored-requires-clause-fits : goal.turn_stored-requires-clause-fits
turn_stored-requires-clause-fits c =
    let stores = c.args.stores.now.items in
    let now = c.deref.result.now in
    let tables = ap tables_in c.deref.ensures.value ∙ c.visit-visit.ensures.same_rows.tables in
    let rows = ap rows_in c.deref.ensures.value ∙ c.visit-visit.ensures.same_rows.rows in
    let v = c.args.view.now in
    at_stores (λ (ts : List Table) (rs : Rows). CanTurn (IsMaterialized v c.args.state.now.kept)
    (projected_change ts rs v c.args.turn (c.args.number ∷ [])))
    (tables_in stores) (tables_in now) (rows_in stores) (rows_in now) (sym tables) (sym rows) c.requires.fits

pub turn_stored-requires-clause-links : goal.turn_stored-requires-clause-links
turn_stored-requires-clause-links c =
    subst (λ (rs : Rows). CanTurn (KeepsLinks c.args.state.now.links)
    (link_change (rows_at rs 0) c.args.state.now.links c.args.view.now c.args.turn (c.args.number ∷ [])))
    (sym (ap rows_in c.deref.ensures.value ∙ c.visit-visit.ensures.same_rows.rows)) c.requires.links

pub returns-clause-kept : goal.returns-clause-kept
returns-clause-kept c =
    let stores = c.args.stores.now.items in
    let now = c.deref.result.now in
    let tables = ap tables_in c.deref.ensures.value ∙ c.visit-visit.ensures.same_rows.tables in
    let rows = ap rows_in c.deref.ensures.value ∙ c.visit-visit.ensures.same_rows.rows in
    let v = c.args.view.now in
    on_ok _ _ c.turn_stored.result
    (λ turned_one. at_stores (λ (ts : List Table) (rs : Rows). MaterializedFollows v c.args.state.now.kept
    c.turn_stored.new.state.kept (projected_change ts rs v c.args.turn (c.args.number ∷ [])))
    (tables_in now) (tables_in stores) (rows_in now) (rows_in stores) tables rows turned_one)
    c.turn_stored.ensures.kept
