use Rattle.std.proofs.Common.{◌<◌, All, List, ap, length, subst, sym}
use Rattle.view_lang.specs.TableRules.{IsTable}
use Rattle.row_keys.specs.Numbered.{numbered}
use Rattle.row_keys.specs.Store.{Store}
use Rattle.upkeep.specs.Stores.{rows_at, rows_in, tables_in}
use Rattle.upkeep.specs.ViewStates.{IsCurrentFor}
use Rattle.upkeep.proofs.RebuiltViews.{state_current}
use Rattle.upkeep.proofs.SideEdits.{live_many}
use Rattle.upkeep.proofs.live_tables.LiveTables.group_rows.Goals as goal

pub index-requires : goal.index-requires
index-requires c =
    let below : c.args.place < length c.self.inside.views.items =
    subst (λ n. c.args.place < n) (ap (λ p. length p.views) (sym c.self.view_is)) c.requires.there in
    let there : c.args.place < length c.self.inside.states.items =
    subst (λ n. c.args.place < n)
    (sym (live_many c.self.inside.stores.items c.self.inside.views.items c.self.inside.states.items c.self.invariant))
    below in
    subst (λ n. c.args.place < n) (sym c.self.inside.states.ok.0) there

pub viewed_law-requires-clause-right : goal.viewed_law-requires-clause-right
viewed_law-requires-clause-right c =
    subst (λ (ss : List Store). All IsTable (tables_in ss)) (sym c.deref.ensures.value) c.self.invariant.these.right

pub lend_materialized-requires-clause-current : goal.lend_materialized-requires-clause-current
lend_materialized-requires-clause-current c =
    let below : c.args.place < length c.self.inside.views.items =
    subst (λ n. c.args.place < n) (ap (λ p. length p.views) (sym c.self.view_is)) c.requires.there in
    subst (λ (ss : List Store). IsCurrentFor ss c.index-view.result.now c.index.result.now
    (numbered (rows_at (rows_in ss) 0))) (sym c.deref-2.ensures.value)
    (state_current (tables_in c.self.inside.stores.items) (rows_in c.self.inside.stores.items)
    (numbered (rows_at (rows_in c.self.inside.stores.items) 0)) c.self.inside.views.items
    c.self.inside.states.items c.args.place c.index-view.result.now c.index.result.now c.index-view.ensures
    c.index.ensures
    below c.self.invariant.current)
