use Rattle.std.proofs.Common.{◌<◌, All, List, ap, length, subst, sym, ◌∙◌}
use Rattle.view_lang.specs.TableRules.{IsTable}
use Rattle.row_keys.specs.Numbered.{numbered}
use Rattle.row_keys.specs.Store.{Store}
use Rattle.upkeep.specs.Stores.{rows_at, rows_in, tables_in}
use Rattle.upkeep.proofs.RebuiltViews.{opened_stays, stale_there, state_current}
use Rattle.upkeep.proofs.SideEdits.{live_many}
use Rattle.upkeep.proofs.live_tables.LiveTables.view_rows.Goals as goal

pub viewed_law-requires-clause-right : goal.viewed_law-requires-clause-right
viewed_law-requires-clause-right c =
    subst (λ (ss : List Store). All IsTable (tables_in ss)) (sym c.deref.ensures.value) c.self.invariant.these.right

pub index-requires : goal.index-requires
index-requires c =
    let below : c.args.place < length c.self.inside.views.items =
    subst (λ n. c.args.place < n) (ap length (sym c.in_ok-refresh.ensures.views) ∙ ap (λ p. length p.views)
    (sym c.self.view_is)) c.requires in
    let there : c.args.place < length c.self.inside.states.items =
    subst (λ n. c.args.place < n)
    (sym (live_many c.self.inside.stores.items c.self.inside.views.items c.self.inside.states.items c.self.invariant))
    below in
    subst (λ n. c.args.place < n) (sym c.self.inside.states.ok.0) there

pub show_materialized-requires-clause-fresh : goal.show_materialized-requires-clause-fresh
show_materialized-requires-clause-fresh c =
    let below : c.args.place < length c.self.inside.views.items =
    subst (λ n. c.args.place < n) (ap length (sym c.in_ok-refresh.ensures.views) ∙ ap (λ p. length p.views)
    (sym c.self.view_is)) c.requires in
    let there : c.args.place < length c.self.inside.states.items =
    subst (λ n. c.args.place < n)
    (sym (live_many c.self.inside.stores.items c.self.inside.views.items c.self.inside.states.items c.self.invariant))
    below in
    stale_there c.self.inside.states.items c.args.self.now.stale c.args.place c.index.result.now
    (ap (λ p. p.stale) c.self.view_is ∙ c.in_ok-refresh.ensures.stale) c.index.ensures there

pub show_materialized-requires-clause-current : goal.show_materialized-requires-clause-current
show_materialized-requires-clause-current c =
    let below : c.args.place < length c.self.inside.views.items =
    subst (λ n. c.args.place < n) (ap length (sym c.in_ok-refresh.ensures.views) ∙ ap (λ p. length p.views)
    (sym c.self.view_is)) c.requires in
    state_current (tables_in c.self.inside.stores.items) (rows_in c.self.inside.stores.items)
    (numbered (rows_at (rows_in c.self.inside.stores.items) 0)) c.self.inside.views.items
    c.self.inside.states.items c.args.place c.index-view.result.now c.index.result.now c.index-view.ensures
    c.index.ensures
    below c.self.invariant.current

pub invariant_of-self : goal.invariant_of-self
invariant_of-self c =
    opened_stays c.self.inside.stores.items c.show_materialized.new.stores.items c.self.inside.views.items
    c.self.inside.states.items
    c.show_materialized.ensures.same_rows c.self.invariant
