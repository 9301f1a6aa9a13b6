use Rattle.std.proofs.Common.{◌<◌, List, true, ap, get_or, length, subst, sym, ◌∙◌}
use Rattle.upkeep.specs.LiveParts.{AreLive}
use Rattle.upkeep.specs.ViewStates.{stale_in}
use Rattle.upkeep.specs.declared.view_state.ViewState.{ViewState}
use Rattle.upkeep.proofs.RebuiltViews.{fresh_at, fresh_kept, fresh_set, fresh_was, opened_stays, refreshed}
use Rattle.upkeep.proofs.SideEdits.{live_many}
use Rattle.upkeep.proofs.live_tables.LiveTables.refresh.Goals as goal

pub index-requires : goal.index-requires
index-requires c =
    let below : c.args.place < length c.self.inside.views.items =
    subst (λ n. c.args.place < n) (ap (λ p. length p.views) (sym c.self.view_is)) c.requires in
    let there : c.args.place < length c.self.inside.states.items =
    subst (λ n. c.args.place < n)
    (sym (live_many c.self.inside.stores.items c.self.inside.views.items c.self.inside.states.items c.self.invariant))
    below in
    subst (λ n. c.args.place < n) (sym c.self.inside.states.ok.0) there

pub invariant_of-self : goal.invariant_of-self
invariant_of-self c =
    opened_stays c.self.inside.stores.items c.rebuild.new.stores.items c.self.inside.views.items
    c.self.inside.states.items
    c.in_err-state.ensures.same_rows c.self.invariant

pub replace_state-requires : goal.replace_state-requires
replace_state-requires c =
    let below : c.args.place < length c.self.inside.views.items =
    subst (λ n. c.args.place < n) (ap (λ p. length p.views) (sym c.self.view_is)) c.requires in
    subst (λ n. c.args.place < n)
    (sym (live_many c.self.inside.stores.items c.self.inside.views.items c.self.inside.states.items c.self.invariant))
    below

pub invariant_of-self-then-index : goal.invariant_of-self-then-index
invariant_of-self-then-index c =
    let below : c.args.place < length c.self.inside.views.items =
    subst (λ n. c.args.place < n) (ap (λ p. length p.views) (sym c.self.view_is)) c.requires in
    subst (AreLive c.rebuild.new.stores.items c.self.inside.views.items) (sym c.replace_state.ensures)
    (refreshed c.self.inside.stores.items c.rebuild.new.stores.items c.self.inside.views.items
    c.self.inside.states.items c.args.place c.index-then-index.result.now c.in_ok-state.state
    c.in_ok-state.ensures.same_rows
    c.index-then-index.ensures below c.in_ok-state.ensures.current c.self.invariant)

pub returns-in_ok-state-clause-stale : goal.returns-in_ok-state-clause-stale
returns-in_ok-state-clause-stale c =
    rw (← c.self.view_is)
    (ap stale_in c.replace_state.ensures
    ∙ fresh_at c.self.inside.states.items c.args.place c.in_ok-state.state c.in_ok-state.ensures.fresh)

pub returns-else-index-clause-stale : goal.returns-else-index-clause-stale
returns-else-index-clause-stale c =
    rw (← c.self.view_is) (fresh_was c.self.inside.states.items c.args.place c.index.result.now c.index.ensures
    c.if-index.false)

pub returns-in_ok-state-clause-fresh : goal.returns-in_ok-state-clause-fresh
returns-in_ok-state-clause-fresh c =
    let below : c.args.place < length c.self.inside.views.items =
    subst (λ n. c.args.place < n) (ap (λ p. length p.views) (sym c.self.view_is)) c.requires in
    let there : c.args.place < length c.self.inside.states.items =
    subst (λ n. c.args.place < n)
    (sym (live_many c.self.inside.stores.items c.self.inside.views.items c.self.inside.states.items c.self.invariant))
    below in
    ap (λ (ss : List ViewState). get_or (stale_in ss) c.args.place true) c.replace_state.ensures
    ∙ fresh_set c.self.inside.states.items c.args.place c.in_ok-state.state c.in_ok-state.ensures.fresh there

pub returns-else-index-clause-fresh : goal.returns-else-index-clause-fresh
returns-else-index-clause-fresh c =
    let below : c.args.place < length c.self.inside.views.items =
    subst (λ n. c.args.place < n) (ap (λ p. length p.views) (sym c.self.view_is)) c.requires in
    let there : c.args.place < length c.self.inside.states.items =
    subst (λ n. c.args.place < n)
    (sym (live_many c.self.inside.stores.items c.self.inside.views.items c.self.inside.states.items c.self.invariant))
    below in
    rw (← c.self.view_is) (fresh_kept c.self.inside.states.items c.args.place c.index.result.now c.index.ensures
    c.if-index.false there)
