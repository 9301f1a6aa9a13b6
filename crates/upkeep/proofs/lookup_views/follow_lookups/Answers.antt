use Rattle.std.proofs.Common.{List, ap, length, subst, sym, ◌∙◌}
use Rattle.row_keys.specs.HiddenChanges.{NamesRows}
use Rattle.row_keys.specs.Numbered.{numbered}
use Rattle.upkeep.specs.StoreLaws.{is_side, rows_there}
use Rattle.upkeep.specs.Stores.{rows_at, tables_in}
use Rattle.upkeep.specs.ViewStates.{AreCurrent}
use Rattle.upkeep.specs.declared.view_state.ViewState.{ViewState}
use Rattle.upkeep.proofs.FollowedViews.{current_alike}
use Rattle.upkeep.proofs.LookedUpViews.{lookups_length, marked_kept}
use Rattle.upkeep.proofs.SwappedRows.{names_rows}
use Rattle.upkeep.proofs.lookup_views.follow_lookups.Goals as goal

pub named_keys-requires-clause-side : goal.named_keys-requires-clause-side
named_keys-requires-clause-side c =
    is_side c.args.stores.now.items c.args.table c.index.result.now c.requires.of.sides c.requires.side c.requires.there
    c.index.ensures

pub named_keys-requires-clause-names : goal.named_keys-requires-clause-names
named_keys-requires-clause-names c =
    subst (NamesRows c.args.change.now)
    (rows_there c.args.stores.now.items c.args.table c.index.result.now c.index.ensures c.requires.there)
    (names_rows c.args.turn _ c.args.change.now _ c.requires.swaps)

pub mark_lookups_stale-requires : goal.mark_lookups_stale-requires
mark_lookups_stale-requires c = record {
  alike =
      current_alike (tables_in c.args.stores.now.items) c.requires.current.0
      (numbered (rows_at c.requires.current.0 0)) c.args.views.now c.args.states.now.items c.requires.current.2;
}

pub returns-in-Err-clause-err : goal.returns-in-Err-clause-err
returns-in-Err-clause-err c = λ old before current.
    subst (λ (ss : List ViewState). AreCurrent (tables_in c.args.stores.now.items) old c.args.views.now ss)
    (sym c.mark_lookups_stale.ensures)
    (marked_kept (tables_in c.args.stores.now.items) c.args.table old c.args.views.now c.args.states.now.items current)

pub returns-in-Err-clause-many : goal.returns-in-Err-clause-many
returns-in-Err-clause-many c =
    ap length c.mark_lookups_stale.ensures
    ∙ lookups_length c.args.table c.args.views.now c.args.states.now.items
