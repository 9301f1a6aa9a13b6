use Rattle.std.proofs.Common.{◌≡◌, subst, sym}
use Rattle.std.proofs.lemmas.Result.{err_from_is_err_and}
use Rattle.std.specs.Prelude.{slice_set}
use Rattle.row_keys.specs.Slots.{live}
use Rattle.row_keys.specs.TableChanges.{IsChangeOf, back}
use Rattle.upkeep.specs.LiveParts.{AreLive}
use Rattle.upkeep.specs.Stores.{HaveSameRows}
use Rattle.upkeep.specs.Swaps.{swapped}
use Rattle.upkeep.specs.declared.view_state.Turn.TheVariants as turn
use Rattle.upkeep.proofs.SwappedRows.{side_change}
use Rattle.upkeep.proofs.SideEdits.{
  Changed,
  can_follow,
  can_restore,
  changed_inside,
  edit_made,
  edit_refused,
  edit_restored,
  made_same,
  opened_after,
  opened_live,
  restored,
  restored_live,
  same_live,
}
use Rattle.upkeep.proofs.live_tables.LiveTables.edit_side.Goals as goal
use Rattle.upkeep.proofs.live_tables.LiveTables.edit_side.Goals.{
  After-restore,
  In_ok-change,
  in-Appended-1,
  in-Put-1,
  in-Retracted-1,
}

pub invariant_of-self : goal.invariant_of-self
invariant_of-self c =
    same_live (changed_inside c.self.view_is c.requires.there c.index_mut.ensures.value c.edit.ensures.table)
    c.in_err-change.ensures.makes.1 c.self.invariant

pub returns-in_err-change : goal.returns-in_err-change
returns-in_err-change c =
    let failed = err_from_is_err_and c.from_residual.result c.from_residual.ensures.1 in
    rw (failed.1, failed.2, ← c.self.view_is)
    (edit_refused (changed_inside c.self.view_is c.requires.there c.index_mut.ensures.value c.edit.ensures.table)
    c.requires.side c.in_err-change.ensures.makes)

-- The edit is applied, and the views are to follow its change.
module _ (c : In_ok-change) where
  changed : Changed c.self.inside.stores.items c.args.table c.index_mut.result.now c.edit.new.self
  changed = changed_inside c.self.view_is c.requires.there c.index_mut.ensures.value c.edit.ensures.table

  kind : IsChangeOf c.args.table c.in_ok-change.change
  kind = subst (λ n. IsChangeOf n c.in_ok-change.change) (sym c.requires.role) c.in_ok-change.ensures.kind

  same : live c.index_mut.result.now.slots ≡ live (swapped turn.Come c.in_ok-change.change c.edit.new.self.slots)
  same =
      made_same c.numbers_law.ensures.hidden c.index_mut.result.now c.edit.new.self c.args.table c.in_ok-change.change
      c.requires.side kind c.in_ok-change.ensures.makes.2 c.in_ok-change.ensures.makes.3

pub follow_lookups-requires : goal.follow_lookups-requires
follow_lookups-requires c =
    let place = (goal.at.follow_lookups-requires c).In_ok-change in
    let can = can_follow (changed place) turn.Come c.in_ok-change.change c.deref.ensures.value c.self.invariant
    (side_change c.args.table c.in_ok-change.change c.requires.side (kind place), c.in_ok-change.ensures.makes.2)
    (same place) in
    record { of = can.these; side = c.requires.side; there = can.there; swaps = can.swaps; current = can.current }

pub invariant_of-self-in-Ok : goal.invariant_of-self-in-Ok
invariant_of-self-in-Ok c =
    let place = (goal.at.invariant_of-self-in-Ok c).In_ok-change in
    opened_live (changed place) c.in-Ok.ensures.same_rows (rw c.deref.ensures.value at c.in-Ok.ensures.kept)
    (same place) c.self.invariant

pub returns-in-Ok : goal.returns-in-Ok
returns-in-Ok c =
    let place = (goal.at.returns-in-Ok c).In_ok-change in
    rw (← c.self.view_is)
    (edit_made (changed place) c.in-Ok.ensures.same_rows c.in_ok-change.ensures.makes (kind place) c.in-Ok.ensures.stale
    (opened_after (changed place) c.in_ok-change.change c.self.inside.views.items c.requires.side
    c.in-Ok.ensures.same_rows (rw c.deref.ensures.value at c.in-Ok.ensures.visits)))

-- Memory for the views is refused: the edit is undone.
pub restore-requires : goal.restore-requires
restore-requires c =
    can_restore (changed (goal.at.restore-requires c).In_ok-change) c.in-Err.ensures.same_rows
    c.index_mut-in-Err.ensures.value c.in_ok-change.change c.in_ok-change.ensures.makes.2

undone : (c : After-restore)
    → AreLive (slice_set c.follow_lookups.new.stores.items c.args.table c.restore.new.self) c.self.inside.views.items
    c.follow_lookups.new.states.items
undone c =
    restored_live (changed_inside c.self.view_is c.requires.there c.index_mut.ensures.value c.edit.ensures.table)
    c.in-Err.ensures.same_rows c.index_mut-in-Err.ensures.value (back c.in_ok-change.change) c.restore.ensures
    (rw c.deref.ensures.value at c.in-Err.ensures.err)
    (made_same c.numbers_law.ensures.hidden c.index_mut.result.now c.edit.new.self c.args.table c.in_ok-change.change
    c.requires.side (subst (λ n. IsChangeOf n c.in_ok-change.change) (sym c.requires.role) c.in_ok-change.ensures.kind)
    c.in_ok-change.ensures.makes.2 c.in_ok-change.ensures.makes.3) c.in_ok-change.ensures.makes.3 c.self.invariant

pub invariant_of-self-in-Err : goal.invariant_of-self-in-Err
invariant_of-self-in-Err c = undone (goal.at.invariant_of-self-in-Err c).After-restore

pub invariant_of-self-in-Err-2 : goal.invariant_of-self-in-Err-2
invariant_of-self-in-Err-2 c = undone (goal.at.invariant_of-self-in-Err-2 c).After-restore

pub invariant_of-self-in-Err-3 : goal.invariant_of-self-in-Err-3
invariant_of-self-in-Err-3 c = undone (goal.at.invariant_of-self-in-Err-3 c).After-restore

pub returns-in-Err : goal.returns-in-Err
returns-in-Err c =
    let unchanged : HaveSameRows c.self.inside.stores.items
    (slice_set c.follow_lookups.new.stores.items c.args.table c.restore.new.self) =
    restored (changed (goal.at.returns-in-Err c).In_ok-change) c.in-Err.ensures.same_rows
    c.index_mut-in-Err.ensures.value (back c.in_ok-change.change) c.restore.ensures c.in_ok-change.ensures.makes.3 in
    elim c.match-change.branch [
      | in-Retracted-1 w ↦ rw (w.self-is, ← c.self.view_is) (edit_restored unchanged)
      | in-Put-1 w ↦ rw (w.self-is, ← c.self.view_is) (edit_restored unchanged)
      | in-Appended-1 w ↦ rw (w.self-is, ← c.self.view_is) (edit_restored unchanged)
    ]
