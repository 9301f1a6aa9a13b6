use Rattle.std.proofs.Common.{arith, subst, sym, true≢false, ◌∙◌}
use Rattle.std.specs.BTreeMap.{is_at}
use Rattle.std.specs.Option.{option_map}
use Rattle.std.specs.Ordering.{nat_cmp}
use Rattle.std.specs.Prelude.{None}
use Rattle.view_lang.specs.Shifts.{with_at}
use Rattle.upkeep.specs.SideRows.{sided_cells}
use Rattle.upkeep.specs.ViewStates.{IsMaterialized, projected_by}
use Rattle.upkeep.proofs.FollowedLookups.{on_ok}
use Rattle.upkeep.proofs.KeptAlike.{alike_kept}
use Rattle.upkeep.proofs.Remade.{both_steps, come_step, go_step}
use Rattle.upkeep.proofs.RowByRow.{shorter}
use Rattle.upkeep.proofs.remaking.remake_row.Goals as goal

pub returns-then-is_reprojected_alike-clause-kept : goal.returns-then-is_reprojected_alike-clause-kept
returns-then-is_reprojected_alike-clause-kept c = λ rows fits keeps.
    alike_kept c.args.view.now c.args.kept.now c.args.number (option_map sided_cells c.args.before.now)
    (option_map sided_cells c.args.after.now) rows (sym c.is_reprojected_alike.ensures ∙ c.if-is_reprojected_alike.true) fits keeps

pub returns-clause-left : goal.returns-clause-left
returns-clause-left c = λ same. absurd (true≢false (sym same ∙ sym c.is_reprojected_alike.ensures ∙ c.if-is_reprojected_alike.false))

pub turn_joined-requires : goal.turn_joined-requires
turn_joined-requires c =
    let v = c.args.view.now in
    let before = projected_by v.outputs (option_map sided_cells c.args.before.now) in
    let after = projected_by v.outputs (option_map sided_cells c.args.after.now) in (
      c.requires.0,
      (
        c.requires.1.0,
        (go_step c.args.number before after c.requires.0 c.requires.1.1.0, c.requires.1.1.1),
      ),
    )

pub turn_joined-requires-2 : goal.turn_joined-requires-2
turn_joined-requires-2 c =
    let v = c.args.view.now in
    let n = c.args.number in
    let before = projected_by v.outputs (option_map sided_cells c.args.before.now) in
    let after = projected_by v.outputs (option_map sided_cells c.args.after.now) in
    let rows = c.requires.0 in
    let fits = c.requires.1.1.0 in
    let less = shorter (is_at (nat_cmp n)) rows in
    let few = c.requires.1.1.1 in (
      with_at n None rows,
      (
        c.in_ok-turn_joined.ensures.kept rows (go_step n before after rows fits) c.requires.1.0,
        (come_step n before after rows fits, omega (arith, less, few)),
      ),
    )

pub returns-clause-kept : goal.returns-clause-kept
returns-clause-kept c =
    let v = c.args.view.now in
    let n = c.args.number in
    let before = projected_by v.outputs (option_map sided_cells c.args.before.now) in
    let after = projected_by v.outputs (option_map sided_cells c.args.after.now) in
    on_ok _ _ c.turn_joined-2.result
    (λ came rows fits keeps.
    subst (IsMaterialized v c.turn_joined-2.new.kept) (both_steps n before after rows fits)
    (came (with_at n None rows) (come_step n before after rows fits)
    (c.in_ok-turn_joined.ensures.kept rows (go_step n before after rows fits) keeps)))
    c.turn_joined-2.ensures.kept
