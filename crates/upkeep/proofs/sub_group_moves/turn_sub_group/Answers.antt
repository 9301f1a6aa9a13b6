use Rattle.std.proofs.Common.{◌≡◌, ◌∙◌, None, Some, ap, sym}
use Rattle.std.specs.BTreeMap.{is_at}
use Rattle.std.specs.Map.{lookup}
use Rattle.std.specs.Option.{option_map}
use Rattle.view_lang.specs.Joined.{Side}
use Rattle.group_state.specs.Keys.{tuple_cmp}
use Rattle.group_state.specs.Tuples.{tuple_of}
use Rattle.sub_groups.specs.Places.{representative_row}
use Rattle.upkeep.specs.Inputs.{side_by}
use Rattle.upkeep.specs.Stores.{rows_in, tables_in}
use Rattle.upkeep.specs.ViewStates.{width_in}
use Rattle.upkeep.specs.declared.view_state.Turn.TheVariants as turn
use Rattle.upkeep.proofs.MovedSubGroups.{
  after_is,
  before_is,
  made_none,
  moved_rows,
  no_group,
  no_place,
  none_moved,
  part,
}
use Rattle.upkeep.proofs.sub_group_moves.turn_sub_group.Goals as goal

pub returns-in_default-clause-kept : goal.returns-in_default-clause-kept
returns-in_default-clause-kept c = λ rows all others grouped parted kept.
    let tables = tables_in c.args.stores.now in
    let side : Side = side_by tables (rows_in c.args.stores.now) c.args.view.now in
    let s = c.args.sub_groups.now in
    let none : None ≡ lookup (is_at (tuple_cmp c.args.tuple.now)) s.groups.groups =
    sym (ap (option_map (λ g. g.now)) c.in_default.is) ∙ c.group.ensures in
    none_moved c.args.turn c.args.groups.now _ all others
    (no_group c.sub_group_law.ensures.placed tables c.args.view.now side s c.args.groups.now c.requires.can
    c.args.tuple.now rows all others grouped parted none) parted.together kept

pub returns-in_default-2-clause-kept : goal.returns-in_default-2-clause-kept
returns-in_default-2-clause-kept c = λ rows all others grouped parted kept.
    let tables = tables_in c.args.stores.now in
    let side : Side = side_by tables (rows_in c.args.stores.now) c.args.view.now in
    let s = c.args.sub_groups.now in
    let stand = representative_row (width_in tables) c.args.view.now side s.groups.keys c.args.tuple.now in
    let none : stand ≡ None =
    made_none (tuple_of c.args.groups.now.groups.keys) stand (sym c.in_ok-place.ensures ∙ c.in_default-2.is) in
    none_moved c.args.turn c.args.groups.now _ all others
    (no_place c.sub_group_law.ensures.placed tables c.args.view.now side s c.args.groups.now c.requires.can
    c.args.tuple.now rows all others grouped parted none) parted.together kept

pub take_in-requires : goal.take_in-requires
take_in-requires c =
    let tables = tables_in c.args.stores.now in
    let side : Side = side_by tables (rows_in c.args.stores.now) c.args.view.now in
    let s = c.args.sub_groups.now in
    let rows = c.requires.parted.0 in
    let all = c.requires.parted.1 in
    let others = c.requires.parted.2 in
    let grouped = c.requires.parted.3.0 in
    let parted = c.requires.parted.3.1.0 in
    let kept = before_is c.args.turn turn.Come c.args.groups.now all others c.in-Come.is c.requires.parted.3.1.1 in
    let there : Some c.in-Some.group.now ≡ lookup (is_at (tuple_cmp c.args.tuple.now)) s.groups.groups =
    sym (ap (option_map (λ g. g.now)) c.in-Some.is) ∙ c.group.ensures in
    record {
      part = (
        all,
        moved_rows c.sub_group_law.ensures.placed tables c.args.view.now side s c.args.groups.now c.requires.can
            c.args.tuple.now rows all others grouped parted,
        others,
        (
          kept,
          (
            part c.sub_group_law.ensures.placed tables c.args.view.now side s c.args.groups.now c.requires.can
                c.args.tuple.now rows all others grouped parted c.in-Some.group.now c.in-Some-2.place there
                (sym c.in_ok-place.ensures ∙ c.in-Some-2.is),
            parted.few,
          ),
        ),
      );
    }

pub give_up-requires : goal.give_up-requires
give_up-requires c =
    let tables = tables_in c.args.stores.now in
    let side : Side = side_by tables (rows_in c.args.stores.now) c.args.view.now in
    let s = c.args.sub_groups.now in
    let rows = c.requires.parted.0 in
    let all = c.requires.parted.1 in
    let others = c.requires.parted.2 in
    let grouped = c.requires.parted.3.0 in
    let parted = c.requires.parted.3.1.0 in
    let kept = before_is c.args.turn turn.Go c.args.groups.now all others c.in-Go.is c.requires.parted.3.1.1 in
    let there : Some c.in-Some.group.now ≡ lookup (is_at (tuple_cmp c.args.tuple.now)) s.groups.groups =
    sym (ap (option_map (λ g. g.now)) c.in-Some.is) ∙ c.group.ensures in
    record {
      part = (
        all,
        moved_rows c.sub_group_law.ensures.placed tables c.args.view.now side s c.args.groups.now c.requires.can
            c.args.tuple.now rows all others grouped parted,
        others,
        (
          kept,
          part c.sub_group_law.ensures.placed tables c.args.view.now side s c.args.groups.now c.requires.can
              c.args.tuple.now rows all others grouped parted c.in-Some.group.now c.in-Some-2.place there
              (sym c.in_ok-place.ensures ∙ c.in-Some-2.is),
        ),
      );
    }

pub returns-in-Come-clause-kept : goal.returns-in-Come-clause-kept
returns-in-Come-clause-kept c = λ rows all others grouped parted before.
    let tables = tables_in c.args.stores.now in
    let side : Side = side_by tables (rows_in c.args.stores.now) c.args.view.now in
    let s = c.args.sub_groups.now in
    let there : Some c.in-Some.group.now ≡ lookup (is_at (tuple_cmp c.args.tuple.now)) s.groups.groups =
    sym (ap (option_map (λ g. g.now)) c.in-Some.is) ∙ c.group.ensures in
    after_is c.args.turn turn.Come c.take_in.new.self all others c.in-Come.is
    (c.in_ok-take_in-in-Come.ensures.kept all _ others
    (part c.sub_group_law.ensures.placed tables c.args.view.now side s c.args.groups.now c.requires.can
    c.args.tuple.now rows all others grouped parted c.in-Some.group.now c.in-Some-2.place there
    (sym c.in_ok-place.ensures ∙ c.in-Some-2.is))
    (before_is c.args.turn turn.Come c.args.groups.now all others c.in-Come.is before))

pub returns-in-Go-clause-kept : goal.returns-in-Go-clause-kept
returns-in-Go-clause-kept c = λ rows all others grouped parted before.
    let tables = tables_in c.args.stores.now in
    let side : Side = side_by tables (rows_in c.args.stores.now) c.args.view.now in
    let s = c.args.sub_groups.now in
    let there : Some c.in-Some.group.now ≡ lookup (is_at (tuple_cmp c.args.tuple.now)) s.groups.groups =
    sym (ap (option_map (λ g. g.now)) c.in-Some.is) ∙ c.group.ensures in
    after_is c.args.turn turn.Go c.give_up.new.self all others c.in-Go.is
    (c.in_ok-give_up-in-Go.ensures.kept all _ others
    (part c.sub_group_law.ensures.placed tables c.args.view.now side s c.args.groups.now c.requires.can
    c.args.tuple.now rows all others grouped parted c.in-Some.group.now c.in-Some-2.place there
    (sym c.in_ok-place.ensures ∙ c.in-Some-2.is))
    (before_is c.args.turn turn.Go c.args.groups.now all others c.in-Go.is before))
