use Rattle.std.proofs.Common.{◌∙◌}
use Rattle.view_lang.specs.Joined.{Side}
use Rattle.upkeep.specs.Inputs.{side_by}
use Rattle.upkeep.specs.Stores.{rows_in, tables_in}
use Rattle.upkeep.proofs.MovedSubGroups.{next_after, next_before, next_parted, still_can}
use Rattle.upkeep.proofs.sub_group_moves.turn_sub_groups.Goals as goal

pub turn_sub_group-requires-clause-can : goal.turn_sub_group-requires-clause-can
turn_sub_group-requires-clause-can c =
    still_can (tables_in c.args.stores.now) c.args.view.now c.args.sub_groups.now c.args.groups.now c.loop-index.groups
    c.loop-index.invariant.keys c.loop-index.invariant.columns c.requires.can

pub turn_sub_group-requires-clause-parted : goal.turn_sub_group-requires-clause-parted
turn_sub_group-requires-clause-parted c =
    let side : Side = side_by (tables_in c.args.stores.now) (rows_in c.args.stores.now) c.args.view.now in
    let keys = c.args.sub_groups.now.groups.keys in
    let rows = c.requires.kept.0 in
    let grouped = c.requires.kept.1.0 in
    let ts = c.args.tuples.now in
    let i = c.loop-index.index in
    let t = c.index-tuples-index.result in (
      rows,
      _,
      _,
      (
        grouped,
        (
          next_parted c.sub_group_law.ensures.part c.args.view.now side keys rows grouped.few ts c.requires.ascending i t
              c.index-tuples-index.is c.loop-index-test.true c.args.turn,
          next_before c.sub_group_law.ensures.part c.args.view.now side keys rows grouped.few ts c.requires.ascending i t
              c.index-tuples-index.is c.loop-index-test.true c.args.turn c.loop-index.groups
              (c.loop-index.invariant.kept rows grouped c.requires.kept.1.1),
        ),
      ),
    )

pub loop-index-preserved : goal.loop-index-preserved
loop-index-preserved c =
    let side : Side = side_by (tables_in c.args.stores.now) (rows_in c.args.stores.now) c.args.view.now in
    let keys = c.args.sub_groups.now.groups.keys in
    let ts = c.args.tuples.now in
    let i = c.loop-index.index in
    let t = c.index-tuples-index.result in
    record {
      kept =
          λ rows grouped before.
          next_after c.sub_group_law.ensures.part c.args.view.now side keys rows grouped.few ts c.requires.ascending i t
          c.index-tuples-index.is c.loop-index-test.true c.args.turn c.turn_sub_group.new.groups
          (c.in_ok-turn_sub_group.ensures.kept rows _ _ grouped
          (next_parted c.sub_group_law.ensures.part c.args.view.now side keys rows grouped.few ts c.requires.ascending i t
          c.index-tuples-index.is c.loop-index-test.true c.args.turn)
          (next_before c.sub_group_law.ensures.part c.args.view.now side keys rows grouped.few ts c.requires.ascending i t
          c.index-tuples-index.is c.loop-index-test.true c.args.turn c.loop-index.groups
          (c.loop-index.invariant.kept rows grouped before)));
      keys = c.in_ok-turn_sub_group.ensures.keys ∙ c.loop-index.invariant.keys;
      columns = c.in_ok-turn_sub_group.ensures.columns ∙ c.loop-index.invariant.columns;
      ranking = c.turn_sub_group.ensures.ranking ∙ c.loop-index.invariant.ranking;
    }
