use Rattle.std.proofs.Common.{ap, map, refl, ◌∙◌}
use Rattle.std.proofs.lemmas.List.{take_all}
use Rattle.group_state.specs.Cells.{fresh}
use Rattle.group_state.specs.declared.accumulated_columns.AccumulatedColumn.{AccumulatedColumn}
use Rattle.group_state.proofs.Halfway.{fresh-rows}
use Rattle.group_state.proofs.group.Group.new.Goals as goal

pub returns : goal.returns
returns c = record {
  rows_are = refl;
  tallies_are =
      fresh-rows c.args.columns.now c.loop-column.tallies.items
      (c.loop-column.invariant ∙ ap (map (λ (k : AccumulatedColumn). fresh k.form))
      (take_all c.loop-column.column-index c.args.columns.now c.loop-column-test.false));
}
