use Rattle.std.proofs.Common.{◌++◌, subst, sym}
use Rattle.group_state.specs.Cells.{KeepsCells}
use Rattle.group_state.specs.declared.tally.Tally.{Tally}
use Rattle.group_state.proofs.Totals.{not-both, totals-join, values-join}
use Rattle.group_state.proofs.tally.Tally.give_up.Goals as goal
use Rattle.group_state.proofs.tally.Tally.give_up.Goals.{in-Total-Total, in-Total-Values, in-Values-Values, in-Values-Total}

pub returns : goal.returns
returns c = λ form rest moved k l.
    elim c.match-self.branch [
      | in-Total-Total w ↦
          subst (λ (x : Tally). KeepsCells form x (rest)) (sym w.self-is)
          (totals-join form w.in-Total-Total.total w.in-Total-Total.other w.give_up.new.self (moved ++ rest) moved (rest)
          (w.give_up.ensures rest moved)
          (subst (λ (x : Tally). KeepsCells form x (moved ++ rest)) w.in-Total-Total.is-0 k)
          (subst (λ (x : Tally). KeepsCells form x moved) w.in-Total-Total.is-1 l))
      | in-Total-Values w ↦
          absurd (not-both form w.in-Total-Values.field-0-0 w.in-Total-Values.field-0-1 (moved ++ rest) moved
          (subst (λ (x : Tally). KeepsCells form x (moved ++ rest)) w.in-Total-Values.is-0 k)
          (subst (λ (x : Tally). KeepsCells form x moved) w.in-Total-Values.is-1 l))
      | in-Values-Values w ↦
          subst (λ (x : Tally). KeepsCells form x (rest)) (sym w.self-is)
          (values-join form w.in-Values-Values.values w.in-Values-Values.other w.give_up_values.new.values (moved ++ rest) moved
          (rest) (w.give_up_values.ensures rest moved)
          (subst (λ (x : Tally). KeepsCells form x (moved ++ rest)) w.in-Values-Values.is-0 k)
          (subst (λ (x : Tally). KeepsCells form x moved) w.in-Values-Values.is-1 l))
      | in-Values-Total w ↦
          absurd (not-both form w.in-Values-Total.field-0-1 w.in-Values-Total.field-0-0 moved (moved ++ rest)
          (subst (λ (x : Tally). KeepsCells form x moved) w.in-Values-Total.is-1 l)
          (subst (λ (x : Tally). KeepsCells form x (moved ++ rest)) w.in-Values-Total.is-0 k))
    ]
