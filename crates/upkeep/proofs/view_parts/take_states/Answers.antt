use Rattle.std.proofs.Common.{◌≡◌, ◌∷◌, rules}
use Rattle.upkeep.proofs.Taken.{all-next, taken-next}
use Rattle.upkeep.proofs.view_parts.take_states.Goals as goal
use Rattle.upkeep.specs.ViewParts.{IsState, state_with}

pub loop-state-preserved : goal.loop-state-preserved
loop-state-preserved c =
    let x = c.in_ok-into_parts.field-0 in
    let left : c.loop-state.state-iterator.rest.items ≡ c.in-Some.state ∷ c.next.new.self.rest.items = search rules in (
      taken-next state_with c.loop-state.taken.items c.push.new.self.items x c.in-Some.state
          c.loop-state.state-iterator.rest.items c.next.new.self.rest.items c.args.states.items
          c.in_ok-push.ensures.items left c.in_ok-into_parts.ensures.value c.loop-state.invariant.0,
      all-next IsState c.loop-state.taken.items c.push.new.self.items x c.in_ok-push.ensures.items
          c.loop-state.invariant.1 c.in_ok-into_parts.ensures.kept,
    )
