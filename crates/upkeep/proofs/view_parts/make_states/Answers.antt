use Rattle.std.proofs.Common.{◌≡◌, ◌∷◌, rules, sym, map}
use Rattle.upkeep.proofs.Taken.{pushed-next, rest-left}
use Rattle.upkeep.proofs.view_parts.make_states.Goals as goal
use Rattle.upkeep.specs.ViewParts.{IsState, state_with}

pub loop-state-preserved : goal.loop-state-preserved
loop-state-preserved c =
    let x = c.in-Some.state in
    let left : c.loop-state.state-iterator.rest.items ≡ x ∷ c.next.new.self.rest.items = search rules in (
      pushed-next state_with c.loop-state.states.items c.push.new.self.items _ x c.loop-state.state-iterator.rest.items
          c.next.new.self.rest.items (map state_with c.args.parts.items) left (sym c.in_ok-from_parts.ensures)
          c.in_ok-push.ensures.items c.loop-state.invariant.0,
      rest-left IsState x c.loop-state.state-iterator.rest.items c.next.new.self.rest.items left
          c.loop-state.invariant.1,
    )
