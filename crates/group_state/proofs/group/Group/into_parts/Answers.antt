use Rattle.group_state.proofs.Taken.{all-next, taken-next}
use Rattle.group_state.proofs.group.Group.into_parts.Goals as goal
use Rattle.group_state.specs.GroupParts.{IsTally, tally_with}
use Rattle.std.proofs.Common.{◌≡◌, ◌∷◌, rules}

pub loop-tally-preserved : goal.loop-tally-preserved
loop-tally-preserved c =
    let x = c.in_ok-into_parts.field-0 in
    let left : c.loop-tally.tally-iterator.rest.items ≡ c.in-Some.tally ∷ c.next.new.self.rest.items = search rules in (
      taken-next tally_with c.loop-tally.taken.items c.push.new.self.items x c.in-Some.tally
          c.loop-tally.tally-iterator.rest.items c.next.new.self.rest.items c.args.self.tallies
          c.in_ok-push.ensures.items left c.in_ok-into_parts.ensures.value c.loop-tally.invariant.0,
      all-next IsTally c.loop-tally.taken.items c.push.new.self.items x c.in_ok-push.ensures.items
          c.loop-tally.invariant.1 c.in_ok-into_parts.ensures.kept,
    )
