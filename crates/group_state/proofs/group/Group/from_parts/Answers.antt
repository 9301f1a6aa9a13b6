use Rattle.group_state.proofs.Taken.{pushed-next, rest-left}
use Rattle.group_state.proofs.group.Group.from_parts.Goals as goal
use Rattle.group_state.specs.GroupParts.{IsTally, tally_with}
use Rattle.std.proofs.Common.{◌≡◌, ◌∷◌, rules, sym, map}

pub loop-tally-preserved : goal.loop-tally-preserved
loop-tally-preserved c =
    let x = c.in-Some.tally in
    let left : c.loop-tally.tally-iterator.rest.items ≡ x ∷ c.next.new.self.rest.items = search rules in (
      pushed-next tally_with c.loop-tally.made.items c.push.new.self.items _ x c.loop-tally.tally-iterator.rest.items
          c.next.new.self.rest.items (map tally_with c.args.parts.tallies.items) left (sym c.in_ok-from_parts.ensures)
          c.in_ok-push.ensures.items c.loop-tally.invariant.0,
      rest-left IsTally x c.loop-tally.tally-iterator.rest.items c.next.new.self.rest.items left
          c.loop-tally.invariant.1,
    )
