use Rattle.group_state.proofs.Taken.{all-next, taken-next}
use Rattle.group_state.proofs.groups.Groups.into_parts.Goals as goal
use Rattle.group_state.specs.GroupParts.{IsGroup, group_with}
use Rattle.std.proofs.Common.{◌≡◌, ◌∷◌, rules}

pub loop-tuple-preserved : goal.loop-tuple-preserved
loop-tuple-preserved c =
    let x = c.in_ok-into_parts.field-0 in
    let left : c.loop-tuple.tuple-iterator ≡ (c.in-Some.tuple, c.in-Some.group) ∷ c.next.new.self = search rules in (
      taken-next group_with c.loop-tuple.taken.items c.push.new.self.items x (c.in-Some.tuple, c.in-Some.group)
          c.loop-tuple.tuple-iterator c.next.new.self c.args.self.groups c.in_ok-push.ensures.items left
          c.in_ok-into_parts.ensures.value c.loop-tuple.invariant.0,
      all-next IsGroup c.loop-tuple.taken.items c.push.new.self.items x c.in_ok-push.ensures.items
          c.loop-tuple.invariant.1 c.in_ok-into_parts.ensures.kept,
    )
