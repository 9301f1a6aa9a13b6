use Rattle.group_state.proofs.Taken.{first-left, made-next, rest-left}
use Rattle.group_state.proofs.groups.Groups.from_parts.Goals as goal
use Rattle.group_state.specs.GroupParts.{IsGroup, group_with}
use Rattle.group_state.specs.Keys.{tuple_cmp, tuple_total}
use Rattle.std.proofs.Common.{◌≡◌, ◌∷◌, rules, refl, sym}

pub loop-group-init : goal.loop-group-init
loop-group-init c =
    let all = c.into_iter-group-iterator.ensures.into_iter_gives.0 in
    (rw (c.new-made.ensures.empty, all) refl, rw all c.requires.groups)

pub from_parts-requires : goal.from_parts-requires
from_parts-requires c =
    let left : c.loop-group.group-iterator.rest.items ≡ c.in-Some.group ∷ c.next.new.self.rest.items = search rules in
    first-left IsGroup c.in-Some.group c.loop-group.group-iterator.rest.items c.next.new.self.rest.items left
    c.loop-group.invariant.1

pub loop-group-preserved-in_ok-insert : goal.loop-group-preserved-in_ok-insert
loop-group-preserved-in_ok-insert c =
    let x = c.in-Some.group in
    let left : c.loop-group.group-iterator.rest.items ≡ x ∷ c.next.new.self.rest.items = search rules in (
      made-next tuple_cmp tuple_total group_with c.loop-group.made.entries c.insert.new.self.entries _ _ x
          c.loop-group.group-iterator.rest.items c.next.new.self.rest.items c.args.parts.groups.items left
          (sym c.in_ok-tuple.ensures) c.in_ok-insert.ensures.entries c.loop-group.invariant.0 c.requires.ascending,
      rest-left IsGroup x c.loop-group.group-iterator.rest.items c.next.new.self.rest.items left
          c.loop-group.invariant.1,
    )

pub loop-group-preserved : goal.loop-group-preserved
loop-group-preserved c =
    let x = c.in-Some.group in
    let left : c.loop-group.group-iterator.rest.items ≡ x ∷ c.next.new.self.rest.items = search rules in (
      made-next tuple_cmp tuple_total group_with c.loop-group.made.entries c.insert.new.self.entries _ _ x
          c.loop-group.group-iterator.rest.items c.next.new.self.rest.items c.args.parts.groups.items left
          (sym c.in_ok-tuple.ensures) c.in_ok-insert.ensures.entries c.loop-group.invariant.0 c.requires.ascending,
      rest-left IsGroup x c.loop-group.group-iterator.rest.items c.next.new.self.rest.items left
          c.loop-group.invariant.1,
    )
