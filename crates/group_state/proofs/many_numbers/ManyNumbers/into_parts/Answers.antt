use Rattle.std.proofs.Common.{◌≡◌, ◌∷◌, ◌∙◌, ap, rules, to_z-of_z, ℤ}
use Rattle.std.specs.Int.{w128}
use Rattle.values.specs.declared.key.Key.TheVariants.{Int}
use Rattle.group_state.specs.GroupParts.{count_with}
use Rattle.group_state.specs.Numbers.{numbered}
use Rattle.group_state.proofs.Taken.{taken-next}
use Rattle.group_state.proofs.many_numbers.ManyNumbers.into_parts.Goals as goal

pub loop-number-preserved : goal.loop-number-preserved
loop-number-preserved c =
    let left : c.loop-number.number-iterator ≡ (c.in-Some.number.now, c.in-Some.count.now) ∷ c.next.new.self = search rules in
    taken-next count_with c.loop-number.taken.items c.push.new.self.items _ (Int c.in-Some.number.now, c.in-Some.count.now)
    (numbered c.loop-number.number-iterator) (numbered c.next.new.self) c.args.self c.in_ok-push.ensures.items
    (ap numbered left)
    (ap (λ (z : ℤ). (Int z, c.in-Some.count.now)) (to_z-of_z {w = w128} (record { sfits = c.wide.type_inv }) ∙ c.wide.ensures))
    c.loop-number.invariant
