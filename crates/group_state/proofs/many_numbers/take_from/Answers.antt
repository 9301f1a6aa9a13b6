use Rattle.std.proofs.Common.{◌∙◌, ap, of_z, rules, to_z, to_z-of_z, ℤ}
use Rattle.std.specs.Int.{w64}
use Rattle.values.specs.declared.key.Key.TheVariants.{Int}
use Rattle.group_state.specs.Counts.{take_times}
use Rattle.group_state.specs.Numbers.{numbered}
use Rattle.group_state.proofs.Numbers.{take-numbered, take_last-numbered, take_none-numbered}
use Rattle.group_state.proofs.many_numbers.take_from.Goals as goal

pub returns-in_default : goal.returns-in_default
returns-in_default c =
    take_none-numbered (to_z w64 (of_z w64 c.args.number)) c.args.times c.args.counts.now.entries _ (search rules)
    c.in_default.ensures.value
    ∙ ap (λ (z : ℤ). take_times (Int z) c.args.times (numbered c.args.counts.now.entries)) (to_z-of_z c.ranges.number)

pub returns-then-count-times : goal.returns-then-count-times
returns-then-count-times c =
    take-numbered (to_z w64 (of_z w64 c.args.number)) c.args.times c.args.counts.now.entries _ c.in-Some.count.now
    c.in-Some.ensures.value c.if-count-times.true (search rules)
    ∙ ap (λ (z : ℤ). take_times (Int z) c.args.times (numbered c.args.counts.now.entries)) (to_z-of_z c.ranges.number)

pub returns-else-count-times : goal.returns-else-count-times
returns-else-count-times c =
    take_last-numbered (to_z w64 (of_z w64 c.args.number)) c.args.times c.args.counts.now.entries _ c.in-Some.count.now
    c.in-Some.ensures.value _ c.if-count-times.false (search rules) c.remove.ensures.entries
    ∙ ap (λ (z : ℤ). take_times (Int z) c.args.times (numbered c.args.counts.now.entries)) (to_z-of_z c.ranges.number)
