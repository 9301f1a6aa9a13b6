use Rattle.std.proofs.Common.{◌∙◌, ap₂, of_z, subst, sym, to_z}
use Rattle.std.specs.Int.{w64}
use Rattle.values.specs.declared.key.Key.{Key}
use Rattle.values.specs.declared.key.Key.TheVariants.{Int}
use Rattle.group_state.specs.Counts.{take_times}
use Rattle.group_state.specs.Numbers.{AreNumbers, IsNumber, numbered}
use Rattle.group_state.proofs.FewValues.{Entries}
use Rattle.group_state.proofs.Numbers.{number-kept, numbers-take, take-other}
use Rattle.group_state.proofs.many_numbers.ManyNumbers.remove.Goals as goal

pub invariant_of-self : goal.invariant_of-self
invariant_of-self c =
    subst AreNumbers (sym c.take_from.ensures)
    (numbers-take (Int (to_z w64 (of_z w64 c.in-Some.number))) c.args.times (numbered c.self.inside.counts.entries) c.self.invariant)

pub returns-in-Some : goal.returns-in-Some
returns-in-Some c =
    let kept = number-kept c.key.result.now c.in-Some.number c.in-Some.ensures.number c.in-Some.ensures.fits in
    c.take_from.ensures
    ∙ ap₂ (λ (k : Key) (es : Entries). take_times k c.args.times es) (kept ∙ c.key.ensures) c.self.view_is

pub returns-in_default : goal.returns-in_default
returns-in_default c =
    take-other c.args.key.now c.args.times c.args.self.now
    (λ is. c.in_default.ensures.number (subst IsNumber (sym c.key.ensures) is))
    (subst AreNumbers c.self.view_is c.self.invariant)
