use Rattle.std.proofs.Common.{◌∙◌, ap₂, arith, of_z, subst, sym, to_z}
use Rattle.std.specs.Int.{w64}
use Rattle.values.specs.declared.key.Key.TheVariants.{Int}
use Rattle.group_state.specs.Counts.{had}
use Rattle.group_state.specs.Numbers.{AreNumbers, IsNumber, numbered}
use Rattle.group_state.proofs.Numbers.{number-kept, numbers-put}
use Rattle.group_state.proofs.many_numbers.ManyNumbers.add.Goals as goal

pub add_to-requires : goal.add_to-requires
add_to-requires c =
    let kept = number-kept c.key.result.now c.in-Some.number c.in-Some.ensures.number c.in-Some.ensures.fits in
    let same = ap₂ had c.self.view_is (kept ∙ c.key.ensures) in
    omega (arith, same, c.requires.few)

pub invariant_of-self : goal.invariant_of-self
invariant_of-self c =
    let kept = number-kept c.key.result.now c.in-Some.number c.in-Some.ensures.number c.in-Some.ensures.fits in
    subst AreNumbers (sym c.in_ok-add_to.ensures.ok)
    (numbers-put (Int (to_z w64 (of_z w64 c.in-Some.number))) c.args.times (numbered c.self.inside.counts.entries)
    (subst IsNumber (sym kept) c.in-Some.ensures.fits) c.requires.some c.self.invariant)
