use Rattle.std.proofs.Common.{ap, ◌∙◌, to_z-of_z, ℤ, Some}
use Rattle.std.specs.Int.{w128}
use Rattle.values.specs.declared.key.Key.TheVariants.{Int}
use Rattle.group_state.specs.Folds.{last_of}
use Rattle.group_state.proofs.Numbers.{last-numbered}
use Rattle.group_state.proofs.many_numbers.ManyNumbers.greatest.Goals as goal

pub returns-in-Some : goal.returns-in-Some
returns-in-Some c =
    ap (λ (z : ℤ). Some (Int z)) (to_z-of_z {w = w128} (record { sfits = c.wide.type_inv }) ∙ c.wide.ensures)
    ∙ last-numbered c.self.inside.counts.entries (c.in-Some.number.now, c.in-Some._count.now) c.in-Some.ensures.last
    ∙ ap last_of c.self.view_is
