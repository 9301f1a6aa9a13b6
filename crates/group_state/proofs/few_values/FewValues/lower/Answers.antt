use Rattle.std.proofs.Common.{◌≡◌, ◌∙◌, arith, true, false}
use Rattle.std.specs.Prelude.{nat_lt}
use Rattle.group_state.proofs.FewValues.{few_lowered, few_removed, last_here, take_here}
use Rattle.group_state.proofs.few_values.FewValues.lower.Goals as goal

pub invariant_of-self : goal.invariant_of-self
invariant_of-self c =
    let many : nat_lt c.args.times c.index.result.now.1 ≡ true = grind arith in
    few_lowered c.requires.0 c.args.times c.args.place c.self.inside.counts.items c.args.self.now c.index.result.now c.self.view_is
    c.requires.1 c.index.ensures c.index_mut.result.now c.index_mut.ensures.value many c.self.invariant

pub invariant_of-self-else-count-times : goal.invariant_of-self-else-count-times
invariant_of-self-else-count-times c =
    let last : nat_lt c.args.times c.index.result.now.1 ≡ false = grind arith in
    rw c.remove.ensures.items
    (few_removed c.requires.0 c.args.times c.args.place c.self.inside.counts.items c.args.self.now c.index.result.now c.self.view_is
    c.requires.1 c.index.ensures last c.self.invariant)

pub returns-then-count-times : goal.returns-then-count-times
returns-then-count-times c = λ key there.
    let many : nat_lt c.args.times c.index.result.now.1 ≡ true = grind arith in
    take_here key c.args.times c.args.place c.self.inside.counts.items c.args.self.now c.index.result.now c.self.view_is there
    c.index.ensures c.index_mut.result.now c.index_mut.ensures.value many

pub returns-else-count-times : goal.returns-else-count-times
returns-else-count-times c = λ key there.
    let last : nat_lt c.args.times c.index.result.now.1 ≡ false = grind arith in
    c.remove.ensures.items
    ∙ last_here key c.args.times c.args.place c.self.inside.counts.items c.args.self.now c.index.result.now c.self.view_is there
    c.index.ensures last
