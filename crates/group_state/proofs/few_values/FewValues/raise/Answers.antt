use Rattle.std.proofs.Common.{arith}
use Rattle.group_state.proofs.FewValues.{few_raised, had_here, put_here}
use Rattle.group_state.proofs.few_values.FewValues.raise.Goals as goal

pub overflow_add-index_mut : goal.overflow_add-index_mut
overflow_add-index_mut c =
    let had =
    had_here c.requires.there.0 c.args.times c.args.place c.self.inside.counts.items c.args.self.now c.index_mut.result.now
    c.self.view_is c.requires.there.1.0 c.index_mut.ensures.value in
    omega (arith, had, c.requires.there.1.1)

pub invariant_of-self : goal.invariant_of-self
invariant_of-self c =
    few_raised c.requires.there.0 c.args.times c.args.place c.self.inside.counts.items c.args.self.now c.index_mut.result.now
    c.self.view_is c.requires.there.1.0 c.index_mut.ensures.value c.requires.some c.self.invariant

pub returns : goal.returns
returns c = λ key there.
    put_here key c.args.times c.args.place c.self.inside.counts.items c.args.self.now c.index_mut.result.now c.self.view_is
    there c.index_mut.ensures.value
