use Rattle.group_state.proofs.FewValues.{few_inserted, inserted}
use Rattle.group_state.proofs.few_values.FewValues.insert.Goals as goal

pub invariant_of-self-2 : goal.invariant_of-self-2
invariant_of-self-2 c =
    few_inserted c.args.key c.args.times c.args.place c.self.inside.counts.items c.reserve_exact.new.self.items c.args.self.now
    c.insert.new.self.items c.self.view_is c.reserve_exact.ensures.items c.requires.before c.self.invariant
    c.in_ok-insert.ensures.items c.requires.some

pub returns-clause-ok : goal.returns-clause-ok
returns-clause-ok c =
    inserted c.args.key c.args.times c.args.place c.self.inside.counts.items c.reserve_exact.new.self.items c.args.self.now
    c.insert.new.self.items c.self.view_is c.reserve_exact.ensures.items c.requires.before c.self.invariant
    c.in_ok-insert.ensures.items
