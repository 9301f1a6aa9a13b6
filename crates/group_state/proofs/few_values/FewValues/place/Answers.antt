use Rattle.std.proofs.Common.{arith, sym}
use Rattle.group_state.proofs.FewValues.{past_at, there_at}
use Rattle.group_state.proofs.few_values.FewValues.place.Goals as goal

pub returns-in-Equal : goal.returns-in-Equal
returns-in-Equal c =
    there_at c.args.key.now c.loop-place.place c.self.inside.counts.items c.args.self.now c.index.result.now
    c.self.view_is (omega (arith, c.loop-place-test.true, c.len-place-end.ensures)) c.index.ensures
    c.loop-place.invariant (sym c.in-Equal.ensures)

pub loop-place-preserved : goal.loop-place-preserved
loop-place-preserved c =
    past_at c.args.key.now c.loop-place.place c.self.inside.counts.items c.args.self.now c.index.result.now
    c.self.view_is (omega (arith, c.loop-place-test.true, c.len-place-end.ensures)) c.index.ensures
    c.loop-place.invariant (sym c.in-Greater.ensures)
