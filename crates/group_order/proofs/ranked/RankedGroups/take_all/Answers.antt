use Rattle.std.proofs.Common.{◌∙◌, subst}
use Rattle.std.specs.Prelude.{List}
use Rattle.std.proofs.lemmas.List.{take_all}
use Rattle.values.specs.declared.key.Key.{Key}
use Rattle.group_state.specs.Keys.{tuple_cmp}
use Rattle.top_rows.specs.Ties.{KeepsBy, without}
use Rattle.group_order.specs.Ranked.{placed_at}
use Rattle.group_order.proofs.OrderedGroups.{take-step}
use Rattle.group_order.proofs.ranked.RankedGroups.take_all.Goals as goal

pub loop-tuple-preserved : goal.loop-tuple-preserved
loop-tuple-preserved c =
    let inv = c.loop-tuple.invariant in (
      c.take_out.ensures.groups ∙ inv.0,
      (
        c.take_out.ensures.ranking ∙ inv.1.0,
        λ k. take-step c.args.self.now c.loop-tuple.self c.take_out.new.self c.args.tuples.now
            c.loop-tuple.tuple-index c.tuple-item.result c.loop-tuple-test.true c.tuple-item.is inv.0 inv.1.0
            c.in_ok-take_out.ensures.entries (inv.1.1 k),
      ),
    )

pub returns-clause-entries : goal.returns-clause-entries
returns-clause-entries c = λ k.
    subst (λ (ts : List (List Key)). KeepsBy tuple_cmp c.args.self.now.ranking.order c.loop-tuple.self.entries
    (without tuple_cmp ts (placed_at c.args.self.now.ranking c.args.self.now.groups)))
    (take_all c.loop-tuple.tuple-index c.args.tuples.now c.loop-tuple-test.false) (c.loop-tuple.invariant.1.1 k)
