use Rattle.std.proofs.Common.{ap, ◌∙◌, ℕ}
use Rattle.std.specs.Prelude.{List}
use Rattle.values.specs.declared.key.Key.{Key}
use Rattle.group_state.specs.Counts.{had, take_times}
use Rattle.group_state.proofs.Had.{had-take}
use Rattle.group_state.proofs.multiset.Multiset.remove.Goals as goal

pub returns-clause-counts : goal.returns-clause-counts
returns-clause-counts c = λ q.
    ap (λ (es : List (Key × ℕ)). had es q)
    (c.take.ensures ∙ ap (λ (es : List (Key × ℕ)). take_times c.args.key.now 1 es) c.self.view_is)
    ∙ had-take c.args.key.now 1 c.args.self.now q c.count_distinct-size.ensures.ordered
