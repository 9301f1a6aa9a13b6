use Rattle.std.proofs.Common.{ap, ◌∙◌, ℕ}
use Rattle.std.specs.Prelude.{List}
use Rattle.values.specs.declared.key.Key.{Key}
use Rattle.group_state.specs.Counts.{had, take_times}
use Rattle.group_state.proofs.Had.{had-take}
use Rattle.group_state.proofs.multiset.Multiset.remove_times.Goals as goal

pub returns : goal.returns
returns c = λ q.
    ap (λ (es : List (Key × ℕ)). had es q)
    (c.take.ensures ∙ ap (λ (es : List (Key × ℕ)). take_times c.args.key.now c.args.times es) c.self.view_is)
    ∙ had-take c.args.key.now c.args.times c.args.self.now q c.count_distinct-size.ensures.ordered
