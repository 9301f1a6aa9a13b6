use Rattle.std.proofs.Common.{ap, arith, ◌+◌, ◌∙◌, ℕ}
use Rattle.std.specs.Prelude.{List}
use Rattle.values.specs.declared.key.Key.{Key}
use Rattle.group_state.specs.Counts.{had, one}
use Rattle.group_state.specs.Multisets.{counted_in}
use Rattle.group_state.proofs.Had.{had-put_times}
use Rattle.group_state.proofs.multiset.Multiset.add.Goals as goal

pub put-requires-clause-few : goal.put-requires-clause-few
put-requires-clause-few c =
    let same = ap (λ (es : List (Key × ℕ)). had es c.args.key) (c.make_room.ensures.same ∙ c.self.view_is) in
    omega (arith, same, c.requires)

pub returns-clause-counts : goal.returns-clause-counts
returns-clause-counts c = λ q.
    ap (λ (es : List (Key × ℕ)). had es q) c.in_ok-put.ensures.ok
    ∙ had-put_times c.args.key 1 (counted_in c.make_room.new.counts) q
    ∙ ap (λ (es : List (Key × ℕ)). had es q + one c.args.key q) (c.make_room.ensures.same ∙ c.self.view_is)
