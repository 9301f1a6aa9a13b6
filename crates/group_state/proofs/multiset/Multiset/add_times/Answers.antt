use Rattle.std.proofs.Common.{ap, ◌+◌, ◌∙◌, ℕ}
use Rattle.std.specs.Prelude.{cond, List}
use Rattle.std.specs.BTreeMap.{is_at}
use Rattle.values.specs.declared.key.Key.{Key}
use Rattle.group_state.specs.Counts.{had, put_times}
use Rattle.group_state.specs.Keys.{key_cmp}
use Rattle.group_state.specs.Multisets.{counted_in}
use Rattle.group_state.proofs.Had.{had-put_times}
use Rattle.group_state.proofs.multiset.Multiset.add_times.Goals as goal

pub returns : goal.returns
returns c = λ q.
    ap (λ (es : List (Key × ℕ)). had es q) c.in_ok-put.ensures.ok
    ∙ ap (λ (k : Key). had (put_times k c.args.times (counted_in c.make_room.new.counts)) q) c.in_ok-copy.ensures
    ∙ had-put_times c.args.key.now c.args.times (counted_in c.make_room.new.counts) q
    ∙ ap (λ (es : List (Key × ℕ)). had es q + cond (is_at (key_cmp c.args.key.now) q) c.args.times 0)
    (c.make_room.ensures.same ∙ c.self.view_is)
