use Rattle.std.proofs.Common.{◌≡◌, [], ◌∷◌, ◌∙◌, rules}
use Rattle.group_state.proofs.Poured.{takes-first, takes-last, takes-next}
use Rattle.group_state.proofs.multiset.Multiset.give_up_many.Goals as goal

pub loop-key-init : goal.loop-key-init
loop-key-init c =
    takes-first c.args.self.now c.args.other.now c.into_iter-key-iterator.result
    (c.into_iter-key-iterator.ensures.into_iter_gives ∙ c.iter-key-items.ensures) c.len-size.ensures.ordered
    c.len-size.ensures.present

pub loop-key-preserved : goal.loop-key-preserved
loop-key-preserved c =
    let left : c.loop-key.key-iterator ≡ (c.in-Some.key.now, c.in-Some.count.now) ∷ c.next.new.self = search rules in
    takes-next c.args.self.now c.args.other.now c.loop-key.key-iterator c.next.new.self c.loop-key.self
    c.in-Some.key.now c.in-Some.count.now left
    c.remove_times.new.self c.remove_times.ensures c.loop-key.invariant

pub returns : goal.returns
returns c = λ q.
    let none : c.loop-key.key-iterator ≡ [] = search rules in
    takes-last c.args.self.now c.args.other.now c.loop-key.key-iterator c.loop-key.self none c.loop-key.invariant q
