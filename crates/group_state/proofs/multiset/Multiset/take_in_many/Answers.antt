use Rattle.std.proofs.Common.{◌≡◌, [], ◌∷◌, ◌∙◌, rules}
use Rattle.group_state.proofs.Poured.{adds-few, adds-first, adds-last, adds-next, adds-some}
use Rattle.group_state.proofs.multiset.Multiset.take_in_many.Goals as goal

pub add_times-requires-clause-some : goal.add_times-requires-clause-some
add_times-requires-clause-some c =
    let left : c.loop-key.key-iterator ≡ (c.in-Some.key.now, c.in-Some.count.now) ∷ c.next.new.self = search rules in
    adds-some c.args.self.now c.args.other.now c.loop-key.key-iterator c.next.new.self c.loop-key.self
    c.in-Some.key.now c.in-Some.count.now left c.loop-key.invariant

pub add_times-requires-clause-few : goal.add_times-requires-clause-few
add_times-requires-clause-few c =
    let left : c.loop-key.key-iterator ≡ (c.in-Some.key.now, c.in-Some.count.now) ∷ c.next.new.self = search rules in
    adds-few c.args.self.now c.args.other.now c.loop-key.key-iterator c.next.new.self c.loop-key.self
    c.in-Some.key.now c.in-Some.count.now left c.requires c.loop-key.invariant

pub loop-key-init : goal.loop-key-init
loop-key-init c =
    adds-first c.args.self.now c.args.other.now c.into_iter-key-iterator.result
    (c.into_iter-key-iterator.ensures.into_iter_gives ∙ c.iter-key-items.ensures) c.len-size.ensures.ordered
    c.len-size.ensures.present

pub loop-key-preserved : goal.loop-key-preserved
loop-key-preserved c =
    let left : c.loop-key.key-iterator ≡ (c.in-Some.key.now, c.in-Some.count.now) ∷ c.next.new.self = search rules in
    adds-next c.args.self.now c.args.other.now c.loop-key.key-iterator c.next.new.self c.loop-key.self
    c.in-Some.key.now c.in-Some.count.now left
    c.add_times.new.self c.in_ok-add_times.ensures c.loop-key.invariant

pub returns : goal.returns
returns c = λ q.
    let none : c.loop-key.key-iterator ≡ [] = search rules in
    adds-last c.args.self.now c.args.other.now c.loop-key.key-iterator c.loop-key.self none c.loop-key.invariant q
