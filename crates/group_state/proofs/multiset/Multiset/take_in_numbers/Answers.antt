use Rattle.std.proofs.Common.{◌≡◌, [], ◌∷◌, ◌∙◌, ap, rules, sym}
use Rattle.values.specs.declared.key.Key.{Key}
use Rattle.group_state.specs.Numbers.{numbered}
use Rattle.group_state.proofs.Poured.{adds-few, adds-first, adds-last, adds-next, adds-some}
use Rattle.group_state.proofs.multiset.Multiset.take_in_numbers.Goals as goal

pub add_times-requires-clause-some : goal.add_times-requires-clause-some
add_times-requires-clause-some c =
    let left : c.loop-number.number-iterator ≡ (c.in-Some.number.now, c.in-Some.count.now) ∷ c.next.new.self = search rules in
    adds-some c.args.self.now c.args.other.now (numbered c.loop-number.number-iterator) (numbered c.next.new.self)
    c.loop-number.self c.key_of-key.result c.in-Some.count.now
    (ap numbered left ∙ ap (λ (k : Key). (k, c.in-Some.count.now) ∷ numbered c.next.new.self) (sym c.key_of-key.ensures))
    c.loop-number.invariant

pub add_times-requires-clause-few : goal.add_times-requires-clause-few
add_times-requires-clause-few c =
    let left : c.loop-number.number-iterator ≡ (c.in-Some.number.now, c.in-Some.count.now) ∷ c.next.new.self = search rules in
    adds-few c.args.self.now c.args.other.now (numbered c.loop-number.number-iterator) (numbered c.next.new.self)
    c.loop-number.self c.key_of-key.result c.in-Some.count.now
    (ap numbered left ∙ ap (λ (k : Key). (k, c.in-Some.count.now) ∷ numbered c.next.new.self) (sym c.key_of-key.ensures))
    c.requires c.loop-number.invariant

pub loop-number-init : goal.loop-number-init
loop-number-init c =
    adds-first c.args.self.now c.args.other.now (numbered c.into_iter-number-iterator.result)
    (ap numbered c.into_iter-number-iterator.ensures.into_iter_gives ∙ c.iter-number-items.ensures)
    c.len-size.ensures.ordered c.len-size.ensures.present

pub loop-number-preserved : goal.loop-number-preserved
loop-number-preserved c =
    let left : c.loop-number.number-iterator ≡ (c.in-Some.number.now, c.in-Some.count.now) ∷ c.next.new.self = search rules in
    adds-next c.args.self.now c.args.other.now (numbered c.loop-number.number-iterator) (numbered c.next.new.self)
    c.loop-number.self c.key_of-key.result c.in-Some.count.now
    (ap numbered left ∙ ap (λ (k : Key). (k, c.in-Some.count.now) ∷ numbered c.next.new.self) (sym c.key_of-key.ensures))
    c.add_times.new.self c.in_ok-add_times.ensures c.loop-number.invariant

pub returns : goal.returns
returns c = λ q.
    let none : c.loop-number.number-iterator ≡ [] = search rules in
    adds-last c.args.self.now c.args.other.now (numbered c.loop-number.number-iterator) c.loop-number.self
    (ap numbered none) c.loop-number.invariant q
