use Rattle.std.proofs.Common.{◌≡◌, ◌∷◌, ◌+◌, ◌<◌, arith, drop, length}
use Rattle.group_state.proofs.Poured.{drop-none, left-from, none-left, takes-first, takes-last, takes-next}
use Rattle.group_state.proofs.multiset.Multiset.give_up_few.Goals as goal

pub loop-place-init : goal.loop-place-init
loop-place-init c =
    takes-first c.args.self.now c.args.other.now (drop 0 c.args.other.now) (drop-none c.args.other.now)
    c.len-size.ensures.ordered c.len-size.ensures.present

pub loop-place-preserved : goal.loop-place-preserved
loop-place-preserved c =
    let test = c.loop-place-test.true in
    let size = c.len-size.ensures.many in
    let within : c.loop-place.place < length c.args.other.now = omega (arith, test, size) in
    let left : drop c.loop-place.place c.args.other.now
    ≡ (c.key.result.now, c.count.result) ∷ drop (c.loop-place.place + 1) c.args.other.now =
    left-from c.args.other.now c.loop-place.place c.key.result.now c.count.result within c.key.ensures c.count.ensures in
    takes-next c.args.self.now c.args.other.now (drop c.loop-place.place c.args.other.now)
    (drop (c.loop-place.place + 1) c.args.other.now) c.loop-place.self c.key.result.now c.count.result left
    c.remove_times.new.self c.remove_times.ensures c.loop-place.invariant

pub returns : goal.returns
returns c = λ q.
    let test = c.loop-place-test.false in
    let size = c.len-size.ensures.many in
    takes-last c.args.self.now c.args.other.now (drop c.loop-place.place c.args.other.now) c.loop-place.self
    (none-left c.args.other.now c.loop-place.place (omega (arith, test, size))) c.loop-place.invariant q
