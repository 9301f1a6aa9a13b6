use Rattle.std.proofs.Common.{[], refl}
use Rattle.group_state.proofs.Poured.{takes-first, takes-last, takes-next}
use Rattle.group_state.proofs.multiset.Multiset.give_up_one.Goals as goal

pub returns-in-Some : goal.returns-in-Some
returns-in-Some c = λ q.
    takes-last c.args.self.now c.args.other.now [] c.remove_times.new.self refl
    (takes-next c.args.self.now c.args.other.now c.args.other.now [] c.args.self.now c.in-Some.key.now c.in-Some.count
    c.in-Some.ensures.entry c.remove_times.new.self c.remove_times.ensures
    (takes-first c.args.self.now c.args.other.now c.args.other.now refl c.in-Some.ensures.ordered
    c.in-Some.ensures.present)) q
