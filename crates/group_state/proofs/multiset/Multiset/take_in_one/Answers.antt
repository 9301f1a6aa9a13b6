use Rattle.std.proofs.Common.{[], refl}
use Rattle.group_state.proofs.Poured.{adds-few, adds-first, adds-last, adds-next}
use Rattle.group_state.proofs.multiset.Multiset.take_in_one.Goals as goal

pub add_times-requires-clause-few : goal.add_times-requires-clause-few
add_times-requires-clause-few c =
    adds-few c.args.self.now c.args.other.now c.args.other.now [] c.args.self.now c.in-Some.key.now c.in-Some.count
    c.in-Some.ensures.entry c.requires
    (adds-first c.args.self.now c.args.other.now c.args.other.now refl c.in-Some.ensures.ordered
    c.in-Some.ensures.present)

pub returns-in_ok-add_times : goal.returns-in_ok-add_times
returns-in_ok-add_times c = λ q.
    adds-last c.args.self.now c.args.other.now [] c.add_times.new.self refl
    (adds-next c.args.self.now c.args.other.now c.args.other.now [] c.args.self.now c.in-Some.key.now c.in-Some.count
    c.in-Some.ensures.entry c.add_times.new.self c.in_ok-add_times.ensures
    (adds-first c.args.self.now c.args.other.now c.args.other.now refl c.in-Some.ensures.ordered
    c.in-Some.ensures.present)) q
