use Rattle.std.proofs.Common.{◌∙◌, ap, arith, get_or, length, sym}
use Rattle.row_keys.specs.Slots.{no_slot}
use Rattle.row_keys.specs.Store.{Store}
use Rattle.row_keys.proofs.JoinedNumbers.{keyed_length}
use Rattle.row_keys.proofs.StoreStates.{live_joined}
use Rattle.row_keys.proofs.store.RowStore.next_retained.Goals as goal

pub next_retained-requires : goal.next_retained-requires
next_retained-requires c =
    let all = keyed_length c.self.inside.table c.self.inside.rows c.self.inside.numbers c.self.invariant.keyed in
    let long = ap (λ (s : Store). length s.slots) c.self.view_is in
    omega (arith, all.1, long, c.requires)

pub returns-clause-within : goal.returns-clause-within
returns-clause-within c =
    let all = keyed_length c.self.inside.table c.self.inside.rows c.self.inside.numbers c.self.invariant.keyed in
    let long = ap (λ (s : Store). length s.slots) c.self.view_is in
    omega (arith, all.1, long, c.next_retained.ensures.within)

pub returns-clause-dead : goal.returns-clause-dead
returns-clause-dead c = λ k above below.
    let all = keyed_length c.self.inside.table c.self.inside.rows c.self.inside.numbers c.self.invariant.keyed in
    sym (ap (λ (s : Store). (get_or s.slots k no_slot).live) c.self.view_is)
    ∙ live_joined c.self.inside.rows c.self.inside.numbers k
    (omega (arith, all.1, below, c.next_retained.ensures.within)) ∙ c.next_retained.ensures.dead k above below
