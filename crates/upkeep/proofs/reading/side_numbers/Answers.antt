use Rattle.std.proofs.Common.{◌+◌, All, List, add-one, subst, sym}
use Rattle.std.proofs.lemmas.Result.{IfOk-weaker}
use Rattle.row_keys.specs.Slots.{IsLiveAt, Slot}
use Rattle.upkeep.proofs.SideNumbers.{main_are, sides_live, sides_looked}
use Rattle.upkeep.proofs.reading.side_numbers.Goals as goal

pub look_up-requires-clause-live : goal.look_up-requires-clause-live
look_up-requires-clause-live c =
    let l = c.args.lookup in
    subst (λ (slots : List Slot). All (IsLiveAt slots) c.args.visits.now)
    (sym (main_are c.args.stores.now l c.index-stores-0.result c.index-stores-lookup.result (l.side + 1)
    c.requires.lookup c.requires.main c.index-stores-0.is (add-one l.side) c.index-stores-lookup.is))
    c.requires.live

pub returns-clause-rows : goal.returns-clause-rows
returns-clause-rows c =
    let l = c.args.lookup in
    IfOk-weaker c.look_up.result _ _
    (λ numbers found. sides_looked c.args.stores.now l c.index-stores-0.result c.index-stores-lookup.result (l.side + 1)
    c.requires.lookup c.requires.main c.index-stores-0.is (add-one l.side) c.index-stores-lookup.is c.args.visits.now
    numbers.items found)
    c.look_up.ensures.rows

pub returns-clause-live : goal.returns-clause-live
returns-clause-live c =
    let l = c.args.lookup in
    IfOk-weaker c.look_up.result _ _
    (λ numbers live. sides_live c.args.stores.now l c.index-stores-0.result c.index-stores-lookup.result (l.side + 1)
    c.requires.lookup c.requires.main c.index-stores-0.is (add-one l.side) c.index-stores-lookup.is numbers.items live)
    c.look_up.ensures.live
