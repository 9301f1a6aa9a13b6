use Rattle.std.proofs.Common.{◌<◌, ap, get_or, length, subst, sym, ◌∙◌}
use Rattle.row_keys.specs.Slots.{no_slot}
use Rattle.row_keys.specs.Store.{Store}
use Rattle.row_keys.proofs.StoreStates.{live_joined, number_within}
use Rattle.row_keys.proofs.store.RowStore.is_live.Goals as goal

pub is_live-requires : goal.is_live-requires
is_live-requires c =
    let P : Store → Type 0 = λ s. c.args.number < length s.slots in
    (number_within c.self.inside.table c.self.inside.rows c.self.inside.numbers
    c.args.number c.self.invariant (subst P (sym c.self.view_is) c.requires)).1

pub returns : goal.returns
returns c =
    let P : Store → Type 0 = λ s. c.args.number < length s.slots in
    c.is_live.ensures
    ∙ sym (live_joined c.self.inside.rows c.self.inside.numbers
    c.args.number
    (subst P (sym c.self.view_is) c.requires))
    ∙ ap (λ (s : Store). (get_or s.slots c.args.number no_slot).live) c.self.view_is
