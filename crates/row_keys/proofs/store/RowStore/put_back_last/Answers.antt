use Rattle.std.proofs.Common.{◌≡◌, List, ap, arith, subst, sym, ◌∙◌}
use Rattle.row_keys.specs.Numbers.{Numbered, revived}
use Rattle.row_keys.specs.Slots.{CanPutBack, CanRevert, Slot, last_numbers, put_back}
use Rattle.row_keys.specs.Store.{Store, with_slots}
use Rattle.row_keys.specs.Stored.{IsStored, joined}
use Rattle.row_keys.proofs.LastRows.{from_last, revive_last}
use Rattle.row_keys.proofs.StoreStates.{can_take, stored_revived}
use Rattle.row_keys.proofs.TurnedRows.{joined_revived}
use Rattle.row_keys.proofs.store.RowStore.put_back_last.Goals as goal

pub overflow_sub-first : goal.overflow_sub-first
overflow_sub-first c =
    let P : Store → Type 0 = λ s. CanRevert c.args.count s.slots in
    let below =
    can_take c.self.inside.table c.self.inside.rows c.self.inside.numbers
    c.args.count c.self.invariant (subst P (sym c.self.view_is) c.requires.few) in
    omega (arith, below, c.len.ensures.value)

pub revive_from-requires-clause-retracted : goal.revive_from-requires-clause-retracted
revive_from-requires-clause-retracted c =
    let P : Store → Type 0 = λ s. CanRevert c.args.count s.slots in
    let Q : Store → Type 0 = λ s. CanPutBack s.table (last_numbers c.args.count s.slots) s.slots in
    revive_last c.self.inside.table c.self.inside.rows c.self.inside.numbers
    c.args.count c.len.result c.self.invariant (subst P (sym c.self.view_is) c.requires.few) c.len.ensures.value
    (subst Q (sym c.self.view_is) c.requires.retracted)

abbrev slots : goal.After-revive_from → List Slot
slots c = joined c.self.inside.rows c.self.inside.numbers

on : (c : goal.After-revive_from)
    → c.revive_from.new.rows ≡ revived (last_numbers c.args.count (slots c)) c.self.inside.numbers
on c =
    let P : Store → Type 0 = λ s. CanRevert c.args.count s.slots in
    c.revive_from.ensures
    ∙ ap (λ ms. revived ms c.self.inside.numbers)
    (from_last c.self.inside.table c.self.inside.rows c.self.inside.numbers
    c.args.count c.len.result c.self.invariant (subst P (sym c.self.view_is) c.requires.few) c.len.ensures.value)

pub invariant_of-self : goal.invariant_of-self
invariant_of-self c =
    let P : Store → Type 0 = λ s. CanPutBack s.table (last_numbers c.args.count s.slots) s.slots in
    let Q : List Numbered → Type 0 =
    λ xs. IsStored c.self.inside.table c.self.inside.rows xs in
    subst Q (sym (on c))
    (stored_revived c.self.inside.table c.self.inside.rows c.self.inside.numbers
    (last_numbers c.args.count (slots c)) c.self.invariant (subst P (sym c.self.view_is) c.requires.retracted))

pub returns : goal.returns
returns c =
    ap (λ xs. record {
      table = c.self.inside.table;
      slots = joined c.self.inside.rows xs;
      visits =
          c.self.inside.visits;
    })
    (on c)
    ∙ ap (λ ss. record { table = c.self.inside.table; slots = ss; visits = c.self.inside.visits })
    (joined_revived c.self.inside.rows
    (last_numbers c.args.count (slots c)) c.self.inside.numbers)
    ∙ ap (λ (s : Store). with_slots s (put_back (last_numbers c.args.count s.slots) s.slots)) c.self.view_is
