use Rattle.std.proofs.Common.{◌≡◌, List, ap, arith, subst, sym, ◌∙◌}
use Rattle.row_keys.specs.Numbers.{Numbered, turned_off}
use Rattle.row_keys.specs.Slots.{CanPutBack, CanRetract, CanRevert, Slot, last_numbers, put_back, retracted}
use Rattle.row_keys.specs.Store.{Store, with_slots}
use Rattle.row_keys.specs.Stored.{IsStored, joined}
use Rattle.row_keys.proofs.LastRows.{from_last, live_last}
use Rattle.row_keys.proofs.StoreStates.{can_take, off_back, off_can, stored_off}
use Rattle.row_keys.proofs.TurnedRows.{are_live, joined_off}
use Rattle.row_keys.proofs.store.RowStore.retract_last.Goals as goal

pub overflow_sub-first : goal.overflow_sub-first
overflow_sub-first c =
    let P : Store → Type 0 = λ s. CanRevert c.args.count s.slots in
    let below =
    can_take c.self.inside.table c.self.inside.rows c.self.inside.numbers
    c.args.count c.self.invariant (subst P (sym c.self.view_is) c.requires.few) in
    omega (arith, below, c.len.ensures.value)

pub retract_from-requires : goal.retract_from-requires
retract_from-requires c =
    let P : Store → Type 0 = λ s. CanRevert c.args.count s.slots in
    let Q : Store → Type 0 = λ s. CanRetract (last_numbers c.args.count s.slots) s.slots in
    live_last c.self.inside.table c.self.inside.rows c.self.inside.numbers
    c.args.count c.len.result c.self.invariant (subst P (sym c.self.view_is) c.requires.few) c.len.ensures.value
    (subst Q (sym c.self.view_is) c.requires.live)

abbrev slots : goal.After-retract_from → List Slot
slots c = joined c.self.inside.rows c.self.inside.numbers

can : (c : goal.After-retract_from) → CanRetract (last_numbers c.args.count (slots c)) (slots c)
can c =
    let Q : Store → Type 0 = λ s. CanRetract (last_numbers c.args.count s.slots) s.slots in
    subst Q (sym c.self.view_is) c.requires.live

off : (c : goal.After-retract_from)
    → c.retract_from.new.rows ≡ turned_off (last_numbers c.args.count (slots c)) c.self.inside.numbers
off c =
    let P : Store → Type 0 = λ s. CanRevert c.args.count s.slots in
    c.retract_from.ensures
    ∙ ap (λ ms. turned_off ms c.self.inside.numbers)
    (from_last c.self.inside.table c.self.inside.rows c.self.inside.numbers
    c.args.count c.len.result c.self.invariant (subst P (sym c.self.view_is) c.requires.few) c.len.ensures.value)

pub invariant_of-self : goal.invariant_of-self
invariant_of-self c =
    let Q : List Numbered → Type 0 =
    λ xs. IsStored c.self.inside.table c.self.inside.rows xs in
    subst Q (sym (off c))
    (stored_off c.self.inside.table c.self.inside.rows c.self.inside.numbers
    (last_numbers c.args.count (slots c)) c.self.invariant
    (are_live c.self.inside.table c.self.inside.rows
    (last_numbers c.args.count (slots c)) c.self.inside.numbers c.self.invariant.keyed (can c)))

pub returns-clause-slots : goal.returns-clause-slots
returns-clause-slots c =
    ap (λ xs. record {
      table = c.self.inside.table;
      slots = joined c.self.inside.rows xs;
      visits =
          c.self.inside.visits;
    })
    (off c)
    ∙ ap (λ ss. record { table = c.self.inside.table; slots = ss; visits = c.self.inside.visits })
    (joined_off c.self.inside.rows
    (last_numbers c.args.count (slots c))
    c.self.inside.numbers)
    ∙ ap (λ (s : Store). with_slots s (retracted (last_numbers c.args.count s.slots) s.slots)) c.self.view_is

pub returns-clause-can_go_back : goal.returns-clause-can_go_back
returns-clause-can_go_back c =
    let Q : Store → Type 0 = λ s.
    CanPutBack s.table (last_numbers c.args.count s.slots)
    (joined c.self.inside.rows c.retract_from.new.rows) in
    subst Q c.self.view_is
    (off_can c.self.inside.table c.self.inside.rows c.self.inside.numbers
    c.retract_from.new.rows (last_numbers c.args.count (slots c)) c.self.invariant c.distinct_law.ensures (can c)
    (off c))

pub returns-clause-back : goal.returns-clause-back
returns-clause-back c =
    let Q : Store → Type 0 = λ s.
    put_back (last_numbers c.args.count s.slots)
    (joined c.self.inside.rows c.retract_from.new.rows) ≡ s.slots in
    subst Q c.self.view_is
    (off_back c.self.inside.rows c.self.inside.numbers c.retract_from.new.rows
    (last_numbers c.args.count (slots c)) (can c) (off c))
