use Rattle.std.proofs.Common.{◌≡◌, List, ap, subst, sym, ◌∙◌}
use Rattle.view_lang.specs.Contents.{applied}
use Rattle.view_lang.specs.Edits.{retract}
use Rattle.row_keys.specs.Numbers.{AreLive, Numbered}
use Rattle.row_keys.specs.Slots.{CanPutBack, CanRetract, contents_of, keys_at, retracted}
use Rattle.row_keys.specs.Store.{Store, with_slots}
use Rattle.row_keys.specs.Stored.{IsStored, joined}
use Rattle.row_keys.proofs.StoreStates.{off_back, off_can, off_world, stored_off}
use Rattle.row_keys.proofs.TurnedRows.{are_live, joined_off}
use Rattle.row_keys.proofs.store.RowStore.retract.Goals as goal

pub retract_all-requires : goal.retract_all-requires
retract_all-requires c =
    let P : Store → Type 0 = λ s. CanRetract c.args.numbers.now s.slots in
    are_live c.self.inside.table c.self.inside.rows c.args.numbers.now
    c.self.inside.numbers
    c.self.invariant.keyed (subst P (sym c.self.view_is) c.requires)

pub invariant_of-self : goal.invariant_of-self
invariant_of-self c =
    let P : Store → Type 0 = λ s. CanRetract c.args.numbers.now s.slots in
    let are : AreLive c.args.numbers.now c.self.inside.numbers =
    are_live c.self.inside.table c.self.inside.rows c.args.numbers.now
    c.self.inside.numbers
    c.self.invariant.keyed (subst P (sym c.self.view_is) c.requires) in
    let Q : List Numbered → Type 0 =
    λ xs. IsStored c.self.inside.table c.self.inside.rows xs in
    subst Q (sym c.retract_all.ensures)
    (stored_off c.self.inside.table c.self.inside.rows c.self.inside.numbers
    c.args.numbers.now c.self.invariant are)

pub returns-clause-slots : goal.returns-clause-slots
returns-clause-slots c =
    ap (λ xs. record {
      table = c.self.inside.table;
      slots = joined c.self.inside.rows xs;
      visits =
          c.self.inside.visits;
    })
    c.retract_all.ensures
    ∙ ap (λ ss. record { table = c.self.inside.table; slots = ss; visits = c.self.inside.visits })
    (joined_off c.self.inside.rows c.args.numbers.now
    c.self.inside.numbers)
    ∙ ap (λ (s : Store). with_slots s (retracted c.args.numbers.now s.slots)) c.self.view_is

pub returns-clause-contents : goal.returns-clause-contents
returns-clause-contents c =
    let P : Store → Type 0 = λ s. CanRetract c.args.numbers.now s.slots in
    let Q : Store → Type 0 = λ s.
    contents_of (joined c.self.inside.rows c.retract_all.new.rows)
    ≡ applied s.table (retract (keys_at s.table c.args.numbers.now s.slots)) (contents_of s.slots) in
    subst Q c.self.view_is
    (off_world c.self.inside.table c.self.inside.rows c.self.inside.numbers
    c.retract_all.new.rows
    c.args.numbers.now c.self.invariant c.distinct_law.ensures (subst P (sym c.self.view_is) c.requires)
    c.retract_all.ensures)

pub returns-clause-can_go_back : goal.returns-clause-can_go_back
returns-clause-can_go_back c =
    let P : Store → Type 0 = λ s. CanRetract c.args.numbers.now s.slots in
    let Q : Store → Type 0 = λ s.
    CanPutBack s.table c.args.numbers.now
    (joined c.self.inside.rows c.retract_all.new.rows) in
    subst Q c.self.view_is
    (off_can c.self.inside.table c.self.inside.rows c.self.inside.numbers
    c.retract_all.new.rows
    c.args.numbers.now c.self.invariant c.distinct_law.ensures (subst P (sym c.self.view_is) c.requires)
    c.retract_all.ensures)

pub returns-clause-back : goal.returns-clause-back
returns-clause-back c =
    let P : Store → Type 0 = λ s. CanRetract c.args.numbers.now s.slots in
    off_back c.self.inside.rows c.self.inside.numbers c.retract_all.new.rows
    c.args.numbers.now
    (subst P (sym c.self.view_is) c.requires) c.retract_all.ensures
    ∙ ap (λ (s : Store). s.slots) c.self.view_is
