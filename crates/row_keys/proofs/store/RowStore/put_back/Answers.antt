use Rattle.std.proofs.Common.{List, ap, subst, sym, ◌∙◌}
use Rattle.row_keys.specs.Numbers.{Numbered}
use Rattle.row_keys.specs.Slots.{CanPutBack, put_back}
use Rattle.row_keys.specs.Store.{Store, with_slots}
use Rattle.row_keys.specs.Stored.{IsStored, joined}
use Rattle.row_keys.proofs.StoreStates.{revive_can, revived_back, revived_can, stored_revived}
use Rattle.row_keys.proofs.TurnedRows.{joined_revived}
use Rattle.row_keys.proofs.store.RowStore.put_back.Goals as goal

pub revive_all-requires : goal.revive_all-requires
revive_all-requires c =
    let P : Store → Type 0 = λ s. CanPutBack s.table c.args.numbers.now s.slots in
    revive_can c.self.inside.table c.self.inside.rows c.self.inside.numbers
    c.args.numbers.now c.self.invariant (subst P (sym c.self.view_is) c.requires)

pub invariant_of-self : goal.invariant_of-self
invariant_of-self c =
    let P : Store → Type 0 = λ s. CanPutBack s.table c.args.numbers.now s.slots in
    let Q : List Numbered → Type 0 =
    λ xs. IsStored c.self.inside.table c.self.inside.rows xs in
    subst Q (sym c.revive_all.ensures)
    (stored_revived c.self.inside.table c.self.inside.rows c.self.inside.numbers
    c.args.numbers.now c.self.invariant (subst P (sym c.self.view_is) c.requires))

pub returns-clause-slots : goal.returns-clause-slots
returns-clause-slots c =
    ap (λ xs. record {
      table = c.self.inside.table;
      slots = joined c.self.inside.rows xs;
      visits =
          c.self.inside.visits;
    })
    c.revive_all.ensures
    ∙ ap (λ ss. record { table = c.self.inside.table; slots = ss; visits = c.self.inside.visits })
    (joined_revived c.self.inside.rows c.args.numbers.now
    c.self.inside.numbers)
    ∙ ap (λ (s : Store). with_slots s (put_back c.args.numbers.now s.slots)) c.self.view_is

pub returns-clause-can_go_back : goal.returns-clause-can_go_back
returns-clause-can_go_back c =
    let P : Store → Type 0 = λ s. CanPutBack s.table c.args.numbers.now s.slots in
    revived_can c.self.inside.table c.self.inside.rows c.self.inside.numbers
    c.revive_all.new.rows c.args.numbers.now (subst P (sym c.self.view_is) c.requires) c.revive_all.ensures

pub returns-clause-back : goal.returns-clause-back
returns-clause-back c =
    let P : Store → Type 0 = λ s. CanPutBack s.table c.args.numbers.now s.slots in
    revived_back c.self.inside.table c.self.inside.rows c.self.inside.numbers
    c.revive_all.new.rows c.args.numbers.now (subst P (sym c.self.view_is) c.requires) c.revive_all.ensures
    ∙ ap (λ (s : Store). s.slots) c.self.view_is
