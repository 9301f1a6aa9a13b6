use Rattle.std.proofs.Common.{◌-◌, ap, arith, subst, sym, take, ◌∙◌}
use Rattle.row_keys.specs.Slots.{CanRevert, reverted}
use Rattle.row_keys.specs.Store.{Store, with_slots}
use Rattle.row_keys.specs.Stored.{joined}
use Rattle.row_keys.proofs.StoreStates.{can_take, stored_taken, taken_slots}
use Rattle.row_keys.proofs.store.RowStore.revert.Goals as goal

pub overflow_sub-left : goal.overflow_sub-left
overflow_sub-left c =
    let P : Store → Type 0 = λ s. CanRevert c.args.count s.slots in
    let below =
    can_take c.self.inside.table c.self.inside.rows c.self.inside.numbers c.args.count c.self.invariant
    (subst P (sym c.self.view_is) c.requires) in
    omega (arith, below, c.len.ensures.value)

pub invariant_of-self : goal.invariant_of-self
invariant_of-self c =
    rw (c.truncate.ensures, c.truncate-2.ensures)
    (stored_taken c.self.inside.table c.self.inside.rows c.self.inside.numbers (c.len.result - c.args.count)
    c.self.invariant)

pub returns : goal.returns
returns c =
    ap (λ rows. record {
      table = c.self.inside.table;
      slots = joined rows c.truncate-2.new.self;
      visits = c.self.inside.visits;
    })
    c.truncate.ensures
    ∙ ap (λ xs. record {
      table = c.self.inside.table;
      slots = joined (take (c.len.result - c.args.count) c.self.inside.rows) xs;
      visits = c.self.inside.visits;
    })
    c.truncate-2.ensures
    ∙ ap (λ n. record {
      table = c.self.inside.table;
      slots = joined (take (n - c.args.count) c.self.inside.rows) (take (n - c.args.count) c.self.inside.numbers);
      visits = c.self.inside.visits;
    })
    c.len.ensures.value
    ∙ ap (λ ss. record { table = c.self.inside.table; slots = ss; visits = c.self.inside.visits })
    (taken_slots c.self.inside.table c.self.inside.rows c.self.inside.numbers c.args.count c.self.invariant)
    ∙ ap (λ (s : Store). with_slots s (reverted c.args.count s.slots)) c.self.view_is
