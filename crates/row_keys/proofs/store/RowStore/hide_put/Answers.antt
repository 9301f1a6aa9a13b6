use Rattle.std.proofs.Common.{◌≡◌, List, ap, subst, sym, ◌∙◌}
use Rattle.row_keys.specs.Slots.{
  CanPutBack,
  CanRevert,
  CanShowPut,
  Slot,
  last_numbers,
  live,
  put_back,
  put_hidden,
  put_shown,
  reverted,
}
use Rattle.row_keys.specs.Store.{Store}
use Rattle.row_keys.proofs.HiddenRows.{hidden_can, hidden_live, hidden_shown, hidden_take, hidden_taken, hide_can}
use Rattle.row_keys.proofs.store.RowStore.hide_put.Goals as goal

pub put_back-requires : goal.put_back-requires
put_back-requires c =
    let P : Store → Type 0 = λ s. CanPutBack s.table c.args.replaced.now s.slots in
    subst P (sym c.retract_last.ensures.slots)
    (hide_can c.args.self.now.table c.args.rows c.args.replaced.now c.args.self.now.slots c.requires)

hidden : (c : goal.After-put_back)
    → c.put_back.new.self.slots ≡ put_hidden c.args.rows c.args.replaced.now c.args.self.now.slots
hidden c =
    ap (λ (s : Store). s.slots) c.put_back.ensures.slots
    ∙ ap (λ (s : Store). put_back c.args.replaced.now s.slots) c.retract_last.ensures.slots

pub returns-clause-live : goal.returns-clause-live
returns-clause-live c =
    ap live (hidden c)
    ∙ hidden_live c.args.self.now.table c.args.rows c.args.replaced.now c.args.self.now.slots c.requires

pub returns-clause-can_show : goal.returns-clause-can_show
returns-clause-can_show c =
    let P : List Slot → Type 0 = λ ss. CanShowPut c.args.self.now.table c.args.rows c.args.replaced.now ss in
    let Q : Store → Type 0 =
    λ s. CanPutBack c.args.self.now.table (last_numbers c.args.rows c.args.self.now.slots) s.slots in
    subst P (sym (hidden c))
    (hidden_can c.args.self.now.table c.args.rows c.args.replaced.now c.args.self.now.slots c.requires
    (subst Q c.retract_last.ensures.slots c.retract_last.ensures.can_go_back))

pub returns-clause-shown : goal.returns-clause-shown
returns-clause-shown c =
    ap (λ ss. put_shown c.args.rows c.args.replaced.now ss) (hidden c)
    ∙ hidden_shown c.args.self.now.table c.args.rows c.args.replaced.now c.args.self.now.slots c.requires

pub returns-clause-can_take : goal.returns-clause-can_take
returns-clause-can_take c =
    let P : List Slot → Type 0 = λ ss. CanRevert c.args.rows ss in
    subst P (sym (hidden c))
    (hidden_take c.args.self.now.table c.args.rows c.args.replaced.now c.args.self.now.slots c.requires)

pub returns-clause-taken : goal.returns-clause-taken
returns-clause-taken c =
    ap (λ ss. reverted c.args.rows ss) (hidden c)
    ∙ hidden_taken c.args.self.now.table c.args.rows c.args.replaced.now c.args.self.now.slots c.requires
