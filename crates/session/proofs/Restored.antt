-- Changes of a table of which a row is released that they don't bring back.
use Rattle.std.proofs.Common.{◌≡◌, ℕ, ◌-◌, List, ap, sym, subst, ◌∙◌}
use Rattle.std.specs.List.{range_with_len}
use Rattle.view_lang.specs.Config.{Table}
use Rattle.row_keys.specs.Slots.{
  AllOut,
  CanPutBack,
  CanRetract,
  IsOut,
  Slot,
  emptied,
  last_numbers,
  put_back,
  reverted,
}
use Rattle.row_keys.proofs.Emptied.{
  IsOff,
  Spares,
  all_out,
  all_untaken,
  can_put_emptied,
  can_retract_emptied,
  can_take_emptied,
  length_emptied,
  off_put_back,
  off_reverted,
  out_before,
  out_unreverted,
  put_back_emptied,
  taken_emptied,
}
use Rattle.row_keys.specs.TableChanges.{CanGoBack, back, restores}
use Rattle.row_keys.specs.declared.table_change.TableChange.{TableChange}
use Rattle.row_keys.specs.declared.table_change.TableChange.TheVariants.{Appended, Put, Retracted}

-- A change that doesn't bring the row back can be reverted where the row is released,
pub can_go_emptied : (t : Table) (c : TableChange) (slots : List Slot) (n : ℕ) → Spares n (restores c) → IsOff slots n
    → CanGoBack t c slots → CanGoBack t c (emptied slots n)
can_go_emptied t (Appended k) slots n spares off can = can_take_emptied k slots n can
can_go_emptied t (Retracted ns) slots n spares off can = can_put_emptied t ns.items slots n spares off can
can_go_emptied t (Put k replaced) slots n spares off can =
    let P : List Slot → Type 0 = λ xs. CanPutBack t replaced.items xs in
    let Q : ℕ → Type 0 = λ l. CanRetract (range_with_len (l - k) k) (emptied slots n) in (
      can_take_emptied k slots n can.0,
      subst P (sym (taken_emptied k slots n))
          (can_put_emptied t replaced.items (reverted k slots) n spares (off_reverted k slots n off) can.1),
      subst Q (sym (length_emptied slots n)) (can_retract_emptied (last_numbers k slots) slots n off can.2),
    )

-- which leads to the same rows but for it,
pub back_emptied : (c : TableChange) (slots : List Slot) (n : ℕ) → Spares n (restores c)
    → back c (emptied slots n) ≡ emptied (back c slots) n
back_emptied (Appended k) slots n spares = taken_emptied k slots n
back_emptied (Retracted ns) slots n spares = put_back_emptied ns.items slots n spares
back_emptied (Put k replaced) slots n spares =
    ap (λ xs. put_back replaced.items xs) (taken_emptied k slots n)
    ∙ put_back_emptied replaced.items (reverted k slots) n spares

-- and it still isn't live.
pub off_back : (c : TableChange) (slots : List Slot) (n : ℕ) → Spares n (restores c) → IsOff slots n
    → IsOff (back c slots) n
off_back (Appended k) slots n spares off = off_reverted k slots n off
off_back (Retracted ns) slots n spares off = off_put_back ns.items slots n spares off
off_back (Put k replaced) slots n spares off =
    off_put_back replaced.items (reverted k slots) n spares (off_reverted k slots n off)

-- The rows that it can bring back aren't live.
pub restored_out : (t : Table) (c : TableChange) (slots : List Slot) → CanGoBack t c slots → AllOut (restores c) slots
unfolding CanPutBack
restored_out t (Appended k) slots can = tt
restored_out t (Retracted ns) slots can = all_out t ns.items slots can.0
restored_out t (Put k replaced) slots can =
    all_untaken k replaced.items slots (all_out t replaced.items (reverted k slots) can.1.0)

-- What isn't live once it is reverted it doesn't bring back, and that wasn't live before.
pub out_changed : (t : Table) (c : TableChange) (slots : List Slot) (n : ℕ) → CanGoBack t c slots
    → IsOut (back c slots) n → IsOut slots n × Spares n (restores c)
unfolding CanPutBack
out_changed t (Appended k) slots n can out = (out_unreverted k slots n out, tt)
out_changed t (Retracted ns) slots n can out = out_before t ns.items slots n can.0 out
out_changed t (Put k replaced) slots n can out =
    let before : IsOut (reverted k slots) n × Spares n replaced.items =
    out_before t replaced.items (reverted k slots) n can.1.0 out in
    (out_unreverted k slots n before.0, before.1)
