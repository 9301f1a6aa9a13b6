-- Changes of side tables that are hidden for a while, and shown again. Of a put of b', which replaces b, with what is
-- retracted in parentheses:
--
--     before       a    b
--     put          a   (b)   b'     the change is made
--     hidden       a    b   (b')    it is reverted, and the numbers stay
--     shown        a   (b)   b'     it is made again
--     forgotten    a    b           of the hidden ones: the rows that it added are removed
use Rattle.std.specs.Prelude.{◌≡◌, ℕ, ◌++◌, ◌<◌, ◌≤◌, All, List, [], length}
use Rattle.values.specs.Datum.{Datum}
use Rattle.view_lang.specs.Config.{Table}
use Rattle.row_keys.specs.Slots.{
  CanRetract,
  CanShowPut,
  Slot,
  keys_at,
  last_numbers,
  live,
  put_back,
  put_hidden,
  put_shown,
  retracted,
  reverted,
}
use Rattle.row_keys.specs.TableChanges.{CanGoBack, back}
use Rattle.row_keys.specs.declared.table_change.TableChange.{TableChange}
use Rattle.row_keys.specs.declared.table_change.TableChange.TheVariants.{Appended, Put, Retracted}

-- the rows without a change, which keep their numbers
abbrev pub hidden : TableChange → List Slot → List Slot
hidden (Appended n) slots = slots
hidden (Retracted ns) slots = put_back ns.items slots
hidden (Put n replaced) slots = put_hidden n replaced.items slots

-- the rows with the change again
abbrev pub shown : TableChange → List Slot → List Slot
shown (Appended n) slots = slots
shown (Retracted ns) slots = retracted ns.items slots
shown (Put n replaced) slots = put_shown n replaced.items slots

-- the remaining rows when the hidden ones are removed
abbrev pub forgotten : TableChange → List Slot → List Slot
forgotten (Appended n) slots = slots
forgotten (Retracted ns) slots = slots
forgotten (Put n replaced) slots = reverted n slots

abbrev pub CanShow : Table → TableChange → List Slot → Type 0
CanShow t (Appended n) slots = ⊥
CanShow t (Retracted ns) slots = CanRetract ns.items slots
CanShow t (Put n replaced) slots = CanShowPut t n replaced.items slots

-- The change of a side table was reverted, and can be made again.
pub record IsHidden (t : Table) (c : TableChange) (slots : List Slot) : Type 0 where
  pub before : List Slot
  pub can_go_back : CanGoBack t c before
  pub is : slots ≡ hidden c before
  pub can_show : CanShow t c slots
  pub again : shown c slots ≡ before
  pub live_same : live slots ≡ live (back c before)
  pub forgets : forgotten c slots ≡ back c before

-- the numbers of the rows that a change names
abbrev pub named_numbers : TableChange → List Slot → List ℕ
named_numbers (Appended n) slots = []
named_numbers (Retracted ns) slots = ns.items
named_numbers (Put n replaced) slots = last_numbers n slots ++ replaced.items

-- the keys of the rows that a change names
abbrev pub named_keys : Table → TableChange → List Slot → List Datum
named_keys t c slots = keys_at t (named_numbers c slots) slots

-- The rows that a change of a side table names are there.
abbrev pub NamesRows : TableChange → List Slot → Type 0
NamesRows (Appended n) slots = ⊥
NamesRows (Retracted ns) slots = All (λ k. k < length slots) ns.items
NamesRows (Put n replaced) slots = (n ≤ length slots) × All (λ k. k < length slots) replaced.items
