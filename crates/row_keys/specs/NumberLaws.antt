-- What each change of a store does to its live rows by their numbers.
use Rattle.std.specs.Prelude.{◌≡◌, ℕ, ◌-◌, ◌≤◌, All, List, [], ◌++◌, Some, length, map}
use Rattle.std.specs.List.{range_with_len}
use Rattle.std.specs.List.Sorted.{IsStrictlySortedBy}
use Rattle.std.specs.Map.{keys_of, values_of}
use Rattle.std.specs.Ordering.{nat_cmp}
use Rattle.values.specs.Datum.{Datum}
use Rattle.view_lang.specs.Config.{Table}
use Rattle.view_lang.specs.Shifts.{Fits, NumberedRows, Shift, patched, row_at}
use Rattle.row_keys.specs.Numbered.{come, gone, live_at, numbered}
use Rattle.row_keys.specs.Slots.{
  AllOut,
  CanPutBack,
  CanRetract,
  CanRevert,
  CanShowPut,
  CanUndoPut,
  Slot,
  contents_of,
  last_numbers,
  live,
  new_slot,
  put_back,
  put_hidden,
  put_shown,
  put_undone,
  released,
  retracted,
  reverted,
  row_of,
}

-- A change fits these rows, and leads to those.
pub record Leads (old : NumberedRows) (change : List Shift) (new : NumberedRows) : Type 0 where
  pub fits : Fits old change
  pub patched_is : patched old change ≡ new

-- One change after another is a change.
abbrev pub ChangesAdd : Type 0
ChangesAdd =
    (old mid new : NumberedRows) (change next : List Shift) → Leads old change mid → Leads mid next new
    → Leads old (change ++ next) new

-- Numbers ascend,
abbrev pub NumbersAscend : Type 0
NumbersAscend = (slots : List Slot) → IsStrictlySortedBy nat_cmp (keys_of (numbered slots))

-- the rows of the numbers are the live ones, in order,
abbrev pub RowsAreLive : Type 0
RowsAreLive = (slots : List Slot) → values_of (numbered slots) ≡ live slots

-- and each has its own number.
abbrev pub RowsAreAtNumbers : Type 0
RowsAreAtNumbers = (slots : List Slot) (n : ℕ) → row_at n (numbered slots) ≡ live_at slots n

-- Rows that can be retracted are live.
abbrev pub RetractedWereLive : Type 0
RetractedWereLive =
    (ns : List ℕ) (slots : List Slot) → CanRetract ns slots → All (λ n. live_at slots n ≡ Some (row_of slots n)) ns

-- Retracting rows deletes them.
abbrev pub RetractedGo : Type 0
RetractedGo =
    (ns : List ℕ) (slots : List Slot) → CanRetract ns slots
    → Leads (numbered slots) (gone slots ns) (numbered (retracted ns slots))

-- Live rows can be retracted, each once,
abbrev pub LiveCanGo : Type 0
LiveCanGo =
    (ns : List ℕ) (slots : List Slot) → IsStrictlySortedBy nat_cmp ns
    → All (λ n. live_at slots n ≡ Some (row_of slots n)) ns → CanRetract ns slots

-- and then be inserted again where they were.
abbrev pub RetractedComeBack : Type 0
RetractedComeBack =
    (ns : List ℕ) (slots : List Slot) → CanRetract ns slots
    → Leads (numbered (retracted ns slots)) (come slots ns) (numbered slots)

-- Restoring retracted rows inserts them.
abbrev pub PutBackCome : Type 0
PutBackCome =
    (t : Table) (ns : List ℕ) (slots : List Slot) → CanPutBack t ns slots
    → Leads (numbered slots) (come slots ns) (numbered (put_back ns slots))

abbrev pub with_new : List Slot → List (List Datum) → List Slot
with_new slots rows = slots ++ map new_slot rows

-- Appending rows inserts them, with the numbers after all others.
abbrev pub NewCome : Type 0
NewCome =
    (slots : List Slot) (rows : List (List Datum))
    → Leads (numbered slots) (come (with_new slots rows) (range_with_len (length slots) (length rows)))
    (numbered (with_new slots rows))

-- Reverting an append deletes rows: those with the last numbers.
abbrev pub RevertedGo : Type 0
RevertedGo =
    (n : ℕ) (slots : List Slot) → CanRevert n slots
    → Leads (numbered slots) (gone slots (range_with_len (length slots - n) n)) (numbered (reverted n slots))

-- Rows that can be retracted are no more than the live ones,
abbrev pub FewRetracted : Type 0
FewRetracted = (ns : List ℕ) (slots : List Slot) → CanRetract ns slots → length ns ≤ length (live slots)

-- and rows that are restored no more than those that are live then.
abbrev pub FewPutBack : Type 0
FewPutBack =
    (t : Table) (ns : List ℕ) (slots : List Slot) → CanPutBack t ns slots
    → length ns ≤ length (live (put_back ns slots))

-- Hiding a put deletes its rows, and inserts those that they replaced.
abbrev pub HiddenPutGoes : Type 0
HiddenPutGoes =
    (t : Table) (ns : List ℕ) (n : ℕ) (slots : List Slot) → CanUndoPut t n ns slots
    → Leads (numbered slots) (gone slots (last_numbers n slots) ++ come slots ns) (numbered (put_hidden n ns slots))

-- Then the same rows are live as where it is undone.
abbrev pub HiddenIsUndone : Type 0
HiddenIsUndone =
    (t : Table) (ns : List ℕ) (n : ℕ) (slots : List Slot) → CanUndoPut t n ns slots
    → live (put_hidden n ns slots) ≡ live (put_undone n ns slots)

-- Showing it again deletes those, and inserts its rows.
abbrev pub ShownPutComes : Type 0
ShownPutComes =
    (t : Table) (ns : List ℕ) (n : ℕ) (slots : List Slot) → CanShowPut t n ns slots
    → Leads (numbered slots) (gone slots ns ++ come slots (last_numbers n slots)) (numbered (put_shown n ns slots))

-- All live rows are inserted where there were none.
abbrev pub AllCome : Type 0
AllCome = (slots : List Slot) → Leads [] (come slots (keys_of (numbered slots))) (numbered slots)

-- Releasing rows that aren't live changes nothing that is seen: the table is what it was, and so are the live rows by
-- their numbers.
abbrev pub ReleasedUnseen : Type 0
ReleasedUnseen =
    (ns : List ℕ) (slots : List Slot) → AllOut ns slots
    → (contents_of (released ns slots) ≡ contents_of slots) × (numbered (released ns slots) ≡ numbered slots)
