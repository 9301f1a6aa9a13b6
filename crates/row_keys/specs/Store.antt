-- A store of rows as contracts see it: its table, its rows by number, and how often a stored row was opened.
use Rattle.std.specs.Prelude.{
  ◌≡◌,
  ℕ,
  ◌+◌,
  ◌-◌,
  ◌^◌,
  ◌<◌,
  Bool,
  true,
  false,
  List,
  [],
  Option,
  None,
  Some,
  length,
  min,
  refl,
}
use Rattle.std.specs.Coded.{Coded, code_by, coded×, coded_ℕ, coded_bool, coded_list}
use Rattle.values.specs.Datum.{Datum, datum_code}
use Rattle.values.specs.declared.key.Key.{Key}
use Rattle.values.specs.Keys.{datum_of_key}
use Rattle.view_lang.specs.Config.{Table, table_code}
use Rattle.view_lang.specs.Contents.{is_among, key_in, keys_in}
use Rattle.view_lang.specs.Joined.{side_of}
use Rattle.view_lang.specs.declared.unfit.Unfit.{Unfit}
use Rattle.row_keys.specs.declared.faults.EditFault.{EditFault}
use Rattle.row_keys.specs.declared.faults.EditFault.TheVariants as fault
use Rattle.row_keys.specs.Slots.{HasKey, IsLiveAt, IsThere, Slot, contents_of, live, row_of, slot}

pub record Store : Type 0 where
  pub table : Table
  pub slots : List Slot
  pub visits : ℕ

abbrev pub slot_code : Coded Slot
slot_code =
    code_by (List Datum × Bool) (coded× (coded_list datum_code) coded_bool) (λ s. (s.row, s.live)) (λ p. slot p.0 p.1)
    (λ _. refl)

abbrev pub store_code : Coded Store
store_code =
    code_by (Table × (List Slot × ℕ)) (coded× table_code (coded× (coded_list slot_code) coded_ℕ))
    (λ s. (s.table, (s.slots, s.visits)))
    (λ p. record { table = p.0; slots = p.1.0; visits = p.1.1 }) (λ _. refl)

-- a store without rows, of which none was opened
abbrev pub no_rows : Table → Store
no_rows t = record { table = t; slots = []; visits = 0 }

abbrev pub with_slots : Store → List Slot → Store
with_slots s slots = record { table = s.table; slots = slots; visits = s.visits }

-- n more stored rows were opened; the count stops at its greatest number
abbrev pub visited : ℕ → Store → Store
visited n s = record { table = s.table; slots = s.slots; visits = min (s.visits + n) (2 ^ 128 - 1) }

abbrev pub live_in : Store → List (List Datum)
live_in s = live s.slots

-- the live row with this key has this number
abbrev pub IsFound : Store → Key → ℕ → Type 0
IsFound s key n = IsThere s.slots n true × (key_in s.table (row_of s.slots n) ≡ datum_of_key key)

-- no live row has this key
abbrev pub IsAbsent : Store → Key → Type 0
IsAbsent s key = is_among (datum_of_key key) (keys_in s.table (live_in s)) ≡ false

-- the row that is looked up by this cell is the live one of this number; or there is none
abbrev pub IsKnown : Store → Datum → ℕ → Type 0
IsKnown s cell n =
    (n < length s.slots) × (side_of s.table (contents_of s.slots) cell ≡ Some (row_of s.slots n))
    × HasKey s.table (row_of s.slots n) × IsLiveAt s.slots n

abbrev pub IsUnknown : Store → Datum → Type 0
IsUnknown s cell = side_of s.table (contents_of s.slots) cell ≡ None

-- A refusal is right: that cause is the least, or memory was refused.
abbrev pub Refuses : Option Unfit → EditFault → Type 0
Refuses cause (fault.Unfit u) = cause ≡ Some u
Refuses cause fault.Memory = Unit {0}
