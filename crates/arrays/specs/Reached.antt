-- Which slots a cell reaches: itself, and where it is valid, of a list the items between its offsets, and of a struct
-- the children's slots with the same index. A slot under a null is not reached (Arrow Columnar Format, "Struct Layout",
-- "Variable-size List Layout").
use Rattle.std.specs.Prelude.{
  ◌≡◌,
  ◌⊎◌,
  ℕ,
  pos,
  ◌+◌,
  ◌^◌,
  ◌<◌,
  ◌≤◌,
  ◌<ℤ◌,
  ◌≤ℤ◌,
  true,
  false,
  List,
  Option,
  None,
  Some,
  length,
  nat_abs,
}
use Rattle.std.specs.Str.{is_utf8}
use Rattle.values.specs.Rose.{Rose, node, Roses, none, more}
use Rattle.values.specs.Reading.{FailsWith}
use Rattle.values.specs.declared.faults.StreamFault.{StreamFault}
use Rattle.values.specs.declared.faults.StreamFault.TheVariants as fault
use Rattle.values.specs.declared.layout.Layout.{Layout}
use Rattle.values.specs.declared.layout.Layout.TheVariants.{Int, Decimal, Utf8, List as Listed, Struct}
use Rattle.values.specs.Layouts.{bytes_in}
use Rattle.values.specs.Datum.{Datum}
use Rattle.array_layout.specs.declared.array.DictionaryValues.{DictionaryValues}
use Rattle.array_layout.specs.declared.array.ArrayData.{ArrayData}
use Rattle.array_layout.specs.Placing.{bytes_of}
use Rattle.array_layout.specs.Buffers.{is_null, number_at, offset_at, slice_at}
use Rattle.array_layout.specs.Cells.{cell}

abbrev pub IsValid : List ℕ → ArrayData → ℕ → Type 0
IsValid body p i = is_null (bytes_of body p.validity) i ≡ false

-- `item` of a list's items, `child` of a struct's children
abbrev pub Below : Layout → List ℕ → (ℕ → Type 0) → Type 0 → ℕ → Type 0
Below (Listed o) offsets item child i =
    (k : ℕ) × (offset_at o offsets i ≤ k) × (k < offset_at o offsets (i + 1)) × item k
Below Struct offsets item child i = child
Below l offsets item child i = ⊥

-- an index reaches no other slot
abbrev pub BelowSlot : Option DictionaryValues → Layout → List ℕ → (ℕ → Type 0) → Type 0 → ℕ → Type 0
BelowSlot None l offsets item child i = Below l offsets item child i
BelowSlot (Some w) l offsets item child i = ⊥

-- slot i of an array reaches slot j of the array u
abbrev mutual
  pub Reaches : List ℕ → Rose ArrayData → ℕ → Rose ArrayData → ℕ → Type 0
  Reaches body (node p kids) i u j =
      ((node p kids ≡ u) × (i ≡ j))
      ⊎ (IsValid body p i
      × BelowSlot p.dictionary p.layout (bytes_of body p.offsets) (λ k. ReachesFirst body kids k u j)
      (ReachesBeside body kids i u j) i)

  -- from a slot of the first child
  pub ReachesFirst : List ℕ → Roses ArrayData → ℕ → Rose ArrayData → ℕ → Type 0
  ReachesFirst body none i u j = ⊥
  ReachesFirst body (more t ts) i u j = Reaches body t i u j

  -- from a slot of one of the children
  pub ReachesBeside : List ℕ → Roses ArrayData → ℕ → Rose ArrayData → ℕ → Type 0
  ReachesBeside body none i u j = ⊥
  ReachesBeside body (more t ts) i u j = Reaches body t i u j ⊎ ReachesBeside body ts i u j

-- a text that isn't UTF-8, or a decimal with more digits than its precision
abbrev pub OwnFault : Layout → List ℕ → ArrayData → ℕ → StreamFault → Type 0
OwnFault (Decimal d) body p i c =
    (10 ^ d ≤ nat_abs (number_at true 16 (bytes_of body p.values) i)) × (fault.DecimalRange ≡ c)
OwnFault (Utf8 o) body p i c =
    (is_utf8 (slice_at o (bytes_of body p.offsets) (bytes_of body p.values) i) ≡ false) × (fault.NotUtf8 ≡ c)
OwnFault l body p i c = ⊥

-- No value has this slot's index: it is negative, or not below the number of values.
abbrev pub HasNoValue : Layout → List Datum → List ℕ → ℕ → Type 0
HasNoValue (Int w s) values indices i =
    (number_at s (bytes_in w) indices i <ℤ pos 0) ⊎ (pos (length values) ≤ℤ number_at s (bytes_in w) indices i)
HasNoValue l values indices i = Unit {0}

abbrev pub SlotFault : Option DictionaryValues → List ℕ → ArrayData → ℕ → StreamFault → Type 0
SlotFault None body p i c = OwnFault p.layout body p i c
SlotFault (Some w) body p i c = HasNoValue p.layout w.values (bytes_of body p.values) i × (fault.DictionaryIndex ≡ c)

abbrev pub HasFault : List ℕ → Rose ArrayData → ℕ → StreamFault → Type 0
HasFault body (node p kids) i c = IsValid body p i × SlotFault p.dictionary body p i c

-- a slot with this fault is reached
abbrev pub Found : List ℕ → Rose ArrayData → ℕ → StreamFault → Type 0
Found body t i c = (u : Rose ArrayData) × (j : ℕ) × Reaches body t i u j × HasFault body u j c

-- a cell has a fault exactly where a slot that it reaches has it
abbrev pub FaultsAreReached : Type 0
FaultsAreReached = (body : List ℕ) (t : Rose ArrayData) (i : ℕ) (c : StreamFault) → FailsWith (cell body t i) c
    → Found body t i c

abbrev pub ReachedFaultsAreFound : Type 0
ReachedFaultsAreFound = (body : List ℕ) (t : Rose ArrayData) (i : ℕ) (c : StreamFault) → Found body t i c
    → FailsWith (cell body t i) c
