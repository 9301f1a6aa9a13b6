-- What the slots of a layout hold, and what they weigh.
use Rattle.std.specs.Prelude.{
  ◌≡◌,
  ℕ,
  ℤ,
  pos,
  ◌+◌,
  ◌*◌,
  ◌-◌,
  ◌^◌,
  ◌<◌,
  ◌≤◌,
  ◌≤ℤ◌,
  ◌<ℤ◌,
  neg_ℤ,
  nat_abs,
  Bool,
  true,
  false,
  length,
}
use Rattle.std.specs.Str.{is_utf8}
use Rattle.values.specs.Limits.{max_precision}
use Rattle.values.specs.Datum.{Datum, null, truth, whole, text, bytes, list, structure, Items, no_items, item}
use Rattle.values.specs.Rose.{Rose, node, Roses, none, more}
use Rattle.values.specs.declared.layout.IntWidth.{IntWidth}
use Rattle.values.specs.declared.layout.IntWidth.TheVariants as int
use Rattle.values.specs.declared.layout.OffsetWidth.{OffsetWidth}
use Rattle.values.specs.declared.layout.OffsetWidth.TheVariants as offset
use Rattle.values.specs.declared.layout.Layout.{Layout}
use Rattle.values.specs.declared.layout.Layout.TheVariants.{
  Bool as Booleans,
  Int,
  Decimal,
  FixedSizeBinary,
  Utf8,
  Binary,
  List as Listed,
  Struct,
}

-- widths in bytes
abbrev pub bytes_in : IntWidth → ℕ
bytes_in int.Bits8 = 1
bytes_in int.Bits16 = 2
bytes_in int.Bits32 = 4
bytes_in int.Bits64 = 8

-- Whole numbers of a width, with a sign or without: the least and the greatest.
abbrev pub least_of : IntWidth → Bool → ℤ
least_of w true = neg_ℤ (pos (2 ^ (8 * bytes_in w - 1)))
least_of w false = pos 0

abbrev pub greatest_of : IntWidth → Bool → ℤ
greatest_of w true = pos (2 ^ (8 * bytes_in w - 1) - 1)
greatest_of w false = pos (2 ^ (8 * bytes_in w) - 1)

abbrev pub offset_bytes : OffsetWidth → ℕ
offset_bytes offset.Bits32 = 4
offset_bytes offset.Bits64 = 8

-- an upper bound of offsets of 32 bits
abbrev pub offset_bound : ℕ
offset_bound = 2 ^ 31

-- A list has one child, a struct any number, and nothing else has children. A decimal has at most 38 digits.
abbrev pub IsNode : Layout → Roses Layout → Type 0
IsNode Booleans none = Unit {0}
IsNode (Int w s) none = Unit {0}
IsNode (Decimal p) none = p ≤ max_precision
IsNode (FixedSizeBinary w) none = Unit {0}
IsNode (Utf8 o) none = Unit {0}
IsNode (Binary o) none = Unit {0}
IsNode (Listed o) (more t none) = Unit {0}
IsNode Struct ts = Unit {0}
IsNode _ _ = ⊥

abbrev mutual
  pub IsLayout : Rose Layout → Type 0
  IsLayout (node l kids) = IsNode l kids × AreLayouts kids

  pub AreLayouts : Roses Layout → Type 0
  AreLayouts none = Unit {0}
  AreLayouts (more t ts) = IsLayout t × AreLayouts ts

-- a number that fits into n bytes, with a sign or without
abbrev pub FitsIn : Bool → ℕ → ℤ → Type 0
FitsIn true n z = (neg_ℤ (pos (2 ^ (8 * n - 1))) ≤ℤ z) × (z <ℤ pos (2 ^ (8 * n - 1)))
FitsIn false n z = (pos 0 ≤ℤ z) × (z <ℤ pos (2 ^ (8 * n)))

-- Which values a slot of a layout without children holds. Each may be null.

abbrev pub IsTruth : Datum → Type 0
IsTruth null = Unit {0}
IsTruth (truth b) = Unit {0}
IsTruth _ = ⊥

abbrev pub IsNumber : Bool → ℕ → Datum → Type 0
IsNumber signed n null = Unit {0}
IsNumber signed n (whole z) = FitsIn signed n z
IsNumber signed n _ = ⊥

-- strictly between -10^p and 10^p
abbrev pub IsDecimal : ℕ → Datum → Type 0
IsDecimal p null = Unit {0}
IsDecimal p (whole z) = nat_abs z < 10 ^ p
IsDecimal p _ = ⊥

abbrev pub IsFixed : ℕ → Datum → Type 0
IsFixed w null = Unit {0}
IsFixed w (bytes b) = length b ≡ w
IsFixed w _ = ⊥

abbrev pub IsText : Datum → Type 0
IsText null = Unit {0}
IsText (text b) = is_utf8 b ≡ true
IsText _ = ⊥

abbrev pub IsBytes : Datum → Type 0
IsBytes null = Unit {0}
IsBytes (bytes b) = Unit {0}
IsBytes _ = ⊥

-- Which values a slot of a layout holds. The items of a list are held by the child, the children of a struct each by
-- its own.
abbrev mutual
  pub Holds : Rose Layout → Datum → Type 0
  Holds (node Booleans kids) d = IsTruth d
  Holds (node (Int w s) kids) d = IsNumber s (bytes_in w) d
  Holds (node (Decimal p) kids) d = IsDecimal p d
  Holds (node (FixedSizeBinary w) kids) d = IsFixed w d
  Holds (node (Utf8 o) kids) d = IsText d
  Holds (node (Binary o) kids) d = IsBytes d
  Holds (node (Listed o) kids) null = Unit {0}
  Holds (node (Listed o) kids) (list es) = HoldsAll kids es
  Holds (node (Listed o) kids) _ = ⊥
  Holds (node Struct kids) null = Unit {0}
  Holds (node Struct kids) (structure es) = HoldsEach kids es
  Holds (node Struct kids) _ = ⊥

  -- each item is held by the first child
  pub HoldsAll : Roses Layout → Items → Type 0
  HoldsAll none es = ⊥
  HoldsAll (more t ts) no_items = Unit {0}
  HoldsAll (more t ts) (item d es) = Holds t d × HoldsAll (more t ts) es

  -- one value for each child
  pub HoldsEach : Roses Layout → Items → Type 0
  HoldsEach none no_items = Unit {0}
  HoldsEach none (item d es) = ⊥
  HoldsEach (more t ts) no_items = ⊥
  HoldsEach (more t ts) (item d es) = Holds t d × HoldsEach ts es

-- The weight of a null, and of each value before what it holds beyond its slot: 1, and 1 for a bit, the width in bytes
-- of a slot of fixed width, 4 for an offset, or the children's slots.
abbrev mutual
  pub null_weight : Rose Layout → ℕ
  null_weight (node Booleans kids) = 2
  null_weight (node (Int w s) kids) = 1 + bytes_in w
  null_weight (node (Decimal p) kids) = 17
  null_weight (node (FixedSizeBinary w) kids) = 1 + w
  null_weight (node (Utf8 o) kids) = 5
  null_weight (node (Binary o) kids) = 5
  null_weight (node (Listed o) kids) = 5
  null_weight (node Struct kids) = 1 + null_weights kids

  pub null_weights : Roses Layout → ℕ
  null_weights none = 0
  null_weights (more t ts) = null_weight t + null_weights ts

-- The weight of a value: its slot, with the bytes of a text or of bytes, or the weights of a list's items; of a struct
-- 1, and the weights of its children.
abbrev mutual
  pub weight : Rose Layout → Datum → ℕ
  weight (node (Utf8 o) kids) (text b) = 5 + length b
  weight (node (Binary o) kids) (bytes b) = 5 + length b
  weight (node (Listed o) kids) (list es) = 5 + items_weight kids es
  weight (node Struct kids) (structure es) = 1 + row_weight kids es
  weight t d = null_weight t

  pub items_weight : Roses Layout → Items → ℕ
  items_weight none es = 0
  items_weight (more t ts) no_items = 0
  items_weight (more t ts) (item d es) = weight t d + items_weight (more t ts) es

  pub row_weight : Roses Layout → Items → ℕ
  row_weight none es = 0
  row_weight (more t ts) no_items = 0
  row_weight (more t ts) (item d es) = weight t d + row_weight ts es
