-- Slots one after the other: which cells they have where there is no fault, and what they hold.
use Rattle.std.specs.Prelude.{◌≡◌, ◌⊎◌, ℕ, zero, suc, ◌+◌, ◌<◌, ◌≤◌, List, [], ◌∷◌, Ok, Err}
use Rattle.std.specs.List.{flat_map}
use Rattle.array_layout.specs.Buffers.{is_null}
use Rattle.byteorder.specs.Endian.{little_bytes}
use Rattle.values.specs.Datum.{Datum, null}
use Rattle.values.specs.Reading.{IsValid, Reading}
use Rattle.values.specs.declared.layout.OffsetWidth.{OffsetWidth}
use Rattle.values.specs.declared.layout.Layout.{Layout}
use Rattle.values.specs.declared.layout.Layout.TheVariants.{Int, Decimal, FixedSizeBinary, Utf8, Binary, List as Listed}
use Rattle.values.specs.Layouts.{bytes_in as width_of}
use Rattle.body_writer.specs.Columns.{validity}
use Rattle.body_writer.specs.Slots.{number_in, fixed_in}

abbrev pub cell_in : Reading Datum → Datum
cell_in (Ok d) = d
cell_in (Err fs) = null

-- d is read there, where anything is
abbrev pub IsReadAs : Reading Datum → Datum → Type 0
IsReadAs r d = IsValid r → d ≡ cell_in r

-- the cells of n slots, the first of them slot i
unfoldable pub slots : (ℕ → Reading Datum) → ℕ → ℕ → List Datum
slots cell i zero = []
slots cell i (suc n) = cell_in (cell i) ∷ slots cell (i + 1) n

-- slots `at` to `end` are all null, or all valid, as the first is, by these bits
abbrev pub AreAlike : List ℕ → ℕ → ℕ → Type 0
AreAlike bits at end = (k : ℕ) → at ≤ k → k < end → is_null bits k ≡ is_null bits at

-- how wide a slot is whose layout is of a fixed width in bytes, and what it holds

abbrev pub slot_width : Layout → ℕ
slot_width (Int w s) = width_of w
slot_width (Decimal p) = 16
slot_width (FixedSizeBinary w) = w
slot_width l = 0

abbrev pub slot_bytes : Layout → Datum → List ℕ
slot_bytes (Int w s) c = little_bytes (width_of w) (number_in (width_of w) c)
slot_bytes (Decimal p) c = little_bytes 16 (number_in 16 c)
slot_bytes (FixedSizeBinary w) c = fixed_in w c
slot_bytes l c = []

-- the buffers of cells that all take the same number of bytes
abbrev pub fixed_buffers : Layout → List Datum → List (List ℕ)
fixed_buffers l cs = validity cs ∷ flat_map (slot_bytes l) cs ∷ []

-- texts or bytes, whose offsets have this width
abbrev pub HasBytes : Layout → OffsetWidth → Type 0
HasBytes l o = (l ≡ Utf8 o) ⊎ (l ≡ Binary o)

-- or lists
abbrev pub HasOffsets : Layout → OffsetWidth → Type 0
HasOffsets l o = HasBytes l o ⊎ (l ≡ Listed o)
