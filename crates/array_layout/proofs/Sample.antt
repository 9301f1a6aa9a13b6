-- The rows of the format's own examples, as the definitions give them.
use Rattle.std.specs.Prelude.{◌≡◌, ℕ, pos, neg_ℤ, ◌-◌, ◌^◌, true, false, List, [], ◌∷◌, Some, Ok, Err, refl}
use Rattle.std.specs.Str.{is_utf8, chars}
use Rattle.std.proofs.Math.Utf8.{encode}
use Rattle.byteorder.specs.Endian.{little_bytes}
use Rattle.values.specs.Reading.{Reading, one, each}
use Rattle.values.specs.Rose.{Rose, node, none, more}
use Rattle.values.specs.Datum.{Datum, null, truth, whole, text, list, structure, no_items, item}
use Rattle.values.specs.declared.faults.StreamFault.TheVariants as fault
use Rattle.values.specs.declared.layout.IntWidth.TheVariants as int
use Rattle.values.specs.declared.layout.OffsetWidth.TheVariants as offset
use Rattle.values.specs.declared.layout.Layout.{Layout}
use Rattle.values.specs.declared.layout.Layout.TheVariants.{
  Bool as Booleans,
  Int,
  Decimal,
  Utf8,
  List as Listed,
  Struct,
}
use Rattle.bitmaps.specs.Bits.{bits_at, ones}
use Rattle.array_layout.specs.declared.array.FieldNode.{FieldNode}
use Rattle.array_layout.specs.declared.array.BufferRange.{BufferRange}
use Rattle.array_layout.specs.declared.array.DictionaryValues.{DictionaryValues}
use Rattle.array_layout.specs.Placing.{placed}
use Rattle.array_layout.specs.Cells.{column_of, cells, cell_by}
use Rattle.array_layout.specs.Sound.{own_faults, validity_of, bits_of, slots_of, offsets_of}
use Rattle.array_layout.specs.Buffers.{zeros, is_null, number_at, unsigned_at, offset_at, is_rising, slice_at}

abbrev told : ℕ → ℕ → FieldNode
told n nulls = record { length = n; nulls = pos nulls }

abbrev at : ℕ → ℕ → BufferRange
at from len = record { from = from; len = len }

-- nine truth values: validity FF FE, values 55 FF
abbrev bools : ℕ → ℕ → Reading (List Datum)
bools nulls valid =
    column_of (255 ∷ valid ∷ 85 ∷ 255 ∷ []) (placed (told 9 nulls ∷ []) (at 0 2 ∷ at 2 2 ∷ []) 0 0 (node Booleans none))

abbrev four_times : List Datum → List Datum
four_times ds =
    truth true ∷ truth false ∷ truth true ∷ truth false ∷ truth true ∷ truth false ∷ truth true ∷ truth false ∷ ds

pub ninth_null : bools 1 254 ≡ Ok (four_times (null ∷ []))
unfolding column_of own_faults validity_of zeros ones bits_at bits_of cells each cell_by is_null
ninth_null = refl

pub nulls_unsaid : bools 0 254 ≡ Err (one fault.NullCount)
unfolding column_of own_faults validity_of zeros ones bits_at bits_of cells each cell_by is_null
nulls_unsaid = refl

pub ninth_true : bools 0 255 ≡ Ok (four_times (truth true ∷ []))
unfolding column_of own_faults validity_of zeros ones bits_at bits_of cells each cell_by is_null
ninth_true = refl

-- A struct of int8 and utf8, whose second slot is null: of the texts the bytes FF FF are not reached.
abbrev structs : List ℕ
structs = 1 ∷ 5 ∷ 6 ∷ 0 ∷ 0 ∷ 0 ∷ 0 ∷ 1 ∷ 0 ∷ 0 ∷ 0 ∷ 3 ∷ 0 ∷ 0 ∷ 0 ∷ 120 ∷ 255 ∷ 255 ∷ []

abbrev pair_of : Rose Layout
pair_of = node Struct (more (node (Int int.Bits8 true) none) (more (node (Utf8 offset.Bits32) none) none))

pub text_unreached :
    column_of structs
    (placed (told 2 1 ∷ told 2 0 ∷ told 2 0 ∷ []) (at 0 1 ∷ at 0 0 ∷ at 1 2 ∷ at 0 0 ∷ at 3 12 ∷ at 15 3 ∷ []) 0 0
    pair_of)
    ≡ Ok (structure (item (whole (pos 5)) (item (text (120 ∷ [])) no_items)) ∷ null ∷ [])
unfolding column_of own_faults validity_of zeros ones bits_at slots_of offsets_of is_rising offset_at cells each cell_by
    is_null number_at unsigned_at slice_at is_utf8 chars encode
text_unreached = refl

-- lists of int16 whose first offset isn't 0
abbrev lists : ℕ → ℕ → Reading (List Datum)
lists second third =
    column_of (1 ∷ 0 ∷ 0 ∷ 0 ∷ second ∷ 0 ∷ 0 ∷ 0 ∷ third ∷ 0 ∷ 0 ∷ 0 ∷ 1 ∷ 0 ∷ 2 ∷ 0 ∷ 3 ∷ 0 ∷ [])
    (placed (told 2 0 ∷ told 3 0 ∷ []) (at 0 0 ∷ at 0 12 ∷ at 0 0 ∷ at 12 6 ∷ []) 0 0
    (node (Listed offset.Bits32) (more (node (Int int.Bits16 true) none) none)))

pub items_between : lists 3 3 ≡ Ok (list (item (whole (pos 2)) (item (whole (pos 3)) no_items)) ∷ list no_items ∷ [])
unfolding column_of own_faults validity_of slots_of offsets_of is_rising offset_at cells each cell_by is_null number_at
    unsigned_at
items_between = refl

pub items_past : lists 4 4 ≡ Err (one fault.Offsets)
unfolding column_of own_faults validity_of slots_of offsets_of is_rising offset_at cells each cell_by is_null number_at
    unsigned_at
items_past = refl

-- one decimal, given by its 128 bits, in a slot that is valid where `valid` is 1
abbrev decimal_slot : ℕ → ℕ → ℕ → Reading (List Datum)
decimal_slot digits valid bits =
    column_of (valid ∷ little_bytes 16 bits)
    (placed (told 1 (1 - valid) ∷ []) (at 0 1 ∷ at 1 16 ∷ []) 0 0 (node (Decimal digits) none))

pub largest_taken : decimal_slot 3 1 999 ≡ Ok (whole (pos 999) ∷ [])
unfolding column_of own_faults validity_of zeros ones bits_at slots_of cells each cell_by is_null number_at unsigned_at
largest_taken = refl

pub smallest_taken : decimal_slot 3 1 (2 ^ 128 - 999) ≡ Ok (whole (neg_ℤ (pos 999)) ∷ [])
unfolding column_of own_faults validity_of zeros ones bits_at slots_of cells each cell_by is_null number_at unsigned_at
smallest_taken = refl

pub too_large : decimal_slot 3 1 1000 ≡ Err (one fault.DecimalRange)
unfolding column_of own_faults validity_of zeros ones bits_at slots_of cells each cell_by is_null number_at unsigned_at
too_large = refl

pub too_small : decimal_slot 3 1 (2 ^ 128 - 1000) ≡ Err (one fault.DecimalRange)
unfolding column_of own_faults validity_of zeros ones bits_at slots_of cells each cell_by is_null number_at unsigned_at
too_small = refl

pub null_unread : decimal_slot 3 0 1000 ≡ Ok (null ∷ [])
unfolding column_of own_faults validity_of zeros ones bits_at slots_of cells each cell_by is_null number_at unsigned_at
null_unread = refl

pub digits_taken : decimal_slot 28 1 (10 ^ 28 - 1) ≡ Ok (whole (pos (10 ^ 28 - 1)) ∷ [])
unfolding column_of own_faults validity_of zeros ones bits_at slots_of cells each cell_by is_null number_at unsigned_at
digits_taken = refl

pub digits_too_many : decimal_slot 28 1 (10 ^ 28) ≡ Err (one fault.DecimalRange)
unfolding column_of own_faults validity_of zeros ones bits_at slots_of cells each cell_by is_null number_at unsigned_at
digits_too_many = refl

-- two int8 indices into the values a and b, and the bits of the slots that are valid
abbrev letters : DictionaryValues
letters = record { layout = Utf8 offset.Bits32; values = text (97 ∷ []) ∷ text (98 ∷ []) ∷ [] }

abbrev coded_slots : ℕ → ℕ → ℕ → ℕ → Reading (List Datum)
coded_slots valid nulls first second =
    column_of (valid ∷ first ∷ second ∷ []) (node (record {
      layout = Int int.Bits8 true;
      dictionary = Some letters;
      len = 2;
      nulls = pos nulls;
      validity = at 0 1;
      offsets = at 0 0;
      values = at 1 2;
    }) none)

pub indices_taken : coded_slots 3 0 1 0 ≡ Ok (text (98 ∷ []) ∷ text (97 ∷ []) ∷ [])
unfolding column_of own_faults validity_of zeros ones bits_at slots_of cells each cell_by is_null number_at unsigned_at
indices_taken = refl

pub negative_index : coded_slots 3 0 255 0 ≡ Err (one fault.DictionaryIndex)
unfolding column_of own_faults validity_of zeros ones bits_at slots_of cells each cell_by is_null number_at unsigned_at
negative_index = refl

pub index_above : coded_slots 3 0 1 2 ≡ Err (one fault.DictionaryIndex)
unfolding column_of own_faults validity_of zeros ones bits_at slots_of cells each cell_by is_null number_at unsigned_at
index_above = refl

pub index_of_null : coded_slots 2 1 255 0 ≡ Ok (null ∷ text (97 ∷ []) ∷ [])
unfolding column_of own_faults validity_of zeros ones bits_at slots_of cells each cell_by is_null number_at unsigned_at
index_of_null = refl
