-- Each schema within the limits has a tree that can be written.
use Rattle.std.proofs.Common.{ℕ, suc, ◌+◌, ◌-◌, ◌*◌, ◌^◌, ◌<◌, ◌≤◌, Bool, true, false, List, [], ◌∷◌, length, arith}
use Rattle.std.specs.Prelude.{if◌then◌else◌, None, Some}
use Rattle.flatbuf.specs.Tree.{number, table, Node, Nodes, count}
use Rattle.flatbuf.specs.Written.{
  up,
  items_place,
  items_end,
  object_end,
  objects_end,
  table_end,
  table_place,
  vtable_len,
  Fits,
  FitAll,
  AreReferences,
  IsWritable,
}
use Rattle.values.specs.Limits.{max_metadata_size}
use Rattle.values.specs.Rose.{Rose, node, Roses, none, more, kids_of, rose_size, roses_size}
use Rattle.values.specs.Logical.{NamedType}
use Rattle.values.specs.declared.layout.IntWidth.TheVariants as int
use Rattle.values.specs.declared.col_type.ColType.TheVariants as stored
use Rattle.field_types.specs.TypeTree.{type_slots}
use Rattle.field_types.proofs.TypeSizes.{type-fits, type-is-short}
use Rattle.schema_meta.specs.declared.header.MessageKind.TheVariants as kind
use Rattle.schema_meta.specs.MessageTree.{message_slots}
use Rattle.values.specs.Coded.{is_coded}
use Rattle.schema_meta.specs.SchemaTree.{
  column_slots,
  column_tables,
  dictionary_node,
  encoding_slots,
  field_slots,
  field_tables,
  schema_slots,
  slots_with,
  IsWithin,
  AreWithin,
  AreColumns,
}

pub up8-le : (n : ℕ) → up 8 n ≤ n + 7
up8-le n = omega arith

pub items_place-le : (n : ℕ) → items_place n ≤ n + 11
items_place-le n = omega arith

pub table_place-le : (at : ℕ) (s : Nodes) → table_place at s ≤ at + 14 + vtable_len s
table_place-le at s =
    let vtable : ℕ = up 8 at in
    let first : vtable ≤ at + 7 = up8-le at in
    let second : up 8 (vtable + vtable_len s) ≤ vtable + vtable_len s + 7 = up8-le (vtable + vtable_len s) in
    omega (arith, first, second)

pub number-fits : (w n : ℕ) → 1 ≤ w → w ≤ 8 → n < 256 ^ w → Fits (number w n)
number-fits w n low high fits = (low, high, fits)

fields-refer : (fs : Roses NamedType) → AreReferences (field_tables fs)
fields-refer none = tt
fields-refer (more f fs) = (tt, fields-refer fs)

mutual
  field-fits : (f : Rose NamedType) → IsWithin f → Fits (table (field_slots f))
  field-fits (node f kids) h =
      let typed = type-fits f.col_type h.1 in (
        omega arith,
        omega arith,
        (
          tt,
          (
            (omega arith, omega arith, omega arith),
            ((omega arith, omega arith, typed.0), (typed.1, (tt, ((fields-fit kids h.2, fields-refer kids), tt)))),
          ),
        ),
      )

  fields-fit : (fs : Roses NamedType) → AreWithin fs → FitAll (field_tables fs)
  fields-fit none h = tt
  fields-fit (more f fs) h = (field-fits f h.0, fields-fit fs h.1)

-- A field takes at most these bytes, with those below it and the reference to it.
mutual
  field-end : (at : ℕ) (f : Rose NamedType) → IsWithin f
      → object_end at (table (field_slots f)) + 4 ≤ at + 8317 * rose_size f
  field-end at (node f kids) h =
      let short = h.0 in
      let place = table_place-le at (field_slots (node f kids)) in
      let named : ℕ = table_place at (field_slots (node f kids)) + 20 in
      let name_at = items_place-le named in
      let typed : ℕ = items_place named + length f.name + 1 in
      let type = type-is-short f.col_type h.1 typed in
      let last : ℕ = object_end typed (table (type_slots f.col_type)) in
      let items = items_place-le last in
      let below = fields-end (items_end last (field_tables kids)) kids h.2 in
      omega (arith, short, place, name_at, type, items, below)

  fields-end :
      (at : ℕ) (fs : Roses NamedType) → AreWithin fs
      → objects_end at (field_tables fs) + 4 * count (field_tables fs) ≤ at + 8317 * roses_size fs
  fields-end at none h = omega arith
  fields-end at (more f fs) h =
      let here = field-end at f h.0 in
      let there = fields-end (object_end at (table (field_slots f))) fs h.1 in
      omega (arith, here, there)

-- A column with its dictionary, if it has one.

columns-refer : (coded : List ℕ) (j : ℕ) (fs : List (Rose NamedType)) → AreReferences (column_tables coded j fs)
columns-refer coded j [] = tt
columns-refer coded j (f ∷ fs) = (tt, columns-refer coded (suc j) fs)

encoding-fits : (j : ℕ) → j < 2 ^ 32 → Fits (table (encoding_slots j))
encoding-fits j small = (
  omega arith,
  omega arith,
  (
    (omega arith, omega arith, omega (arith, small)),
    (
      (
        omega arith,
        omega arith,
        ((omega arith, omega arith, omega arith), ((omega arith, omega arith, omega arith), tt)),
      ),
      ((omega arith, omega arith, omega arith), ((omega arith, omega arith, omega arith), tt)),
    ),
  ),
)

abbrev node_by : Bool → ℕ → Node
node_by b j = dictionary_node (if b then Some j else None)

column-fits : (b : Bool) (j : ℕ) (f : NamedType) (kids : Roses NamedType) → j < 2 ^ 32 → IsWithin (node f kids)
    → Fits (table (slots_with (node_by b j) f (field_tables kids)))
column-fits false j f kids small h = field-fits (node f kids) h
column-fits true j f kids small h =
    let typed = type-fits f.col_type h.1 in (
      omega arith,
      omega arith,
      (
        tt,
        (
          (omega arith, omega arith, omega arith),
          (
            (omega arith, omega arith, typed.0),
            (typed.1, (encoding-fits j small, ((fields-fit kids h.2, fields-refer kids), tt))),
          ),
        ),
      ),
    )

columns-fit : (coded : List ℕ) (j : ℕ) (fs : List (Rose NamedType)) → j + roses_size (kids_of fs) ≤ 2 ^ 32
    → AreWithin (kids_of fs) → FitAll (column_tables coded j fs)
columns-fit coded j [] few h = tt
columns-fit coded j (node f kids ∷ fs) few h = (
  column-fits (is_coded coded j) j f kids (omega (arith, few)) h.0,
  columns-fit coded (suc j) fs (omega (arith, few)) h.1,
)

encoding-end : (at j : ℕ) → object_end at (table (encoding_slots j)) ≤ at + 100
encoding-end at j =
    let place = table_place-le at (encoding_slots j) in
    let last : ℕ = table_end at (encoding_slots j) in
    let type = table_place-le last (type_slots (stored.Int int.Bits32 true)) in
    omega (arith, place, type)

column-end : (b : Bool) (at j : ℕ) (f : NamedType) (kids : Roses NamedType) → IsWithin (node f kids)
    → object_end at (table (slots_with (node_by b j) f (field_tables kids))) + 4
    ≤ at + 8317 * rose_size (node f kids) + 128
column-end false at j f kids h = let plain = field-end at (node f kids) h in omega (arith, plain)
column-end true at j f kids h =
    let slots : Nodes = slots_with (table (encoding_slots j)) f (field_tables kids) in
    let short = h.0 in
    let place = table_place-le at slots in
    let named : ℕ = table_place at slots + 24 in
    let name_at = items_place-le named in
    let typed : ℕ = items_place named + length f.name + 1 in
    let type = type-is-short f.col_type h.1 typed in
    let last : ℕ = object_end typed (table (type_slots f.col_type)) in
    let encoding = encoding-end last j in
    let behind : ℕ = object_end last (table (encoding_slots j)) in
    let items = items_place-le behind in
    let below = fields-end (items_end behind (field_tables kids)) kids h.2 in
    omega (arith, short, place, name_at, type, encoding, items, below)

columns-end :
    (coded : List ℕ) (at j : ℕ) (fs : List (Rose NamedType)) → AreWithin (kids_of fs)
    → objects_end at (column_tables coded j fs) + 4 * count (column_tables coded j fs)
    ≤ at + 8445 * roses_size (kids_of fs)
columns-end coded at j [] h = omega arith
columns-end coded at j (node f kids ∷ fs) h =
    let here = column-end (is_coded coded j) at j f kids h.0 in
    let there =
    columns-end coded (object_end at (table (column_slots coded j (node f kids)))) (suc j) fs h.1 in
    omega (arith, here, there)

pub schema-end :
    (coded : List ℕ) (fs : List (Rose NamedType)) → AreColumns fs
    → object_end 4 (table (message_slots kind.Schema (schema_slots coded fs) 0)) < max_metadata_size - 8
schema-end coded fs h =
    let first : ℕ = table_end 4 (message_slots kind.Schema (schema_slots coded fs) 0) in
    let begin : first ≤ 64 = omega arith in
    let header : ℕ = table_end first (schema_slots coded fs) in
    let place = table_place-le first (schema_slots coded fs) in
    let items = items_place-le header in
    let few = h.few in
    let below = columns-end coded (items_end header (column_tables coded 0 fs)) 0 fs h.within in
    omega (arith, begin, place, items, few, below)

pub schema-writable : (coded : List ℕ) (fs : List (Rose NamedType)) → AreColumns fs
    → IsWritable (message_slots kind.Schema (schema_slots coded fs) 0)
schema-writable coded fs h =
    let few = h.few in
    let fits : Fits (table (schema_slots coded fs)) = (
      omega arith,
      omega arith,
      (
        number-fits 2 0 (omega arith) (omega arith) (omega arith),
        ((columns-fit coded 0 fs (omega (arith, few)) h.within, columns-refer coded 0 fs), tt),
      ),
    ) in
    let end = schema-end coded fs h in
    record {
      fits = (
        omega arith,
        omega arith,
        (
          number-fits 2 4 (omega arith) (omega arith) (omega arith),
          (
            number-fits 1 1 (omega arith) (omega arith) (omega arith),
            (fits, (number-fits 8 0 (omega arith) (omega arith) (omega arith), tt)),
          ),
        ),
      );
      short = omega (arith, end);
    }
