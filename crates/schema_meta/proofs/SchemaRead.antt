-- The Schema message that is written is read as its schema.
use Rattle.std.proofs.Common.{
  ◌≡◌,
  ℕ,
  suc,
  ◌+◌,
  ◌-◌,
  ◌^◌,
  ◌<◌,
  ◌≤◌,
  ◌∙◌,
  true,
  List,
  [],
  ◌∷◌,
  Option,
  Some,
  None,
  Ok,
  refl,
  ap,
  subst,
  sym,
  arith,
}
use Rattle.std.specs.Prelude.{nat_eq, map}
use Rattle.std.specs.Int.{w16, w64}
use Rattle.std.proofs.lemmas.Bool.{le-leb, eq-eqb}
use Rattle.std.specs.Cmp.Lexicographic.{pointwise}
use Rattle.std.proofs.lemmas.Int.{to_z_pos}
use Rattle.flatbuf.specs.Tree.{number, Nodes, count}
use Rattle.flatbuf.specs.Layout.{Table, Vector, table_in, slot_of, subtable_of}
use Rattle.flatbuf.specs.Written.{whole, IsWritable}
use Rattle.flatbuf.specs.Held.{element_place, NodeHeld, Held, RootHeld}
use Rattle.flatbuf.proofs.ReadsBack.{layout-law}
use Rattle.flatbuf.proofs.ReaderAnswers.{number-read, signed-read, subtable-read, vector-read}
use Rattle.values.specs.Limits.{max_body_size, max_fields, max_depth}
use Rattle.values.specs.Rose.{Rose, node, Roses, none, more, kids_of, roses_size}
use Rattle.values.specs.declared.layout.Layout.{Layout}
use Rattle.values.specs.Logical.{NamedType, AreLogicalColumns, logical_column}
use Rattle.values.specs.contracts.col_type.ColTypePartialEq.TheImpl as types
use Rattle.values.specs.declared.col_type.ColType.{ColType}
use Rattle.values.specs.declared.col_type.ColType.TheVariants as stored
use Rattle.values.proofs.Equality.{types-exact}
use Rattle.values.proofs.Logicals.{is-same}
use Rattle.schema_meta.specs.declared.header.MessageKind.{MessageKind}
use Rattle.schema_meta.specs.declared.header.MessageKind.TheVariants as kind
use Rattle.field_types.specs.Reads.{short_of}
use Rattle.field_types.specs.SchemaFbs as schema_fbs
use Rattle.schema_meta.specs.MessageFbs as message_fbs
use Rattle.schema_meta.specs.FieldLayouts.{null_weights_fit}
use Rattle.schema_meta.specs.Schema.{endianness_of, columns_of, schema_of}
use Rattle.schema_meta.specs.Stage.{Known, Meta}
use Rattle.schema_meta.specs.Message.{
  version_of,
  kind_of,
  header_table,
  body_of,
  expected,
  new_schema,
  header_of,
  meta_of,
  brings_schema,
}
use Rattle.schema_meta.specs.MessageTree.{header_number, message_slots}
use Rattle.values.specs.Coded.{AreCoded}
use Rattle.schema_meta.specs.SchemaTree.{column_tables, schema_slots, schema_metadata, AreColumns}
use Rattle.schema_meta.specs.SchemaLaw.{
  coded_fields,
  coded_from,
  stored_below,
  AreNamed,
  before,
  AreExpected,
  SchemaLaw,
  ColumnsLaw,
}
use Rattle.schema_meta.specs.Logical.{logical_field, named_below}
use Rattle.schema_meta.specs.SameColumns.{are_same, is_declared}
use Rattle.schema_meta.specs.Totals.{total}
use Rattle.schema_meta.proofs.SchemaFits.{schema-writable}
use Rattle.schema_meta.proofs.ColumnsRead.{all_read}
use Rattle.schema_meta.proofs.SoundFields.{Sound, columns-count, coded-layouts-read}
use Rattle.schema_meta.proofs.CodedFields.{coded-clear, coded-texts, none-coded}
use Rattle.schema_meta.proofs.FieldRead.{columns-forest-read, columns-total-read}
use Rattle.schema_meta.proofs.Logicals.{named-stored-all}

sound-columns : (fs : List (Rose NamedType)) → AreColumns fs → AreNamed fs → Sound max_depth stored.Struct (kids_of fs)
sound-columns fs columns named =
    record { within = columns.within; logical = named.logical; layouts = named.layouts; shallow = named.shallow }

columns-read :
    (v : Vector) (coded : List ℕ) (fs : List (Rose NamedType)) → v.count ≡ count (column_tables coded 0 fs)
    → AreColumns fs → AreNamed fs → AreCoded coded fs
    → Held v.bytes (element_place v.start) 0 (column_tables coded 0 fs) → columns_of v ≡ Ok (coded_fields coded fs)
columns-read v coded fs e columns named c h =
    let sound = sound-columns fs columns named in
    let counted = e ∙ columns-count coded 0 fs in
    let few = columns.few in
    let counts = columns-total-read coded 15 stored.Struct fs v sound counted h in
    let read =
    columns-forest-read coded 15 stored.Struct fs v (omega (arith, few)) (coded-texts coded fs c) sound counted h in
    let left : max_fields - roses_size (kids_of fs) + total max_depth v ≡ max_fields = omega (arith, few, counts) in
    let P : Roses Layout → Type 0 = λ ls. null_weights_fit ls ≡ true in
    all_read v (coded_fields coded fs) (max_fields - roses_size (kids_of fs)) left read
    (subst P (sym (coded-layouts-read coded fs)) named.null_weight_within) (coded-clear coded fs c)

endianness-read : (t : Table) → NodeHeld t.bytes (slot_of t schema_fbs.endianness) (number 2 schema_fbs.little_endian)
    → endianness_of t ≡ Ok tt
unfolding endianness_of short_of
endianness-read t h = rw (signed-read w16 schema_fbs.little_endian t schema_fbs.endianness h) refl

pub schema-read :
    (t : Table) (coded : List ℕ) (fs : List (Rose NamedType)) → AreColumns fs → AreNamed fs → AreCoded coded fs
    → Held t.bytes (slot_of t) 0 (schema_slots coded fs)
    → schema_of t ≡ Ok (coded_fields coded fs)
unfolding schema_of
schema-read t coded fs columns named c h =
    let r = vector-read (column_tables coded 0 fs) t schema_fbs.fields h.1.0 in
    let v : Vector = record { bytes = t.bytes; start = r.start; count = count (column_tables coded 0 fs) } in
    let read : columns_of v ≡ Ok (coded_fields coded fs) = columns-read v coded fs refl columns named c r.elements in
    rw (endianness-read t h.0, r.is, read) refl

version-read : (t : Table) → NodeHeld t.bytes (slot_of t message_fbs.version) (number 2 schema_fbs.v5)
    → version_of t ≡ Ok tt
unfolding version_of short_of
version-read t h = rw (signed-read w16 schema_fbs.v5 t message_fbs.version h) refl

kind-read : (t : Table) (k : MessageKind)
    → NodeHeld t.bytes (slot_of t message_fbs.header_kind) (number 1 (header_number k)) → kind_of t ≡ Ok k
unfolding kind_of
kind-read t kind.Schema h = rw (number-read 1 message_fbs.header_schema t message_fbs.header_kind h) refl
kind-read t kind.Dictionary h = rw (number-read 1 message_fbs.header_dictionary_batch t message_fbs.header_kind h) refl
kind-read t kind.Batch h = rw (number-read 1 message_fbs.header_record_batch t message_fbs.header_kind h) refl

body-read : (t : Table) (n : ℕ) → n ≤ max_body_size → NodeHeld t.bytes (slot_of t message_fbs.body_length) (number 8 n)
    → body_of t ≡ Ok n
unfolding body_of
body-read t n le h =
    let small : n < 2 ^ 63 = omega arith in
    rw (signed-read w64 n t message_fbs.body_length h, to_z_pos w64 n small, le-leb n max_body_size le) refl

header-read : (t h : Table) → subtable_of t message_fbs.header ≡ Some (Some h) → header_table t ≡ Ok h
unfolding header_table
header-read t h e = rw e refl

-- The meaning of the header under its kind is that of the metadata.
meta-held : (known : Known) (b : List ℕ) (k : MessageKind) (header : Nodes) (body : ℕ) (m : Meta) → body ≤ max_body_size
    → RootHeld b (message_slots k header body)
    → ((t h : Table) → header_table t ≡ Ok h → Held h.bytes (slot_of h) 0 header
    → ((i : ℕ) → count header ≤ i → slot_of h i ≡ Some None) → header_of known t k body ≡ Ok m)
    → meta_of known b ≡ Ok m
unfolding meta_of
meta-held known b k header body m le r means =
    let t : Table = table_in b r.place in
    let held = r.held in
    let h = subtable-read header t message_fbs.header held.1.1.0 in
    let meant : header_of known t k body ≡ Ok m =
    means t (table_in b h.place) (header-read t (table_in b h.place) h.is) h.slots h.beyond in
    rw (r.found, kind-read t k held.1.0, version-read t held.0, body-read t body le held.1.1.1.0, meant) refl

pub meta-read : (known : Known) (k : MessageKind) (header : Nodes) (body : ℕ) (m : Meta) → body ≤ max_body_size
    → IsWritable (message_slots k header body)
    → ((t h : Table) → header_table t ≡ Ok h → Held h.bytes (slot_of h) 0 header
    → ((i : ℕ) → count header ≤ i → slot_of h i ≡ Some None) → header_of known t k body ≡ Ok m)
    → meta_of known (whole (message_slots k header body)) ≡ Ok m
meta-read known k header body m le fits means =
    meta-held known (whole (message_slots k header body)) k header body m le
    (layout-law (message_slots k header body) fits) means

same-bytes : (xs : List ℕ) → pointwise nat_eq xs xs ≡ true
same-bytes [] = refl
same-bytes (x ∷ xs) = rw (eq-eqb x x refl, same-bytes xs) refl

same-type : (s : ColType) → types.ghosts.eq s s ≡ true
same-type s = (types-exact s s).1 refl

same-all : (fs : Roses NamedType) → are_same fs fs ≡ true
same-all none = refl
same-all (more (node f kids) fs) = rw (same-bytes f.name, same-type f.col_type, same-all kids, same-all fs) refl

logical-from : (coded : List ℕ) (j : ℕ) (fs : List (Rose NamedType)) → AreLogicalColumns fs
    → map logical_field (coded_from coded j fs) ≡ fs
logical-from coded j [] h = refl
logical-from coded j (node f kids ∷ fs) h =
    let here : logical_column (node f (named_below (stored_below kids))) ≡ node f kids =
    ap (λ ks. logical_column (node f ks)) (named-stored-all kids) ∙ is-same stored.Struct (node f kids) h.0 in
    rw (here, logical-from coded (suc j) fs h.1) refl

pub columns-law : ColumnsLaw
columns-law coded fs named = logical-from coded 0 fs named.logical

declared-same : (coded : List ℕ) (fs : List (Rose NamedType)) → AreNamed fs
    → is_declared fs (coded_fields coded fs) ≡ true
unfolding is_declared
declared-same coded fs named =
    let P : Roses NamedType → Type 0 = λ gs. are_same (kids_of fs) gs ≡ true in
    subst P (sym (ap kids_of (columns-law coded fs named))) (same-all (kids_of fs))

expected-read :
    (declared : Option (List (Rose NamedType))) (coded : List ℕ) (fs : List (Rose NamedType)) → AreNamed fs
    → AreExpected declared fs
    → expected declared (coded_fields coded fs) ≡ Ok (coded_fields coded fs)
expected-read None coded fs named h = refl
expected-read (Some columns) coded fs named h = rw (h, declared-same coded fs named) refl

header-means :
    (declared : Option (List (Rose NamedType))) (t h : Table) (coded : List ℕ) (fs : List (Rose NamedType))
    → AreNamed fs → header_table t ≡ Ok h
    → schema_of h ≡ Ok (coded_fields coded fs) → AreExpected declared fs
    → header_of (before declared) t kind.Schema 0 ≡ Ok (brings_schema 0 (coded_fields coded fs))
unfolding header_of new_schema
header-means declared t h coded fs named found read same =
    rw (found, read, expected-read declared coded fs named same) refl

pub schema-law : SchemaLaw
unfolding schema_metadata
schema-law declared coded fs columns named c same =
    meta-read (before declared) kind.Schema (schema_slots coded fs) 0 (brings_schema 0 (coded_fields coded fs))
    (omega arith) (schema-writable coded fs columns)
    (λ t h found held beyond. header-means declared t h coded fs named found (schema-read h coded fs columns named c
    held) same)

pub ruleset schema_laws = (schema-law, columns-law, none-coded)
