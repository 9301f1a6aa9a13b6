-- A field that is held is read as the field that was written.
use Rattle.std.proofs.Common.{
  ◌≡◌,
  ℕ,
  zero,
  suc,
  ◌+◌,
  ◌^◌,
  ◌<◌,
  ◌≤◌,
  Bool,
  true,
  false,
  List,
  [],
  ◌∷◌,
  length,
  Option,
  Some,
  None,
  Ok,
  refl,
  sym,
  subst,
  arith,
}
use Rattle.std.specs.Prelude.{pos, if◌then◌else◌}
use Rattle.std.specs.Int.{w16, w32, w64}
use Rattle.std.specs.Str.{is_utf8}
use Rattle.std.proofs.lemmas.Bool.{le-leb}
use Rattle.std.proofs.lemmas.Int.{to_z_pos}
use Rattle.flatbuf.specs.Tree.{Node, absent, number, text, table, references, count}
use Rattle.flatbuf.specs.Layout.{Table, Vector, table_in, slot_of, entry_of}
use Rattle.flatbuf.specs.Held.{element_place, NodeHeld, Held}
use Rattle.flatbuf.proofs.ReaderAnswers.{
  number-read,
  signed-read,
  text-read,
  subtable-read,
  entry-read,
  vector-read,
  subtable-absent,
}
use Rattle.values.specs.Limits.{max_name_len}
use Rattle.values.specs.Reading.{Reading, each}
use Rattle.values.specs.Rose.{Rose, node, Roses, none, more, kids_of, roses_size}
use Rattle.values.specs.declared.layout.IntWidth.TheVariants as int
use Rattle.values.specs.declared.col_type.ColType.TheVariants as stored
use Rattle.field_types.specs.Kinds.{may_have, kind_of_type}
use Rattle.values.specs.Logical.{NamedType}
use Rattle.field_types.specs.Reads.{bool_of, i32_of, short_of}
use Rattle.field_types.specs.TypeTree.{type_slots}
use Rattle.field_types.specs.Types.{index_of, width_of}
use Rattle.field_types.specs.StoredLaws.{kids_count}
use Rattle.field_types.specs.declared.kinds.TypeKind.{TypeKind}
use Rattle.values.specs.declared.col_type.ColType.{ColType}
use Rattle.field_types.proofs.TypeRead.{type-is-read}
use Rattle.schema_meta.specs.declared.encoding.DictionaryEncoding.{DictionaryEncoding}
use Rattle.values.specs.Coded.{is_coded, utf8}
use Rattle.schema_meta.specs.Coded.{encoding_at, indices, own_encoding}
use Rattle.schema_meta.specs.Encoding.{dense_of, encoding_of, field_encoding_of, id_of, index_type_of}
use Rattle.schema_meta.specs.Entry.{Entry}
use Rattle.field_types.specs.SchemaFbs as fbs
use Rattle.schema_meta.specs.Fields.{
  name_of,
  children_of,
  label_of,
  content_of,
  field_of,
  entry_by,
  child_at,
  label,
  storage,
  content,
  forest,
}
use Rattle.schema_meta.specs.Totals.{sum_from, total_at, total}
use Rattle.schema_meta.specs.SchemaTree.{
  column_tables,
  dictionary_node,
  encoding_node,
  encoding_slots,
  field_tables,
  slots_with,
}
use Rattle.schema_meta.specs.SchemaLaw.{coded_from, stored_below}
use Rattle.schema_meta.proofs.SoundFields.{
  Sound,
  no-level,
  sound-below,
  sound-rest,
  tables-count,
  may-have,
  entries,
  entries-below,
  TextsFrom,
}

name-read : (t : Table) (xs : List ℕ) → length xs ≤ max_name_len → is_utf8 xs ≡ true
    → NodeHeld t.bytes (slot_of t fbs.name) (text xs) → name_of t ≡ Ok xs
unfolding name_of
name-read t xs short utf8 h = rw (text-read xs t fbs.name h, le-leb (length xs) max_name_len short, utf8) refl

bool-read : (t : Table) (k : ℕ) → NodeHeld t.bytes (slot_of t k) (number 1 1) → bool_of t k ≡ Ok true
unfolding bool_of
bool-read t k h = rw (number-read 1 1 t k h) refl

-- a field of this type whose dictionary slot holds this node has this dictionary
abbrev pub Encodes : Node → ColType → Option DictionaryEncoding → Type 0
Encodes x s e =
    (t : Table) → NodeHeld t.bytes (slot_of t fbs.dictionary) x → field_encoding_of (kind_of_type s) t ≡ Ok e

plain-read : (s : ColType) → Encodes absent s None
unfolding field_encoding_of
plain-read s t h = rw (subtable-absent t fbs.dictionary h) refl

index-read : (t : Table) → Held t.bytes (slot_of t) 0 (type_slots (stored.Int int.Bits32 true))
    → index_of t ≡ Ok indices
unfolding index_of width_of i32_of bool_of
index-read t h = rw (signed-read w32 32 t fbs.bit_width h.0, number-read 1 1 t fbs.is_signed h.1.0) refl

id-read : (t : Table) (j : ℕ) → j < 2 ^ 63 → NodeHeld t.bytes (slot_of t fbs.dictionary_id) (number 8 j)
    → id_of t ≡ Ok (pos j)
unfolding id_of
id-read t j small h = rw (signed-read w64 j t fbs.dictionary_id h, to_z_pos w64 j small) refl

index_type-read : (t : Table)
    → NodeHeld t.bytes (slot_of t fbs.index_type) (table (type_slots (stored.Int int.Bits32 true)))
    → index_type_of t ≡ Ok indices
unfolding index_type_of
index_type-read t h =
    let r = subtable-read (type_slots (stored.Int int.Bits32 true)) t fbs.index_type h in
    rw (r.is, index-read (table_in t.bytes r.place) r.slots) refl

dense-read : (t : Table) → NodeHeld t.bytes (slot_of t fbs.dictionary_kind) (number 2 fbs.dense_array)
    → dense_of t ≡ Ok tt
unfolding dense_of short_of
dense-read t h = rw (signed-read w16 fbs.dense_array t fbs.dictionary_kind h) refl

encoding-read : (t : Table) (j : ℕ) → j < 2 ^ 63 → Held t.bytes (slot_of t) 0 (encoding_slots j)
    → encoding_of t ≡ Ok (own_encoding j)
unfolding encoding_of
encoding-read t j small h =
    rw (id-read t j small h.0, index_type-read t h.1.0, dense-read t h.1.1.1.0) refl

coded-read : (j : ℕ) → j < 2 ^ 63 → Encodes (table (encoding_slots j)) utf8 (Some (own_encoding j))
unfolding field_encoding_of
coded-read j small t h =
    let r = subtable-read (encoding_slots j) t fbs.dictionary h in
    rw (r.is, encoding-read (table_in t.bytes r.place) j small r.slots) refl

encodes-by : (b : Bool) (j : ℕ) (s : ColType) → j < 2 ^ 63 → (b ≡ true → s ≡ utf8)
    → Encodes (dictionary_node (if b then Some j else None)) s (if b then Some (own_encoding j) else None)
encodes-by false j s small is = plain-read s
encodes-by true j s small is =
    let P : ColType → Type 0 = λ u. Encodes (table (encoding_slots j)) u (Some (own_encoding j)) in
    subst P (sym (is refl)) (coded-read j small)

-- the fields of a vector that holds these are read as they are
abbrev pub Reads : (Vector → Reading (List (Rose Entry))) → Roses NamedType → Type 0
Reads below kids =
    (w : Vector) → w.count ≡ kids_count kids → Held w.bytes (element_place w.start) 0 (field_tables kids)
    → below w ≡ Ok (entries kids)

children-read :
    (below : Vector → Reading (List (Rose Entry))) (t : Table) (k : TypeKind) (kids : Roses NamedType)
    → may_have k (kids_count kids) ≡ true → Reads below kids
    → NodeHeld t.bytes (slot_of t fbs.children) (references (field_tables kids))
    → children_of below k t ≡ Ok (entries kids)
unfolding children_of
children-read below t k kids may reads h =
    let r = vector-read (field_tables kids) t fbs.children h in
    let v : Vector = record { bytes = t.bytes; start = r.start; count = count (field_tables kids) } in
    let counted : count (field_tables kids) ≡ kids_count kids = tables-count kids in
    let P : ℕ → Type 0 = λ n. may_have k n ≡ true in
    let may-read : may_have k (count (field_tables kids)) ≡ true = subst P (sym counted) may in
    let read : below v ≡ Ok (entries kids) = reads v counted r.elements in
    rw (r.is, may-read, read) refl

label-read :
    (t : Table) (x : Node) (f : NamedType) (kids : Roses NamedType) → length f.name ≤ max_name_len
    → is_utf8 f.name ≡ true
    → Held t.bytes (slot_of t) 0 (slots_with x f (field_tables kids)) → label_of t ≡ Ok (label f.name true)
unfolding label_of
label-read t x f kids short utf8 h = rw (name-read t f.name short utf8 h.0, bool-read t fbs.nullable h.1.0) refl

-- a field that lies before others, below one of type `p`, with this dictionary
content-read :
    (below : Vector → Reading (List (Rose Entry))) (t : Table) (x : Node) (e : Option DictionaryEncoding) (d : ℕ)
    (p : ColType) (f : NamedType) (kids fs : Roses NamedType)
    → Encodes x f.col_type e → Sound d p (more (node f kids) fs) → Reads below kids
    → Held t.bytes (slot_of t) 0 (slots_with x f (field_tables kids))
    → content_of below t ≡ Ok (content (storage f.col_type e) (entries kids))
unfolding content_of
content-read below t x e d p f kids fs encodes s reads h =
    let typed = type-is-read f.col_type s.within.0.1 t h.1.1.0 h.1.1.1.0 in
    rw (
      typed.0,
      typed.1,
      encodes t h.1.1.1.1.0,
      children-read below t (kind_of_type f.col_type) kids (may-have d p f kids fs s) reads h.1.1.1.1.1.0,
    ) refl

abbrev entry_with : NamedType → Option DictionaryEncoding → Roses NamedType → Rose Entry
entry_with f e kids =
    node (record { name = f.name; nullable = true; stored = f.col_type; encoding = e }) (stored_below kids)

field-read :
    (below : Vector → Reading (List (Rose Entry))) (t : Table) (x : Node) (e : Option DictionaryEncoding) (d : ℕ)
    (p : ColType) (f : NamedType) (kids fs : Roses NamedType)
    → Encodes x f.col_type e → Sound d p (more (node f kids) fs) → Reads below kids
    → Held t.bytes (slot_of t) 0 (slots_with x f (field_tables kids)) → field_of below t ≡ Ok (entry_with f e kids)
unfolding field_of
field-read below t x e d p f kids fs encodes s reads h =
    rw (
      label-read t x f kids s.within.0.0 s.logical.0.0 h,
      content-read below t x e d p f kids fs encodes s reads h,
      entries-below kids,
    ) refl

entry-by-read :
    (below : Vector → Reading (List (Rose Entry))) (v : Vector) (i : ℕ) (x : Node) (e : Option DictionaryEncoding)
    (d : ℕ) (p : ColType) (f : NamedType) (kids fs : Roses NamedType)
    → Encodes x f.col_type e → Sound d p (more (node f kids) fs) → Reads below kids
    → NodeHeld v.bytes (element_place v.start i) (table (slots_with x f (field_tables kids)))
    → entry_by below v i ≡ Ok (entry_with f e kids)
unfolding entry_by
entry-by-read below v i x e d p f kids fs encodes s reads h =
    let r = entry-read (slots_with x f (field_tables kids)) v i h in
    let found : entry_of v i ≡ Some (table_in v.bytes r.place) = cc (r.is) in
    rw (found, field-read below (table_in v.bytes r.place) x e d p f kids fs encodes s reads r.slots) refl

each-read :
    (below : Vector → Reading (List (Rose Entry))) (v : Vector) (i d : ℕ) (p : ColType) (fs : Roses NamedType)
    → ((q : ColType) (kids : Roses NamedType) → Sound d q kids → Reads below kids) → Sound (suc d) p fs
    → Held v.bytes (element_place v.start) i (field_tables fs)
    → each (entry_by below v) i (kids_count fs) ≡ Ok (entries fs)
unfolding each
each-read below v i d p none reads s h = refl
each-read below v i d p (more (node f kids) fs) reads s h =
    let mine =
    entry-by-read below v i absent None (suc d) p f kids fs (plain-read f.col_type) s
    (reads f.col_type kids (sound-below d p f kids fs s)) h.0 in
    let others = each-read below v (i + 1) d p fs reads (sound-rest (suc d) p f kids fs s) h.1 in
    rw (mine, others) refl

pub forest-read : (depth : ℕ) (p : ColType) (fs : Roses NamedType) → Sound depth p fs → Reads (forest depth) fs
unfolding forest
forest-read zero p none s w e h = rw e refl
forest-read zero p (more f fs) s w e h = absurd (no-level p f fs s)
forest-read (suc depth) p fs s w e h =
    let P : ℕ → Type 0 = λ n. each (entry_by (forest depth) w) 0 n ≡ Ok (entries fs) in
    subst P (sym e) (each-read (forest depth) w 0 depth p fs (forest-read depth) s h)

-- the columns from number j on, some of which have dictionaries
each-column-read :
    (coded : List ℕ) (j d : ℕ) (v : Vector) (p : ColType) (fs : List (Rose NamedType))
    → j + roses_size (kids_of fs) ≤ 2 ^ 32 → TextsFrom coded j fs → Sound (suc d) p (kids_of fs)
    → Held v.bytes (element_place v.start) j (column_tables coded j fs)
    → each (entry_by (forest d) v) j (kids_count (kids_of fs)) ≡ Ok (coded_from coded j fs)
unfolding each
each-column-read coded j d v p [] few texts s h = refl
each-column-read coded j d v p (node f kids ∷ fs) few texts s h =
    let mine =
    entry-by-read (forest d) v j (encoding_node coded j) (encoding_at coded j) (suc d) p f kids (kids_of fs)
    (encodes-by (is_coded coded j) j f.col_type (omega (arith, few)) texts.0) s
    (forest-read d f.col_type kids (sound-below d p f kids (kids_of fs) s)) h.0 in
    let next : j + 1 ≡ suc j = omega arith in
    let P : ℕ → Type 0 =
    λ k. Held v.bytes (element_place v.start) k (column_tables coded (suc j) fs) in
    let Q : ℕ → Type 0 =
    λ k. each (entry_by (forest d) v) k (kids_count (kids_of fs)) ≡ Ok (coded_from coded (suc j) fs) in
    let others =
    subst Q (sym next) (each-column-read coded (suc j) d v p fs (omega (arith, few)) texts.1
    (sound-rest (suc d) p f kids (kids_of fs) s) (subst P next h.1)) in
    rw (mine, others) refl

pub columns-forest-read :
    (coded : List ℕ) (d : ℕ) (p : ColType) (fs : List (Rose NamedType)) (w : Vector) → roses_size (kids_of fs) ≤ 2 ^ 32
    → TextsFrom coded 0 fs → Sound (suc d) p (kids_of fs) → w.count ≡ kids_count (kids_of fs)
    → Held w.bytes (element_place w.start) 0 (column_tables coded 0 fs)
    → forest (suc d) w ≡ Ok (coded_from coded 0 fs)
unfolding forest
columns-forest-read coded d p fs w few texts s e h =
    let P : ℕ → Type 0 = λ n. each (entry_by (forest d) w) 0 n ≡ Ok (coded_from coded 0 fs) in
    subst P (sym e) (each-column-read coded 0 d w p fs (omega (arith, few)) texts s h)

-- The count of fields.

abbrev pub Counts : (Vector → ℕ) → Roses NamedType → Type 0
Counts below kids =
    (w : Vector) → w.count ≡ kids_count kids → Held w.bytes (element_place w.start) 0 (field_tables kids)
    → below w ≡ roses_size kids

child-read :
    (v : Vector) (i : ℕ) (x : Node) (d : ℕ) (p : ColType) (f : NamedType) (kids fs : Roses NamedType)
    → Sound d p (more (node f kids) fs)
    → NodeHeld v.bytes (element_place v.start i) (table (slots_with x f (field_tables kids)))
    → (w : Vector) × (child_at v i ≡ Some w) × (w.count ≡ kids_count kids)
    × Held w.bytes (element_place w.start) 0 (field_tables kids)
unfolding child_at
child-read v i x d p f kids fs s h =
    let r = entry-read (slots_with x f (field_tables kids)) v i h in
    let t : Table = table_in v.bytes r.place in
    let found : entry_of v i ≡ Some (table_in v.bytes r.place) = cc (r.is) in
    let slots = r.slots in
    let typed = type-is-read f.col_type s.within.0.1 t slots.1.1.0 slots.1.1.1.0 in
    let c = vector-read (field_tables kids) t fbs.children slots.1.1.1.1.1.0 in (
      record { bytes = v.bytes; start = c.start; count = count (field_tables kids) },
      rw (found, typed.0, c.is) refl,
      tables-count kids,
      c.elements,
    )

sum-read :
    (below : Vector → ℕ) (v : Vector) (i d : ℕ) (p : ColType) (fs : Roses NamedType)
    → ((q : ColType) (kids : Roses NamedType) → Sound d q kids → Counts below kids) → Sound (suc d) p fs
    → Held v.bytes (element_place v.start) i (field_tables fs)
    → kids_count fs + sum_from (total_at below v) i (kids_count fs) ≡ roses_size fs
unfolding sum_from total_at
sum-read below v i d p none counts s h = refl
sum-read below v i d p (more (node f kids) fs) counts s h =
    let c = child-read v i absent (suc d) p f kids fs s h.0 in
    let mine = counts f.col_type kids (sound-below d p f kids fs s) c.0 c.2 c.3 in
    let others = sum-read below v (i + 1) d p fs counts (sound-rest (suc d) p f kids fs s) h.1 in
    rw (c.1, mine) omega (arith, others)

pub total-read : (depth : ℕ) (p : ColType) (fs : Roses NamedType) → Sound depth p fs → Counts (total depth) fs
unfolding total
total-read zero p none s w e h = refl
total-read zero p (more f fs) s w e h = absurd (no-level p f fs s)
total-read (suc depth) p fs s w e h =
    let P : ℕ → Type 0 = λ n. n + sum_from (total_at (total depth) w) 0 n ≡ roses_size fs in
    subst P (sym e) (sum-read (total depth) w 0 depth p fs (total-read depth) s h)

sum-columns-read :
    (coded : List ℕ) (v : Vector) (j d : ℕ) (p : ColType) (fs : List (Rose NamedType)) → Sound (suc d) p (kids_of fs)
    → Held v.bytes (element_place v.start) j (column_tables coded j fs)
    → kids_count (kids_of fs) + sum_from (total_at (total d) v) j (kids_count (kids_of fs)) ≡ roses_size (kids_of fs)
unfolding sum_from total_at
sum-columns-read coded v j d p [] s h = refl
sum-columns-read coded v j d p (node f kids ∷ fs) s h =
    let c = child-read v j (encoding_node coded j) (suc d) p f kids (kids_of fs) s h.0 in
    let mine = total-read d f.col_type kids (sound-below d p f kids (kids_of fs) s) c.0 c.2 c.3 in
    let next : j + 1 ≡ suc j = omega arith in
    let P : ℕ → Type 0 =
    λ k. Held v.bytes (element_place v.start) k (column_tables coded (suc j) fs) in
    let Q : ℕ → Type 0 =
    λ k. kids_count (kids_of fs) + sum_from (total_at (total d) v) k (kids_count (kids_of fs))
    ≡ roses_size (kids_of fs) in
    let others =
    subst Q (sym next) (sum-columns-read coded v (suc j) d p fs (sound-rest (suc d) p f kids (kids_of fs) s)
    (subst P next h.1)) in
    rw (c.1, mine) omega (arith, others)

pub columns-total-read :
    (coded : List ℕ) (d : ℕ) (p : ColType) (fs : List (Rose NamedType)) (w : Vector) → Sound (suc d) p (kids_of fs)
    → w.count ≡ kids_count (kids_of fs) → Held w.bytes (element_place w.start) 0 (column_tables coded 0 fs)
    → total (suc d) w ≡ roses_size (kids_of fs)
unfolding total
columns-total-read coded d p fs w s e h =
    let P : ℕ → Type 0 = λ n. n + sum_from (total_at (total d) w) 0 n ≡ roses_size (kids_of fs) in
    subst P (sym e) (sum-columns-read coded w 0 d p fs s h)
