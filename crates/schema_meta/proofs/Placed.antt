-- The arrays of a batch whose header fits its schema and its body.
use Rattle.std.proofs.Common.{
  ◌≡◌,
  ℕ,
  suc,
  ℤ,
  pos,
  List,
  ◌+◌,
  ◌<◌,
  ◌≤◌,
  true,
  ◌&&◌,
  length,
  All,
  Some,
  None,
  Option,
  slice_get,
  get_or,
  unwrap_or,
  refl,
  ap,
  sym,
  subst,
  arith,
}
use Rattle.std.specs.Prelude.{nat_le, ◌==◌}
use Rattle.std.proofs.lemmas.Bool.{and_parts, leb-true}
use Rattle.std.proofs.lemmas.Bool.Decides.{nat_tests}
use Rattle.std.proofs.lemmas.List.Elements.{All-get_or}
use Rattle.std.proofs.lemmas.Option.{slice_get_within, get_or_from_slice_get}
use Rattle.values.specs.Limits.{max_node_length}
use Rattle.values.specs.Rose.{Rose, node, Roses, none, more, kids_of, rose_size}
use Rattle.values.specs.Datum.{Datum}
use Rattle.values.specs.Layouts.{IsNode, IsLayout, AreLayouts}
use Rattle.values.specs.declared.layout.Layout.{Layout}
use Rattle.values.specs.declared.layout.Layout.TheVariants.{
  Bool as Booleans,
  Int,
  Decimal,
  FixedSizeBinary,
  Utf8,
  Binary,
  List as Listed,
  Struct,
}
use Rattle.array_layout.specs.declared.array.FieldNode.{FieldNode}
use Rattle.array_layout.specs.declared.array.BufferRange.{BufferRange}
use Rattle.array_layout.specs.Placing.{
  nowhere,
  node_at,
  range_at,
  offsets_at,
  values_at,
  placed,
  placed_all,
  own_ranges,
  ranges_in,
  layout_by,
  layout_of,
  layouts_of,
}
use Rattle.array_layout.specs.declared.array.ArrayData.{ArrayData}
use Rattle.array_layout.specs.Typed.{IsTypedDictionary, IsTyped, AreTyped}
use Rattle.values.specs.ColTypes.{layout_of as layout_of_type}
use Rattle.field_types.specs.StoredLaws.{kids_count}
use Rattle.values.specs.declared.col_type.ColType.{ColType}
use Rattle.schema_meta.proofs.OneType.{known-type}
use Rattle.array_layout.specs.Sound.{LiesIn, AreLong, IsPlaced, ArePlaced}
use Rattle.schema_meta.specs.Batch.{least, is_long, are_long, columns_fit, lengths_fit}
use Rattle.schema_meta.specs.declared.encoding.DictionaryEncoding.{DictionaryEncoding}
use Rattle.schema_meta.specs.Dictionaries.{own_agrees, agrees, agree, value_type, are_consistent}
use Rattle.schema_meta.specs.DictionaryBatch.{value_layout, value_layouts}
use Rattle.schema_meta.specs.Entry.{Entry}
use Rattle.schema_meta.specs.FieldLayouts.{
  layout_of as layout_of_field,
  layouts_below,
  slot_layout,
  slot_layout_of,
  slot_layouts_below,
}
use Rattle.schema_meta.specs.Parts.{dictionary_values, decoded, decoded_all, arrays_of, values_array}
use Rattle.schema_meta.specs.PlaceLaw.{HaveLength, PlaceLaw, AreValues, TypedArraysLaw, SameArraysLaw, ValuesLaw}

-- the layouts of the arrays are those by which their buffers were found
mutual
  tree-same : (nodes : List FieldNode) (ranges : List BufferRange) (n b : ℕ) (t : Rose Layout)
      → layout_of (placed nodes ranges n b t) ≡ t
  tree-same nodes ranges n b (node l kids) =
      ap (λ ts. node l ts) (trees-same nodes ranges (n + 1) (b + own_ranges l) kids)

  trees-same : (nodes : List FieldNode) (ranges : List BufferRange) (n b : ℕ) (ts : Roses Layout)
      → layouts_of (placed_all nodes ranges n b ts) ≡ ts
  trees-same nodes ranges n b none = refl
  trees-same nodes ranges n b (more t ts) =
      let here = tree-same nodes ranges n b t in
      let rest = trees-same nodes ranges (n + rose_size t) (b + ranges_in t) ts in
      rw (here, rest) refl

-- every buffer lies in the body
abbrev Within : List ℕ → List BufferRange → Type 0
Within body ranges = All (λ s. s.from + s.len ≤ length body) ranges

range-lies : (body : List ℕ) (ranges : List BufferRange) (b : ℕ) → Within body ranges → LiesIn body (range_at ranges b)
range-lies body ranges b all = by_place (slice_get ranges b) refl where
  by_place : (o : Option BufferRange) → slice_get ranges b ≡ o → LiesIn body (unwrap_or o nowhere)
  by_place None e = omega arith
  by_place (Some s) e =
      let inside : b < length ranges = slice_get_within ranges b s e in
      let here : get_or ranges b s ≡ s = get_or_from_slice_get ranges b s s e in
      let P : BufferRange → Type 0 = λ x. x.from + x.len ≤ length body in
      subst P here (All-get_or P ranges b s inside all)

offsets-lie : (body : List ℕ) (ranges : List BufferRange) (b : ℕ) (l : Layout) → Within body ranges
    → LiesIn body (offsets_at l ranges b)
offsets-lie body ranges b Booleans all = omega arith
offsets-lie body ranges b (Int w s) all = omega arith
offsets-lie body ranges b (Decimal p) all = omega arith
offsets-lie body ranges b (FixedSizeBinary w) all = omega arith
offsets-lie body ranges b (Utf8 o) all = range-lies body ranges (b + 1) all
offsets-lie body ranges b (Binary o) all = range-lies body ranges (b + 1) all
offsets-lie body ranges b (Listed o) all = range-lies body ranges (b + 1) all
offsets-lie body ranges b Struct all = omega arith

values-lie : (body : List ℕ) (ranges : List BufferRange) (b : ℕ) (l : Layout) → Within body ranges
    → LiesIn body (values_at l ranges b)
values-lie body ranges b Booleans all = range-lies body ranges (b + 1) all
values-lie body ranges b (Int w s) all = range-lies body ranges (b + 1) all
values-lie body ranges b (Decimal p) all = range-lies body ranges (b + 1) all
values-lie body ranges b (FixedSizeBinary w) all = range-lies body ranges (b + 1) all
values-lie body ranges b (Utf8 o) all = range-lies body ranges (b + 2) all
values-lie body ranges b (Binary o) all = range-lies body ranges (b + 2) all
values-lie body ranges b (Listed o) all = omega arith
values-lie body ranges b Struct all = omega arith

-- every length is small
abbrev Small : List FieldNode → Type 0
Small nodes = All (λ n. n.length ≤ max_node_length) nodes

node-small : (nodes : List FieldNode) (n : ℕ) → Small nodes → (node_at nodes n).length ≤ max_node_length
node-small nodes n all = by_place (slice_get nodes n) refl where
  by_place : (o : Option FieldNode) → slice_get nodes n ≡ o
      → (unwrap_or o (record { length = 0; nulls = pos 0 })).length ≤ max_node_length
  by_place None e = omega arith
  by_place (Some m) e =
      let inside : n < length nodes = slice_get_within nodes n m e in
      let here : get_or nodes n m ≡ m = get_or_from_slice_get nodes n m m e in
      let P : FieldNode → Type 0 = λ x. x.length ≤ max_node_length in
      subst P here (All-get_or P nodes n m inside all)

-- what is long enough
floor-is : (nodes : List FieldNode) (n floor : ℕ) (t : Rose Layout) → is_long nodes n floor t ≡ true
    → floor ≤ (node_at nodes n).length
floor-is nodes n floor (node l kids) long =
    let parts = and_parts (nat_le floor (node_at nodes n).length) _ long in
    leb-true floor (node_at nodes n).length parts.0

struct-long :
    (nodes : List FieldNode) (ranges : List BufferRange) (m b len : ℕ) (ts : Roses Layout)
    → are_long nodes m len ts ≡ true
    → AreLong Struct len (placed_all nodes ranges m b ts)
struct-long nodes ranges m b len none long = tt
struct-long nodes ranges m b len (more (node l kids) ts) long =
    let parts =
    and_parts (is_long nodes m len (node l kids)) (are_long nodes (m + rose_size (node l kids)) len ts) long in (
      floor-is nodes m len (node l kids) parts.0,
      struct-long nodes ranges (m + rose_size (node l kids)) (b + ranges_in (node l kids)) len ts parts.1,
    )

long-by :
    (nodes : List FieldNode) (ranges : List BufferRange) (m b len : ℕ) (l : Layout) (ts : Roses Layout)
    → are_long nodes m (least l len) ts ≡ true
    → AreLong l len (placed_all nodes ranges m b ts)
long-by nodes ranges m b len Booleans ts long = tt
long-by nodes ranges m b len (Int w s) ts long = tt
long-by nodes ranges m b len (Decimal p) ts long = tt
long-by nodes ranges m b len (FixedSizeBinary w) ts long = tt
long-by nodes ranges m b len (Utf8 o) ts long = tt
long-by nodes ranges m b len (Binary o) ts long = tt
long-by nodes ranges m b len (Listed o) ts long = tt
long-by nodes ranges m b len Struct ts long = struct-long nodes ranges m b len ts long

mutual
  array-placed :
      (body : List ℕ) (nodes : List FieldNode) (ranges : List BufferRange) (n b floor : ℕ) (t : Rose Layout)
      → Small nodes → Within body ranges → IsLayout t
      → is_long nodes n floor t ≡ true → IsPlaced body (placed nodes ranges n b t)
  array-placed body nodes ranges n b floor (node l kids) small within layout long =
      let len : ℕ = (node_at nodes n).length in
      let parts = and_parts (nat_le floor len) (are_long nodes (n + 1) (least l len) kids) long in
      let P : Roses Layout → Type 0 = λ ts. IsNode l ts in (
        record {
          validity = range-lies body ranges b within;
          offsets = offsets-lie body ranges b l within;
          values = values-lie body ranges b l within;
          small = node-small nodes n small;
          kids_fit = subst P (sym (trees-same nodes ranges (n + 1) (b + own_ranges l) kids)) layout.0;
        },
        long-by nodes ranges (n + 1) (b + own_ranges l) len l kids parts.1,
        arrays-placed body nodes ranges (n + 1) (b + own_ranges l) (least l len) kids small within layout.1 parts.1,
      )

  arrays-placed :
      (body : List ℕ) (nodes : List FieldNode) (ranges : List BufferRange) (n b floor : ℕ) (ts : Roses Layout)
      → Small nodes → Within body ranges
      → AreLayouts ts → are_long nodes n floor ts ≡ true → ArePlaced body (placed_all nodes ranges n b ts)
  arrays-placed body nodes ranges n b floor none small within layouts long = tt
  arrays-placed body nodes ranges n b floor (more t ts) small within layouts long =
      let parts = and_parts (is_long nodes n floor t) (are_long nodes (n + rose_size t) floor ts) long in (
        array-placed body nodes ranges n b floor t small within layouts.0 parts.0,
        arrays-placed body nodes ranges (n + rose_size t) (b + ranges_in t) floor ts small within layouts.1 parts.1,
      )

equal : (a b : ℕ) → (a == b) ≡ true → a ≡ b
equal a b e = grind (arith, nat_tests, e)

columns-placed :
    (body : List ℕ) (nodes : List FieldNode) (ranges : List BufferRange) (n b rows : ℕ) (ts : Roses Layout)
    → Small nodes → Within body ranges
    → AreLayouts ts → columns_fit nodes n rows ts ≡ true
    → ArePlaced body (placed_all nodes ranges n b ts) × HaveLength rows (placed_all nodes ranges n b ts)
columns-placed body nodes ranges n b rows none small within layouts fit = (tt, tt)
columns-placed body nodes ranges n b rows (more (node l kids) ts) small within layouts fit =
    let t : Rose Layout = node l kids in
    let parts =
    and_parts ((node_at nodes n).length == rows) (is_long nodes n rows t
    && columns_fit nodes (n + rose_size t) rows ts) fit in
    let others = and_parts (is_long nodes n rows t) (columns_fit nodes (n + rose_size t) rows ts) parts.1 in
    let rest =
    columns-placed body nodes ranges (n + rose_size t) (b + ranges_in t) rows ts small within layouts.1 others.1 in (
      (array-placed body nodes ranges n b rows t small within layouts.0 others.0, rest.0),
      (equal (node_at nodes n).length rows parts.0, rest.1),
    )

-- Fields say which of these arrays have dictionaries, and nothing else changes.

abbrev slots_placed : List FieldNode → List BufferRange → ℕ → ℕ → Roses Entry → Roses ArrayData
slots_placed nodes ranges n b fs = placed_all nodes ranges n b (slot_layouts_below fs)

own-values : (values : ℤ → List Datum) (c : Option DictionaryEncoding) (s : ColType)
    → layout_by (dictionary_values values c s) (slot_layout c s) ≡ layout_of_type s
own-values values None s = refl
own-values values (Some c) s = refl

mutual
  array-values :
      (values : ℤ → List Datum) (nodes : List FieldNode) (ranges : List BufferRange) (n b : ℕ) (f : Rose Entry)
      → layout_of (decoded values f (placed nodes ranges n b (slot_layout_of f))) ≡ layout_of_field f
  array-values values nodes ranges n b (node e fs) =
      rw (
        own-values values e.encoding e.stored,
        arrays-values values nodes ranges (n + 1) (b + own_ranges (slot_layout e.encoding e.stored)) fs,
      ) refl

  arrays-values :
      (values : ℤ → List Datum) (nodes : List FieldNode) (ranges : List BufferRange) (n b : ℕ) (fs : Roses Entry)
      → layouts_of (decoded_all values fs (slots_placed nodes ranges n b fs)) ≡ layouts_below fs
  arrays-values values nodes ranges n b none = refl
  arrays-values values nodes ranges n b (more f fs) =
      let t : Rose Layout = slot_layout_of f in
      rw (
        array-values values nodes ranges n b f,
        arrays-values values nodes ranges (n + rose_size t) (b + ranges_in t) fs,
      ) refl

-- A node is right for any children of the same number.
node-fits : (l : Layout) (ks ls : Roses Layout) → kids_count ks ≡ kids_count ls → IsNode l ks → IsNode l ls
node-fits l none none e h = h
node-fits l none (more t ts) e h = absurd (cc)
node-fits l (more t ts) none e h = absurd (cc)
node-fits Booleans (more t ts) (more u us) e h = h
node-fits (Int w s) (more t ts) (more u us) e h = h
node-fits (Decimal p) (more t ts) (more u us) e h = h
node-fits (FixedSizeBinary w) (more t ts) (more u us) e h = h
node-fits (Utf8 o) (more t ts) (more u us) e h = h
node-fits (Binary o) (more t ts) (more u us) e h = h
node-fits (Listed o) (more t none) (more u none) e h = tt
node-fits (Listed o) (more t none) (more u (more v vs)) e h = absurd (cc)
node-fits (Listed o) (more t (more v vs)) (more u us) e h = absurd h
node-fits Struct (more t ts) (more u us) e h = tt

slots-count : (fs : Roses Entry) → kids_count (slot_layouts_below fs) ≡ kids_count (layouts_below fs)
slots-count none = refl
slots-count (more f fs) = ap suc (slots-count fs)

node-decoded :
    (values : ℤ → List Datum) (nodes : List FieldNode) (ranges : List BufferRange) (n b : ℕ) (l : Layout)
    (fs : Roses Entry)
    → IsNode l (layouts_of (slots_placed nodes ranges n b fs))
    → IsNode l (layouts_of (decoded_all values fs (slots_placed nodes ranges n b fs)))
node-decoded values nodes ranges n b l fs h =
    let P : Roses Layout → Type 0 = λ ls. IsNode l ls in
    let slots : IsNode l (slot_layouts_below fs) = subst P (trees-same nodes ranges n b (slot_layouts_below fs)) h in
    subst P (sym (arrays-values values nodes ranges n b fs))
    (node-fits l (slot_layouts_below fs) (layouts_below fs) (slots-count fs) slots)

struct-decoded :
    (values : ℤ → List Datum) (nodes : List FieldNode) (ranges : List BufferRange) (n b len : ℕ) (fs : Roses Entry)
    → AreLong Struct len (slots_placed nodes ranges n b fs)
    → AreLong Struct len (decoded_all values fs (slots_placed nodes ranges n b fs))
struct-decoded values nodes ranges n b len none h = tt
struct-decoded values nodes ranges n b len (more (node e kids) fs) h =
    let t : Rose Layout = slot_layout_of (node e kids) in
    (h.0, struct-decoded values nodes ranges (n + rose_size t) (b + ranges_in t) len fs h.1)

long-decoded :
    (values : ℤ → List Datum) (nodes : List FieldNode) (ranges : List BufferRange) (n b len : ℕ) (l : Layout)
    (fs : Roses Entry)
    → AreLong l len (slots_placed nodes ranges n b fs)
    → AreLong l len (decoded_all values fs (slots_placed nodes ranges n b fs))
long-decoded values nodes ranges n b len Booleans fs h = tt
long-decoded values nodes ranges n b len (Int w s) fs h = tt
long-decoded values nodes ranges n b len (Decimal p) fs h = tt
long-decoded values nodes ranges n b len (FixedSizeBinary w) fs h = tt
long-decoded values nodes ranges n b len (Utf8 o) fs h = tt
long-decoded values nodes ranges n b len (Binary o) fs h = tt
long-decoded values nodes ranges n b len (Listed o) fs h = tt
long-decoded values nodes ranges n b len Struct fs h = struct-decoded values nodes ranges n b len fs h

mutual
  array-decoded :
      (values : ℤ → List Datum) (body : List ℕ) (nodes : List FieldNode) (ranges : List BufferRange) (n b : ℕ)
      (f : Rose Entry)
      → IsPlaced body (placed nodes ranges n b (slot_layout_of f))
      → IsPlaced body (decoded values f (placed nodes ranges n b (slot_layout_of f)))
  array-decoded values body nodes ranges n b (node e fs) h =
      let l : Layout = slot_layout e.encoding e.stored in
      let m : ℕ = b + own_ranges l in (
        record {
          validity = h.0.validity;
          offsets = h.0.offsets;
          values = h.0.values;
          small = h.0.small;
          kids_fit = node-decoded values nodes ranges (n + 1) m l fs h.0.kids_fit;
        },
        long-decoded values nodes ranges (n + 1) m (node_at nodes n).length l fs h.1,
        arrays-decoded values body nodes ranges (n + 1) m fs h.2,
      )

  arrays-decoded :
      (values : ℤ → List Datum) (body : List ℕ) (nodes : List FieldNode) (ranges : List BufferRange) (n b : ℕ)
      (fs : Roses Entry)
      → ArePlaced body (slots_placed nodes ranges n b fs)
      → ArePlaced body (decoded_all values fs (slots_placed nodes ranges n b fs))
  arrays-decoded values body nodes ranges n b none h = tt
  arrays-decoded values body nodes ranges n b (more f fs) h =
      let t : Rose Layout = slot_layout_of f in (
        array-decoded values body nodes ranges n b f h.0,
        arrays-decoded values body nodes ranges (n + rose_size t) (b + ranges_in t) fs h.1,
      )

length-decoded :
    (values : ℤ → List Datum) (nodes : List FieldNode) (ranges : List BufferRange) (n b rows : ℕ) (fs : Roses Entry)
    → HaveLength rows (slots_placed nodes ranges n b fs)
    → HaveLength rows (decoded_all values fs (slots_placed nodes ranges n b fs))
length-decoded values nodes ranges n b rows none h = tt
length-decoded values nodes ranges n b rows (more (node e kids) fs) h =
    let t : Rose Layout = slot_layout_of (node e kids) in
    (h.0, length-decoded values nodes ranges (n + rose_size t) (b + ranges_in t) rows fs h.1)

pub place-law : PlaceLaw
unfolding arrays_of lengths_fit
place-law values fields body head fits =
    let fs : Roses Entry = kids_of fields in
    let both =
    columns-placed body head.nodes head.ranges 0 0 head.rows (slot_layouts_below fs) fits.small fits.within
    fits.layouts fits.lengths in (
      arrays-decoded values body head.nodes head.ranges 0 0 fs both.0,
      length-decoded values head.nodes head.ranges 0 0 head.rows fs both.1,
      arrays-values values head.nodes head.ranges 0 0 fs,
    )

pub values-law : ValuesLaw
unfolding values_array lengths_fit
values-law s body head fits =
    let both =
    columns-placed body head.nodes head.ranges 0 0 head.rows (value_layouts s) fits.small fits.within fits.layouts
    fits.lengths in
    (both.0.0, (tt, tt), both.1.0, tree-same head.nodes head.ranges 0 0 (value_layout s))

-- The values of dictionaries are of the types of the fields that have them.

own-typed :
    (values : ℤ → List Datum) (fields : List (Rose Entry)) (c : Option DictionaryEncoding) (s : ColType)
    → AreValues fields values
    → own_agrees (value_type fields) c s ≡ true → IsTypedDictionary (dictionary_values values c s)
own-typed values fields None s are e = tt
own-typed values fields (Some c) s are e = are c.id s (known-type s (value_type fields c.id) e)

mutual
  array-typed :
      (values : ℤ → List Datum) (fields : List (Rose Entry)) (f : Rose Entry) (t : Rose ArrayData)
      → AreValues fields values
      → agrees (value_type fields) f ≡ true → IsTyped (decoded values f t)
  array-typed values fields (node e fs) (node p ps) are h =
      let parts = and_parts (own_agrees (value_type fields) e.encoding e.stored) (agree (value_type fields) fs) h in
      (own-typed values fields e.encoding e.stored are parts.0, arrays-typed values fields fs ps are parts.1)

  arrays-typed :
      (values : ℤ → List Datum) (fields : List (Rose Entry)) (fs : Roses Entry) (ts : Roses ArrayData)
      → AreValues fields values
      → agree (value_type fields) fs ≡ true → AreTyped (decoded_all values fs ts)
  arrays-typed values fields none ts are h = tt
  arrays-typed values fields (more f fs) none are h = tt
  arrays-typed values fields (more f fs) (more t ts) are h =
      let parts = and_parts (agrees (value_type fields) f) (agree (value_type fields) fs) h in
      (array-typed values fields f t are parts.0, arrays-typed values fields fs ts are parts.1)

pub dictionary-law : TypedArraysLaw
unfolding arrays_of are_consistent
dictionary-law values fields head known are =
    arrays-typed values fields (kids_of fields) (slots_placed head.nodes head.ranges 0 0 (kids_of fields)) are
    known.clear

own-same : (values others : ℤ → List Datum) (c : Option DictionaryEncoding) (s : ColType)
    → ((id : ℤ) → values id ≡ others id)
    → dictionary_values values c s ≡ dictionary_values others c s
own-same values others None s same = refl
own-same values others (Some c) s same = ap (λ vs. Some (record { layout = layout_of_type s; values = vs })) (same c.id)

mutual
  array-same :
      (values others : ℤ → List Datum) (f : Rose Entry) (t : Rose ArrayData) → ((id : ℤ) → values id ≡ others id)
      → decoded values f t ≡ decoded others f t
  array-same values others (node e fs) (node p ps) same =
      rw (own-same values others e.encoding e.stored same, arrays-same values others fs ps same) refl

  arrays-same :
      (values others : ℤ → List Datum) (fs : Roses Entry) (ts : Roses ArrayData) → ((id : ℤ) → values id ≡ others id)
      → decoded_all values fs ts ≡ decoded_all others fs ts
  arrays-same values others none ts same = refl
  arrays-same values others (more f fs) none same = refl
  arrays-same values others (more f fs) (more t ts) same =
      rw (array-same values others f t same, arrays-same values others fs ts same) refl

pub same-dictionary : SameArraysLaw
unfolding arrays_of
same-dictionary values others fields head same =
    arrays-same values others (kids_of fields) (slots_placed head.nodes head.ranges 0 0 (kids_of fields)) same
