-- What is known of fields that were read: how many they are, and that each has the children that its layout requires.
use Rattle.std.proofs.Common.{
  ◌≡◌,
  ℕ,
  zero,
  suc,
  ◌+◌,
  ◌≤◌,
  Bool,
  true,
  false,
  List,
  [],
  ◌∷◌,
  length,
  Option,
  None,
  Some,
  Ok,
  Err,
  refl,
  ap,
  sym,
  subst,
  ◌∙◌,
  arith,
}
use Rattle.std.specs.Prelude.{nat_le, ◌==◌, ◌&&◌, if◌then◌else◌}
use Rattle.std.proofs.lemmas.Bool.{and_parts, leb-true}
use Rattle.std.proofs.lemmas.Bool.Decides.{nat_tests}
use Rattle.flatbuf.specs.Layout.{Table, Vector, text_of, subtable_of, vector_of, entry_of}
use Rattle.values.specs.Limits.{max_fields, max_depth, max_name_len}
use Rattle.values.specs.Reading.{Reading, ◌>>=◌, both, second, mapped, each, one, cons}
use Rattle.values.specs.declared.faults.StreamFault.TheVariants as fault
use Rattle.values.specs.Rose.{Rose, node, Roses, none, more, kids_of, rose_size, roses_size, rose_depth, roses_depth}
use Rattle.values.specs.Layouts.{IsNode, IsLayout, AreLayouts}
use Rattle.values.specs.declared.layout.IntWidth.{IntWidth}
use Rattle.values.specs.declared.layout.Layout.{Layout}
use Rattle.values.specs.declared.layout.Layout.TheVariants.{Int}
use Rattle.values.proofs.Readings.{both_Ok, bind_Ok, mapped_Ok, must_Ok}
use Rattle.schema_meta.specs.Entry.{Entry}
use Rattle.values.specs.ColTypes.{IsSingle, layout_of as layout_by}
use Rattle.field_types.specs.Kinds.{kind_of_type, kind_of, may_have}
use Rattle.values.specs.declared.col_type.ColType.TheVariants as stored
use Rattle.field_types.specs.StoredLaws.{kids_count}
use Rattle.field_types.proofs.TypeFacts.{read-is-type}
use Rattle.field_types.proofs.Children.{children-fit}
use Rattle.schema_meta.specs.FieldLayouts.{
  layout_of,
  layouts_of,
  slot_layout,
  slot_layout_of,
  slot_layouts_of,
  null_weights_fit,
}
use Rattle.schema_meta.specs.declared.encoding.DictionaryEncoding.{DictionaryEncoding}
use Rattle.schema_meta.specs.Dictionaries.{are_consistent}
use Rattle.schema_meta.specs.Encoding.{field_encoding_of, coded_by, encoding_of, may_be_encoded}
use Rattle.schema_meta.specs.FieldsLaw.{AreFields, FieldsLaw, IsDictionaryType, IsGoodField, AreGoodFields}
use Rattle.std.specs.Str.{is_utf8}
use Rattle.std.proofs.lemmas.Str.{is_utf8-from_IsUtf8, IsUtf8-from_ascii}
use Rattle.field_types.specs.SchemaFbs as fbs
use Rattle.field_types.specs.declared.kinds.TypeKind.{TypeKind}
use Rattle.values.specs.declared.col_type.ColType.{ColType}
use Rattle.field_types.specs.Reads.{readable, needs, checked, bool_of}
use Rattle.field_types.specs.Types.{type_of}
use Rattle.schema_meta.specs.Fields.{
  Label,
  label,
  label_of,
  name_in,
  name_of,
  Storage,
  storage,
  Content,
  content,
  content_of,
  field,
  field_of,
  children_of,
  count_in,
  fields_in,
  entry_by,
  child_at,
  forest,
}
use Rattle.schema_meta.specs.Totals.{sum_from, total, total_at, total_in}
use Rattle.schema_meta.specs.Schema.{columns_of, endianness_of, schema_of, validated_fields}
use Rattle.schema_meta.proofs.Faults.{needed, passed}

-- the children that a kind may have are those that the layouts of its types require

kids_of_all : (kids : List (Rose Entry)) → kids_count (layouts_of kids) ≡ length kids
kids_of_all [] = refl
kids_of_all (node e below ∷ kids) = ap suc (kids_of_all kids)

slots_of_all : (kids : List (Rose Entry)) → kids_count (slot_layouts_of kids) ≡ length kids
slots_of_all [] = refl
slots_of_all (node e below ∷ kids) = ap suc (slots_of_all kids)

fit_node :
    (k : TypeKind) (t : Table) (s : ColType) (kids : Roses Layout) → type_of k t ≡ Ok s
    → may_have k (kids_count kids) ≡ true
    → IsNode (layout_by s) kids
fit_node k t s kids read may =
    let is = read-is-type k t s read in
    let P : TypeKind → Type 0 = λ j. may_have j (kids_count kids) ≡ true in
    (children-fit s is.0 kids).1 (subst P (sym is.1) may)

-- lists and structs have no dictionary
single : (s : ColType) → may_be_encoded (kind_of_type s) ≡ true → IsSingle s
single stored.Bool e = tt
single (stored.Int w s) e = tt
single (stored.Decimal p s) e = tt
single (stored.Date u) e = tt
single (stored.Time u) e = tt
single (stored.Timestamp u z) e = tt
single (stored.Duration u) e = tt
single (stored.Utf8 o) e = tt
single (stored.Binary o) e = tt
single (stored.FixedSizeBinary w) e = tt
single (stored.List o) e = absurd (cc)
single stored.Struct e = absurd (cc)

coded_valid : (k : TypeKind) (o : Option Table) (s : ColType) (c : Option DictionaryEncoding) → coded_by k o ≡ Ok c
    → kind_of_type s ≡ k → IsDictionaryType c s
coded_valid k None s c e is = let none : None ≡ c = cc in let P : Option DictionaryEncoding
    → Type 0 = λ d. IsDictionaryType d s in subst P none tt
coded_valid k (Some t) s c e is =
    let parts = both_Ok second (needs fault.UnsupportedType (may_be_encoded k)) (mapped Some (encoding_of t)) c e in
    let may = needed fault.UnsupportedType (may_be_encoded k) parts.0 parts.2 in
    let made = mapped_Ok Some (encoding_of t) parts.1 parts.3 in
    let P : Option DictionaryEncoding → Type 0 = λ d. IsDictionaryType d s in
    let Q : TypeKind → Type 0 = λ j. may_be_encoded j ≡ true in
    subst P (made.2 ∙ parts.4) (single s (subst Q (sym is) may))

encoding_valid : (k : TypeKind) (t : Table) (s : ColType) (c : Option DictionaryEncoding) → field_encoding_of k t ≡ Ok c
    → kind_of_type s ≡ k → IsDictionaryType c s
unfolding field_encoding_of
encoding_valid k t s c e is =
    let read = bind_Ok (readable (subtable_of t fbs.dictionary)) (coded_by k) c e in coded_valid k read.0 s c read.2 is

-- indices have no children, nor have the values to which they refer
single_node : (s : ColType) (w : IntWidth) (b : Bool) (kids : Roses Layout) → IsSingle s → IsNode (layout_by s) kids
    → IsNode (Int w b) kids
single_node s w b none is h = tt
single_node stored.Bool w b (more t ts) is h = h
single_node (stored.Int v s) w b (more t ts) is h = h
single_node (stored.Decimal p s) w b (more t ts) is h = h
single_node (stored.Date u) w b (more t ts) is h = h
single_node (stored.Time u) w b (more t ts) is h = h
single_node (stored.Timestamp u z) w b (more t ts) is h = h
single_node (stored.Duration u) w b (more t ts) is h = h
single_node (stored.Utf8 o) w b (more t ts) is h = h
single_node (stored.Binary o) w b (more t ts) is h = h
single_node (stored.FixedSizeBinary v) w b (more t ts) is h = h
single_node (stored.List o) w b (more t ts) is h = absurd is
single_node stored.Struct w b (more t ts) is h = absurd is

slot_node : (c : Option DictionaryEncoding) (s : ColType) (kids : Roses Layout) → IsDictionaryType c s
    → IsNode (layout_by s) kids → IsNode (slot_layout c s) kids
slot_node None s kids is h = h
slot_node (Some c) s kids is h = single_node s c.index.width c.index.signed kids is h

-- what is known of the fields of a vector that was read: their number, with those below them and without, and their
-- depth
pub record AreKnown (n total depth : ℕ) (fs : List (Rose Entry)) : Type 0 where
  pub long : length fs ≡ n
  pub size : roses_size (kids_of fs) ≡ total
  pub shallow : roses_depth (kids_of fs) ≤ depth
  pub layouts : AreLayouts (layouts_of fs)
  pub slots : AreLayouts (slot_layouts_of fs)
  pub valid : AreGoodFields (kids_of fs)

abbrev pub Known : ℕ → (Vector → ℕ) → Vector → List (Rose Entry) → Type 0
Known depth count v fs = AreKnown v.count (count v) depth fs

is_zero : (n : ℕ) → (n == 0) ≡ true → n ≡ 0
is_zero n e = grind (arith, nat_tests, e)

-- the children of a field
pub record Below (depth : ℕ) (count : Vector → ℕ) (k : TypeKind) (o : Option Vector) (fs : List (Rose Entry)) :
    Type 0 where
  pub may : may_have k (length fs) ≡ true
  pub size : roses_size (kids_of fs) ≡ total_in count o
  pub shallow : roses_depth (kids_of fs) ≤ depth
  pub layouts : AreLayouts (layouts_of fs)
  pub slots : AreLayouts (slot_layouts_of fs)
  pub valid : AreGoodFields (kids_of fs)

below_in :
    (below : Vector → Reading (List (Rose Entry))) (depth : ℕ) (count : Vector
    → ℕ) (k : TypeKind) (o : Option Vector) (fs : List (Rose Entry))
    → ((v : Vector) (gs : List (Rose Entry)) → below v ≡ Ok gs → Known depth count v gs)
    → may_have k (count_in o) ≡ true
    → fields_in below o ≡ Ok fs → Below depth count k o fs
below_in below depth count k None fs known may e =
    let P : List (Rose Entry) → Type 0 = λ gs. Below depth count k None gs in
    let is : [] ≡ fs = cc in
    subst P is (record { may = may; size = refl; shallow = omega arith; layouts = tt; slots = tt; valid = tt })
below_in below depth count k (Some v) fs known may e =
    let here = known v fs e in
    let P : ℕ → Type 0 = λ n. may_have k n ≡ true in
    record {
      may = subst P (sym here.long) may;
      size = here.size;
      shallow = here.shallow;
      layouts = here.layouts;
      slots = here.slots;
      valid = here.valid;
    }

children_known :
    (below : Vector → Reading (List (Rose Entry))) (depth : ℕ) (count : Vector
    → ℕ) (k : TypeKind) (t : Table) (fs : List (Rose Entry))
    → ((v : Vector) (gs : List (Rose Entry)) → below v ≡ Ok gs → Known depth count v gs) → children_of below k t ≡ Ok fs
    → (o : Option Vector) × (vector_of t fbs.children ≡ Some o) × Below depth count k o fs
unfolding children_of
children_known below depth count k t fs known e =
    let read =
    bind_Ok (readable (vector_of t fbs.children))
    (λ v. both second (needs fault.BadType (may_have k (count_in v))) (fields_in below v)) fs e in
    let parts =
    both_Ok second (needs fault.BadType (may_have k (count_in read.0))) (fields_in below read.0) fs read.2 in
    let P : List (Rose Entry) → Type 0 = λ gs. Below depth count k read.0 gs in (
      read.0,
      must_Ok fault.BadTable (vector_of t fbs.children) read.0 read.1,
      subst P parts.4 (below_in below depth count k read.0 parts.1 known (needed _ _ parts.0 parts.2) parts.3),
    )

-- a field: the number of fields with those below it, their depth, and that its layout is whole
pub record IsKnown (depth : ℕ) (count : Vector → ℕ) (v : Vector) (i : ℕ) (f : Rose Entry) : Type 0 where
  pub size : rose_size f ≡ 1 + total_at count v i
  pub shallow : rose_depth f ≤ suc depth
  pub layout : IsLayout (layout_of f)
  pub slots : IsLayout (slot_layout_of f)
  pub valid : IsGoodField f

-- names are short texts
IsName : List ℕ → Type 0
IsName n = (length n ≤ max_name_len) × (is_utf8 n ≡ true)

name_in_valid : (o : Option (List ℕ)) (n : List ℕ) → name_in o ≡ Ok n → IsName n
unfolding IsName
name_in_valid None n e =
    let none : [] ≡ n = cc in
    subst IsName none (omega arith, is_utf8-from_IsUtf8 [] (IsUtf8-from_ascii [] (λ k. omega arith)))
name_in_valid (Some bytes) n e =
    let p = passed fault.BadName (nat_le (length bytes) max_name_len && is_utf8 bytes) bytes n e in
    let tests = and_parts (nat_le (length bytes) max_name_len) (is_utf8 bytes) p.0 in
    subst IsName p.1 (leb-true (length bytes) max_name_len tests.0, tests.1)

label_valid : (t : Table) (l : Label) → label_of t ≡ Ok l → (length l.name ≤ max_name_len) × (is_utf8 l.name ≡ true)
unfolding label_of name_of IsName
label_valid t l e =
    let p = both_Ok label (name_of t) (bool_of t fbs.nullable) l e in
    let q = bind_Ok (readable (text_of t fbs.name)) name_in p.0 p.2 in
    let P : Label → Type 0 = λ x. IsName x.name in
    subst P p.4 (name_in_valid q.0 p.0 q.2)

child_is :
    (v : Vector) (i : ℕ) (t : Table) (k : TypeKind) (o : Option Vector) → entry_of v i ≡ Some t → kind_of t ≡ Ok k
    → vector_of t fbs.children ≡ Some o → child_at v i ≡ o
unfolding child_at
child_is v i t k o here known kids = rw (here, known, kids) refl

sum_is : (count : Vector → ℕ) (v : Vector) (i : ℕ) (o : Option Vector) → child_at v i ≡ o
    → total_at count v i ≡ total_in count o
unfolding total_at
sum_is count v i o is = ap (total_in count) is

-- a field of parts that were read
made_known :
    (depth : ℕ) (count : Vector → ℕ) (v : Vector) (i : ℕ) (f : Rose Entry) (l : Label) (c : Content) (u : Storage)
    (s : ColType)
    (d : Option DictionaryEncoding) (kids : List (Rose Entry)) → storage s d ≡ u → content u kids ≡ c → field l c ≡ f
    → IsKnown depth count v i (field l (content (storage s d) kids)) → IsKnown depth count v i f
made_known depth count v i f l c u s d kids stores made is known =
    let P : Rose Entry → Type 0 = λ g. IsKnown depth count v i g in
    subst P (ap (λ x. field l (content x kids)) stores ∙ ap (field l) made ∙ is) known

entry_known :
    (below : Vector → Reading (List (Rose Entry))) (depth : ℕ) (count : Vector
    → ℕ) (v : Vector) (i : ℕ) (f : Rose Entry)
    → ((w : Vector) (gs : List (Rose Entry)) → below w ≡ Ok gs → Known depth count w gs) → entry_by below v i ≡ Ok f
    → IsKnown depth count v i f
unfolding entry_by field_of content_of
entry_known below depth count v i f known e =
    let entry = bind_Ok (readable (entry_of v i)) (field_of below) f e in
    let t : Table = entry.0 in
    let here : entry_of v i ≡ Some t = must_Ok fault.BadTable (entry_of v i) t entry.1 in
    let parts = both_Ok field (label_of t) (content_of below t) f entry.2 in
    let of : TypeKind → Reading Content =
    λ k. both content (both storage (type_of k t) (field_encoding_of k t)) (children_of below k t) in
    let kinds = bind_Ok (kind_of t) of parts.1 parts.3 in
    let k : TypeKind = kinds.0 in
    let made =
    both_Ok content (both storage (type_of k t) (field_encoding_of k t)) (children_of below k t) parts.1 kinds.2 in
    let stores = both_Ok storage (type_of k t) (field_encoding_of k t) made.0 made.2 in
    let name = label_valid t parts.0 parts.2 in
    let typed = read-is-type k t stores.0 stores.2 in
    let coded = encoding_valid k t stores.0 stores.1 stores.3 typed.1 in
    let kids = children_known below depth count k t made.1 known made.3 in
    let sum = sum_is count v i kids.0 (child_is v i t k kids.0 here kinds.1 kids.1) in
    let May : ℕ → Type 0 = λ n. may_have k n ≡ true in
    let values = fit_node k t stores.0 (layouts_of made.1) stores.2 (subst May (sym (kids_of_all made.1)) kids.2.may) in
    let indices =
    fit_node k t stores.0 (slot_layouts_of made.1) stores.2 (subst May (sym (slots_of_all made.1)) kids.2.may) in
    made_known depth count v i f parts.0 parts.1 made.0 stores.0 stores.1 made.1 stores.4 made.4 parts.4 (record {
      size = omega (arith, kids.2.size, sum);
      shallow = omega (arith, kids.2.shallow);
      layout = (values, kids.2.layouts);
      slots = (slot_node stores.1 stores.0 (slot_layouts_of made.1) coded indices, kids.2.slots);
      valid = (name.0, name.1, typed.0, coded, kids.2.valid);
    })

each_known :
    (below : Vector → Reading (List (Rose Entry))) (depth : ℕ) (count : Vector
    → ℕ) (v : Vector) (i n : ℕ) (fs : List (Rose Entry))
    → ((w : Vector) (gs : List (Rose Entry)) → below w ≡ Ok gs → Known depth count w gs)
    → each (entry_by below v) i n ≡ Ok fs
    → AreKnown n (n + sum_from (total_at count v) i n) (suc depth) fs
unfolding each sum_from
each_known below depth count v i zero fs known e =
    let none : [] ≡ fs = cc in
    let P : List (Rose Entry) → Type 0 = λ gs. AreKnown 0 0 (suc depth) gs in
    subst P none (record { long = refl; size = refl; shallow = omega arith; layouts = tt; slots = tt; valid = tt })
each_known below depth count v i (suc n) fs known e =
    let parts = both_Ok cons (entry_by below v i) (each (entry_by below v) (i + 1) n) fs e in
    let here = entry_known below depth count v i parts.0 known parts.2 in
    let rest = each_known below depth count v (i + 1) n parts.1 known parts.3 in
    let P : List (Rose Entry) → Type 0 =
    λ gs. AreKnown (suc n) (suc n + (total_at count v i + sum_from (total_at count v) (i + 1) n)) (suc depth) gs in
    subst P parts.4 (record {
      long = ap suc rest.long;
      size = omega (arith, here.size, rest.size);
      shallow = omega (arith, here.shallow, rest.shallow);
      layouts = (here.layout, rest.layouts);
      slots = (here.slots, rest.slots);
      valid = (here.valid, rest.valid);
    })

forest_known : (depth : ℕ) (v : Vector) (fs : List (Rose Entry)) → forest depth v ≡ Ok fs
    → Known depth (total depth) v fs
unfolding forest total
forest_known zero v fs e = by_count (v.count == 0) refl e where
  by_count : (b : Bool) → (v.count == 0) ≡ b → (if b then Ok [] else Err (one fault.TooManyFields)) ≡ Ok fs
      → Known zero (total zero) v fs
  by_count true empty e =
      let is : [] ≡ fs = cc in
      let P : List (Rose Entry) → Type 0 = λ gs. Known zero (total zero) v gs in
      subst P is
      (record {
        long = sym (is_zero v.count empty);
        size = refl;
        shallow = omega arith;
        layouts = tt;
        slots = tt;
        valid = tt;
      })
  by_count false some e = absurd (cc)
forest_known (suc depth) v fs e =
    each_known (forest depth) depth (total depth) v 0 v.count fs (forest_known depth) e

pub few_read : (v : Vector) (fs : List (Rose Entry)) (left room : ℕ) → forest max_depth v ≡ Ok fs
    → left + total max_depth v ≡ room → roses_size (kids_of fs) ≤ room
few_read v fs left room read count = omega (arith, (forest_known max_depth v fs read).size, count)

judged_is : (fs gs : List (Rose Entry)) → validated_fields fs ≡ Ok gs
    → (null_weights_fit (layouts_of fs) ≡ true) × (are_consistent fs ≡ true) × (fs ≡ gs)
unfolding validated_fields
judged_is fs gs e =
    let parts =
    both_Ok second (needs fault.BadType (null_weights_fit (layouts_of fs)))
    (checked fault.DictionaryClash (are_consistent fs) fs) gs e in
    let clear = passed fault.DictionaryClash (are_consistent fs) fs parts.1 parts.3 in
    (needed fault.BadType (null_weights_fit (layouts_of fs)) parts.0 parts.2, clear.0, clear.1 ∙ parts.4)

columns_known : (v : Vector) (fs : List (Rose Entry)) → columns_of v ≡ Ok fs → AreFields fs
unfolding columns_of
columns_known v fs e =
    let parts =
    both_Ok second (needs fault.TooManyFields (nat_le (total max_depth v) max_fields)) (forest max_depth v
    >>= validated_fields) fs e in
    let few : total max_depth v ≤ max_fields =
    leb-true (total max_depth v) max_fields
    (needed fault.TooManyFields (nat_le (total max_depth v) max_fields) parts.0 parts.2) in
    let read = bind_Ok (forest max_depth v) validated_fields parts.1 parts.3 in
    let known = forest_known max_depth v read.0 read.1 in
    let are = judged_is read.0 parts.1 read.2 in
    let P : List (Rose Entry) → Type 0 = λ gs. AreFields gs in
    subst P (are.2 ∙ parts.4) (record {
      few = omega (arith, known.size, few);
      shallow = known.shallow;
      layouts = known.layouts;
      slots = known.slots;
      null_weight_within = are.0;
      clear = are.1;
      valid = known.valid;
    })

in_known : (o : Option Vector) (fs : List (Rose Entry)) → fields_in columns_of o ≡ Ok fs → AreFields fs
unfolding are_consistent
in_known None fs e =
    let none : [] ≡ fs = cc in
    let P : List (Rose Entry) → Type 0 = λ gs. AreFields gs in
    subst P none
    (record {
      few = omega arith;
      shallow = omega arith;
      layouts = tt;
      slots = tt;
      null_weight_within = refl;
      clear = refl;
      valid = tt;
    })
in_known (Some v) fs e = columns_known v fs e

pub fields_known : FieldsLaw
unfolding schema_of
fields_known t fs e =
    let parts = both_Ok second (endianness_of t) (readable (vector_of t fbs.fields) >>= fields_in columns_of) fs e in
    let read = bind_Ok (readable (vector_of t fbs.fields)) (fields_in columns_of) parts.1 parts.3 in
    let P : List (Rose Entry) → Type 0 = λ gs. AreFields gs in
    subst P parts.4 (in_known read.0 parts.1 read.2)
