-- A fault is in the schema's reading exactly where it is found by a path.
use Rattle.std.proofs.Common.{
  ◌≡◌,
  ◌⊎◌,
  inl,
  inr,
  ℕ,
  zero,
  suc,
  ◌+◌,
  ◌<◌,
  Bool,
  true,
  false,
  Option,
  None,
  Some,
  Ok,
  Err,
  List,
  [],
  ◌∷◌,
  length,
  refl,
  ap,
  subst,
  arith,
  nat_le,
}
use Rattle.std.proofs.lemmas.Bool.Decides.{nat_tests}
use Rattle.std.specs.Prelude.{◌==◌, if◌then◌else◌}
use Rattle.flatbuf.specs.Layout.{Table, Vector, vector_of, entry_of}
use Rattle.values.specs.Limits.{max_fields, max_depth}
use Rattle.values.specs.Reading.{Reading, ◌>>=◌, both, second, cons, each, one, FailsWith}
use Rattle.values.specs.Rose.{Rose}
use Rattle.values.specs.declared.faults.StreamFault.{StreamFault}
use Rattle.values.specs.declared.faults.StreamFault.TheVariants as fault
use Rattle.values.proofs.Readings.{both_left, both_right, stands_both, stands_each}
use Rattle.field_types.specs.declared.kinds.TypeKind.{TypeKind}
use Rattle.schema_meta.specs.Entry.{Entry}
use Rattle.field_types.specs.SchemaFbs as fbs
use Rattle.field_types.specs.Reads.{readable, needs, checked, bool_of}
use Rattle.field_types.specs.Kinds.{kind_of, may_have}
use Rattle.field_types.specs.Types.{type_of}
use Rattle.schema_meta.specs.FieldLayouts.{layouts_of, null_weights_fit}
use Rattle.schema_meta.specs.Dictionaries.{are_consistent}
use Rattle.schema_meta.specs.Encoding.{field_encoding_of}
use Rattle.schema_meta.specs.Fields.{
  name_of,
  count_in,
  fields_in,
  children_of,
  label,
  storage,
  content,
  field,
  label_of,
  content_of,
  field_of,
  entry_by,
  forest,
  children_by,
  children_at,
  child_at,
}
use Rattle.schema_meta.specs.Totals.{total}
use Rattle.schema_meta.specs.Schema.{endianness_of, columns_of, schema_of, validated_fields}
use Rattle.schema_meta.specs.Paths.{
  FaultOfField,
  FaultOfEntry,
  Leads,
  FaultBelow,
  IsDeeper,
  FaultOfColumns,
  FaultOfSchema,
  in_name,
  in_nullable,
  in_kind,
  in_type,
  in_dictionary,
  in_children,
  in_number,
  by_path,
  by_depth,
  by_count,
  by_slot,
  by_clash,
  in_endianness,
  in_fields,
  in_columns,
}
use Rattle.schema_meta.proofs.Faults.{
  bind_left,
  bind_right,
  bind_found,
  needs_found,
  needs_stands,
  checked_found,
  checked_stands,
  readable_found,
  readable_some,
}

-- The children of a field have the fault.
abbrev Below : Type 0
Below = Vector → Reading (List (Rose Entry))

abbrev IsInChildren : Below → Table → StreamFault → Type 0
IsInChildren below t c =
    (k : TypeKind) × (w : Vector) × (kind_of t ≡ Ok k) × (vector_of t fbs.children ≡ Some (Some w)) × FailsWith (below w) c

-- from the reading to paths
in_vector :
    (below : Below) (t : Table) (c : StreamFault) (k : TypeKind) (v : Option Vector) → kind_of t ≡ Ok k
    → vector_of t fbs.children ≡ Some v → FailsWith (fields_in below v) c → IsInChildren below t c
in_vector below t c k None e f h = absurd h
in_vector below t c k (Some w) e f h = (k, w, e, f, h)

children_found :
    (below : Below) (t : Table) (c : StreamFault) (k : TypeKind) → kind_of t ≡ Ok k → FailsWith (children_of below k t) c
    → FaultOfField t c ⊎ IsInChildren below t c
unfolding children_of
children_found below t c k e h =
    elim (bind_found (readable (vector_of t fbs.children))
    (λ v. both second (needs fault.BadType (may_have k (count_in v))) (fields_in below v)) c h) [
      | inl a ↦ inl (in_children k e a)
      | inr b ↦
          let f : vector_of t fbs.children ≡ Some b.0 = readable_found (vector_of t fbs.children) b.0 b.1 in
          elim (stands_both second (needs fault.BadType (may_have k (count_in b.0))) (fields_in below b.0) c b.2) [
            | inl x ↦ let n = needs_found fault.BadType (may_have k (count_in b.0)) c x in
                inl (in_number k b.0 e f n.0 n.1)
            | inr y ↦ inr (in_vector below t c k b.0 e f y)
          ]
    ]

content_found :
    (below : Below) (t : Table) (c : StreamFault) (k : TypeKind) → kind_of t ≡ Ok k
    → FailsWith (both content (both storage (type_of k t) (field_encoding_of k t)) (children_of below k t)) c
    → FaultOfField t c ⊎ IsInChildren below t c
content_found below t c k e h =
    elim (stands_both content (both storage (type_of k t) (field_encoding_of k t)) (children_of below k t) c h) [
      | inl a ↦ inl
          (elim (stands_both storage (type_of k t) (field_encoding_of k t) c a)
          [ inl x ↦ in_type k e x | inr y ↦ in_dictionary k e y ])
      | inr b ↦ children_found below t c k e b
    ]

field_found :
    (below : Below) (t : Table) (c : StreamFault) → FailsWith (field_of below t) c
    → FaultOfField t c ⊎ IsInChildren below t c
unfolding field_of label_of content_of
field_found below t c h =
    elim (stands_both field (label_of t) (content_of below t) c h) [
      | inl a ↦ inl
          (elim (stands_both label (name_of t) (bool_of t fbs.nullable) c a)
          [ inl x ↦ in_name x | inr y ↦ in_nullable y ])
      | inr b ↦
          elim (bind_found (kind_of t) (λ k.
          both content (both storage (type_of k t) (field_encoding_of k t)) (children_of below k t)) c b) [
            | inl x ↦ inl (in_kind x)
            | inr y ↦ content_found below t c y.0 y.1 y.2
          ]
    ]

entry_found :
    (below : Below) (o : Option Table) (c : StreamFault) → FailsWith (readable o >>= field_of below) c
    → FaultOfEntry o c ⊎ ((w : Vector) × (children_at o ≡ Some w) × FailsWith (below w) c)
entry_found below None c h = inl h
entry_found below (Some t) c h =
    elim (field_found below t c h) [ inl a ↦ inl a | inr b ↦ inr (b.1, rw (b.2, b.3) refl, b.4) ]

-- the fields of a level too deep, where `b` says that there are none
abbrev no_fields : Bool → Reading (List (Rose Entry))
no_fields b = if b then Ok [] else Err (one fault.TooManyFields)

some_fields : (n : ℕ) → (n == 0) ≡ false → 0 < n
some_fields n e = grind (arith, nat_tests)

above : (m n : ℕ) → nat_le m n ≡ false → n < m
above m n e = grind (arith, nat_tests)

not_above : (m n : ℕ) → n < m → nat_le m n ≡ false
not_above m n e = grind (arith, nat_tests)

at_found :
    (below : Below) (v : Vector) (i : ℕ) (c : StreamFault) → FailsWith (entry_by below v i) c
    → FaultOfEntry (entry_of v i) c ⊎ ((w : Vector) × (child_at v i ≡ Some w) × FailsWith (below w) c)
unfolding entry_by child_at
at_found below v i c h = entry_found below (entry_of v i) c h

if_found : (b : Bool) (c : StreamFault) → FailsWith (no_fields b) c → (b ≡ false) × (fault.TooManyFields ≡ c)
if_found true c h = absurd h
if_found false c h = (refl, h)

forest_found :
    (depth : ℕ) (v : Vector) (c : StreamFault) → FailsWith (forest depth v) c
    → FaultBelow depth v c ⊎ (IsDeeper depth v × (fault.TooManyFields ≡ c))
unfolding forest
forest_found zero v c h =
    let n = if_found (v.count == 0) c h in
    inr (record { path = []; end = v; leads = refl; long = refl; some = some_fields v.count n.0 }, n.1)
forest_found (suc depth) v c h =
    let r = stands_each (entry_by (forest depth) v) 0 v.count c h in
    let k : ℕ = r.0 in
    let j : 0 + k ≡ k = omega arith in
    let P : ℕ → Type 0 = λ i. FailsWith (entry_by (forest depth) v i) c in
    elim (at_found (forest depth) v k c (subst P j r.2)) [
      | inl a ↦ inl
          (record { path = []; end = v; leads = refl; within = omega arith; index = k; inside = r.1; fault_of = a })
      | inr b ↦
          elim (forest_found depth b.0 c b.2) [
            | inl x ↦
                inl
                (record {
                  path = k ∷ x.path;
                  end = x.end;
                  leads = (r.1, (b.0, b.1, x.leads));
                  within = omega (arith, x.within);
                  index = x.index;
                  inside = x.inside;
                  fault_of = x.fault_of;
                })
            | inr y ↦
                inr (
                  record {
                    path = k ∷ y.0.path;
                    end = y.0.end;
                    leads = (r.1, (b.0, b.1, y.0.leads));
                    long = ap suc y.0.long;
                    some = y.0.some;
                  },
                  y.1,
                )
          ]
    ]

-- the tests of fields that are all known
abbrev slot_test : List (Rose Entry) → Reading (Unit {0})
slot_test fs = needs fault.BadType (null_weights_fit (layouts_of fs))

abbrev clear_test : List (Rose Entry) → Reading (List (Rose Entry))
clear_test fs = checked fault.DictionaryClash (are_consistent fs) fs

judged_found :
    (fs : List (Rose Entry)) (c : StreamFault) → FailsWith (validated_fields fs) c
    → ((null_weights_fit (layouts_of fs) ≡ false) × (fault.BadType ≡ c))
    ⊎ ((are_consistent fs ≡ false) × (fault.DictionaryClash ≡ c))
unfolding validated_fields
judged_found fs c h =
    elim (stands_both second (slot_test fs) (clear_test fs) c h) [
      | inl a ↦ inl (needs_found fault.BadType (null_weights_fit (layouts_of fs)) c a)
      | inr b ↦ inr (checked_found fault.DictionaryClash (are_consistent fs) fs c b)
    ]

judged_columns : (v : Vector) (fs : List (Rose Entry)) (c : StreamFault) → forest max_depth v ≡ Ok fs
    → FailsWith (validated_fields fs) c → FaultOfColumns v c
judged_columns v fs c read h =
    elim (judged_found fs c h) [ inl a ↦ by_slot fs read a.0 a.1 | inr b ↦ by_clash fs read b.0 b.1 ]

columns_found : (v : Vector) (c : StreamFault) → FailsWith (columns_of v) c → FaultOfColumns v c
unfolding columns_of
columns_found v c h =
    elim (stands_both second (needs fault.TooManyFields (nat_le (total max_depth v) max_fields)) (forest max_depth v
    >>= validated_fields) c h) [
      | inl a ↦ let n = needs_found fault.TooManyFields (nat_le (total max_depth v) max_fields) c a in
          by_count (above (total max_depth v) max_fields n.0) n.1
      | inr b ↦
          elim (bind_found (forest max_depth v) validated_fields c b) [
            | inl p ↦ elim (forest_found max_depth v c p) [ inl x ↦ by_path x | inr y ↦ by_depth y.0 y.1 ]
            | inr q ↦ judged_columns v q.0 c q.1 q.2
          ]
    ]

fields_found :
    (t : Table) (v : Option Vector) (c : StreamFault) → vector_of t fbs.fields ≡ Some v
    → FailsWith (fields_in columns_of v) c
    → FaultOfSchema t c
fields_found t None c e h = absurd h
fields_found t (Some v) c e h = in_columns v e (columns_found v c h)

pub found_by_paths : (t : Table) (c : StreamFault) → FailsWith (schema_of t) c → FaultOfSchema t c
unfolding schema_of
found_by_paths t c h =
    elim (stands_both second (endianness_of t) (readable (vector_of t fbs.fields) >>= fields_in columns_of) c h) [
      | inl a ↦ in_endianness a
      | inr b ↦
          elim (bind_found (readable (vector_of t fbs.fields)) (fields_in columns_of) c b) [
            | inl x ↦ in_fields x
            | inr y ↦ fields_found t y.0 c (readable_found (vector_of t fbs.fields) y.0 y.1) y.2
          ]
    ]

-- from paths to the reading
in_content :
    (below : Below) (t : Table) (c : StreamFault) (k : TypeKind) → kind_of t ≡ Ok k
    → FailsWith (both content (both storage (type_of k t) (field_encoding_of k t)) (children_of below k t)) c
    → FailsWith (field_of below t) c
unfolding field_of content_of
in_content below t c k e h =
    let of : TypeKind → Reading _ =
    λ j. both content (both storage (type_of j t) (field_encoding_of j t)) (children_of below j t) in
    both_right field (label_of t) (content_of below t) c (bind_right (kind_of t) of c k e h)

in_label : (below : Below) (t : Table) (c : StreamFault) → FailsWith (label_of t) c → FailsWith (field_of below t) c
unfolding field_of
in_label below t c h = both_left field (label_of t) (content_of below t) c h

in_unkind : (below : Below) (t : Table) (c : StreamFault) → FailsWith (kind_of t) c → FailsWith (field_of below t) c
unfolding field_of content_of
in_unkind below t c h =
    let of : TypeKind → Reading _ =
    λ j. both content (both storage (type_of j t) (field_encoding_of j t)) (children_of below j t) in
    both_right field (label_of t) (content_of below t) c (bind_left (kind_of t) of c h)

in_typed :
    (below : Below) (t : Table) (c : StreamFault) (k : TypeKind) → kind_of t ≡ Ok k
    → FailsWith (both storage (type_of k t) (field_encoding_of k t)) c
    → FailsWith (field_of below t) c
in_typed below t c k e h =
    in_content below t c k e
    (both_left content (both storage (type_of k t) (field_encoding_of k t)) (children_of below k t) c h)

in_vectors :
    (below : Below) (t : Table) (c : StreamFault) (k : TypeKind) → kind_of t ≡ Ok k → FailsWith (children_of below k t) c
    → FailsWith (field_of below t) c
in_vectors below t c k e h =
    in_content below t c k e
    (both_right content (both storage (type_of k t) (field_encoding_of k t)) (children_of below k t) c h)

in_some :
    (below : Below) (t : Table) (c : StreamFault) (k : TypeKind) (v : Option Vector) → kind_of t ≡ Ok k
    → vector_of t fbs.children ≡ Some v
    → FailsWith (both second (needs fault.BadType (may_have k (count_in v))) (fields_in below v)) c
    → FailsWith (field_of below t) c
unfolding children_of
in_some below t c k v e f h =
    let of : Option Vector → Reading _ =
    λ u. both second (needs fault.BadType (may_have k (count_in u))) (fields_in below u) in
    in_vectors below t c k e
    (bind_right (readable (vector_of t fbs.children)) of c v (readable_some (vector_of t fbs.children) v f) h)

field_stands : (below : Below) (t : Table) (c : StreamFault) → FaultOfField t c → FailsWith (field_of below t) c
unfolding label_of children_of
field_stands below t c (in_name h) = in_label below t c (both_left label (name_of t) (bool_of t fbs.nullable) c h)
field_stands below t c (in_nullable h) = in_label below t c (both_right label (name_of t) (bool_of t fbs.nullable) c h)
field_stands below t c (in_kind h) = in_unkind below t c h
field_stands below t c (in_type k e h) =
    in_typed below t c k e (both_left storage (type_of k t) (field_encoding_of k t) c h)
field_stands below t c (in_dictionary k e h) =
    in_typed below t c k e (both_right storage (type_of k t) (field_encoding_of k t) c h)
field_stands below t c (in_children k e h) =
    let of : Option Vector → Reading _ =
    λ u. both second (needs fault.BadType (may_have k (count_in u))) (fields_in below u) in
    in_vectors below t c k e (bind_left (readable (vector_of t fbs.children)) of c h)
field_stands below t c (in_number k v e f m d) =
    in_some below t c k v e f
    (both_left second (needs fault.BadType (may_have k (count_in v))) (fields_in below v) c
    (needs_stands fault.BadType (may_have k (count_in v)) c m d))

entry_stands : (below : Below) (o : Option Table) (c : StreamFault) → FaultOfEntry o c
    → FailsWith (readable o >>= field_of below) c
entry_stands below None c h = h
entry_stands below (Some t) c h = field_stands below t c h

children_some :
    (m : Reading TypeKind) (o : Option (Option Vector)) (w : Vector) → children_by m o ≡ Some w
    → (k : TypeKind) × (m ≡ Ok k) × (o ≡ Some (Some w))
children_some (Ok k) None w e = cc
children_some (Ok k) (Some v) w e = (k, refl, ap (λ u. Some u) e)
children_some (Err fs) o w e = cc

child_stands :
    (below : Below) (o : Option Table) (c : StreamFault) (w : Vector) → children_at o ≡ Some w → FailsWith (below w) c
    → FailsWith (readable o >>= field_of below) c
child_stands below None c w e h = cc
child_stands below (Some t) c w e h =
    let s = children_some (kind_of t) (vector_of t fbs.children) w e in
    in_some below t c s.0 (Some w) s.1 s.2
    (both_right second (needs fault.BadType (may_have s.0 (count_in (Some w)))) (fields_in below (Some w)) c h)

each_stands : {X : Type 0} (f : ℕ → Reading X) (i n k : ℕ) (c : StreamFault) → k < n → FailsWith (f (i + k)) c
    → FailsWith (each f i n) c
unfolding each
each_stands f i zero k c l h = absurd (omega arith)
each_stands f i (suc n) zero c l h =
    let j : i + 0 ≡ i = omega arith in
    both_left cons (f i) (each f (i + 1) n) c (subst (λ (m : ℕ). FailsWith (f m) c) j h)
each_stands f i (suc n) (suc k) c l h =
    let j : i + suc k ≡ (i + 1) + k = omega arith in
    both_right cons (f i) (each f (i + 1) n) c
    (each_stands f (i + 1) n k c (omega arith) (subst (λ (m : ℕ). FailsWith (f m) c) j h))

at_stands :
    (below : Below) (v : Vector) (n i : ℕ) (c : StreamFault) → i < n
    → FailsWith (readable (entry_of v i) >>= field_of below) c
    → FailsWith (each (entry_by below v) 0 n) c
unfolding entry_by
at_stands below v n i c l h =
    let j : i ≡ 0 + i = omega arith in
    each_stands (entry_by below v) 0 n i c l
    (subst (λ (m : ℕ). FailsWith (readable (entry_of v m) >>= field_of below) c) j h)

path_stands :
    (p : List ℕ) (depth : ℕ) (v w : Vector) (i : ℕ) (c : StreamFault) → Leads p v w → length p < depth → i < w.count
    → FaultOfEntry (entry_of w i) c → FailsWith (forest depth v) c
unfolding forest child_at
path_stands p zero v w i c l d n h = absurd (omega arith)
path_stands [] (suc depth) v w i c l d n h =
    let P : Vector → Type 0 = λ u. (i < u.count) → FaultOfEntry (entry_of u i) c → FailsWith (forest (suc depth) v) c in
    subst P l (λ m f. at_stands (forest depth) v v.count i c m (entry_stands (forest depth) (entry_of v i) c f)) n h
path_stands (j ∷ p) (suc depth) v w i c l d n h =
    at_stands (forest depth) v v.count j c l.0
    (child_stands (forest depth) (entry_of v j) c l.1.0 l.1.1
    (path_stands p depth l.1.0 w i c l.1.2 (omega (arith, d)) n h))

if_stands : (n : ℕ) → 0 < n → FailsWith (no_fields (n == 0)) fault.TooManyFields
if_stands n h = let e : (n == 0) ≡ false = grind (arith, nat_tests) in rw e refl

depth_stands :
    (p : List ℕ) (depth : ℕ) (v w : Vector) → Leads p v w → length p ≡ depth → 0 < w.count
    → FailsWith (forest depth v) fault.TooManyFields
unfolding forest child_at
depth_stands [] zero v w l e n =
    let P : Vector → Type 0 = λ u. (0 < u.count) → FailsWith (forest zero v) fault.TooManyFields in
    subst P l (λ m. if_stands v.count m) n
depth_stands [] (suc depth) v w l e n = absurd (omega arith)
depth_stands (j ∷ p) zero v w l e n = absurd (omega arith)
depth_stands (j ∷ p) (suc depth) v w l e n =
    at_stands (forest depth) v v.count j fault.TooManyFields l.0
    (child_stands (forest depth) (entry_of v j) fault.TooManyFields l.1.0 l.1.1
    (depth_stands p depth l.1.0 w l.1.2 (omega (arith, e)) n))

within_slot_stands : (fs : List (Rose Entry)) (c : StreamFault) → null_weights_fit (layouts_of fs) ≡ false
    → fault.BadType ≡ c → FailsWith (validated_fields fs) c
unfolding validated_fields
within_slot_stands fs c wide e =
    both_left second (slot_test fs) (clear_test fs) c
    (needs_stands fault.BadType (null_weights_fit (layouts_of fs)) c wide e)

clash_stands : (fs : List (Rose Entry)) (c : StreamFault) → are_consistent fs ≡ false → fault.DictionaryClash ≡ c
    → FailsWith (validated_fields fs) c
unfolding validated_fields
clash_stands fs c unclear e =
    both_right second (slot_test fs) (clear_test fs) c
    (checked_stands fault.DictionaryClash (are_consistent fs) fs c unclear e)

in_forest : (v : Vector) (c : StreamFault) → FailsWith (forest max_depth v) c → FailsWith (columns_of v) c
unfolding columns_of
in_forest v c h =
    both_right second (needs fault.TooManyFields (nat_le (total max_depth v) max_fields)) (forest max_depth v
    >>= validated_fields) c (bind_left (forest max_depth v) validated_fields c h)

columns_stands : (v : Vector) (c : StreamFault) → FaultOfColumns v c → FailsWith (columns_of v) c
unfolding columns_of
columns_stands v c (by_path s) =
    in_forest v c (path_stands s.path max_depth v s.end s.index c s.leads s.within s.inside s.fault_of)
columns_stands v c (by_depth s e) =
    let P : StreamFault → Type 0 = λ d. FailsWith (forest max_depth v) d in
    in_forest v c (subst P e (depth_stands s.path max_depth v s.end s.leads s.long s.some))
columns_stands v c (by_count m e) =
    both_left second (needs fault.TooManyFields (nat_le (total max_depth v) max_fields)) (forest max_depth v
    >>= validated_fields) c
    (needs_stands fault.TooManyFields (nat_le (total max_depth v) max_fields) c
    (not_above (total max_depth v) max_fields m) e)
columns_stands v c (by_slot fs read wide e) =
    both_right second (needs fault.TooManyFields (nat_le (total max_depth v) max_fields)) (forest max_depth v
    >>= validated_fields) c
    (bind_right (forest max_depth v) validated_fields c fs read (within_slot_stands fs c wide e))
columns_stands v c (by_clash fs read unclear e) =
    both_right second (needs fault.TooManyFields (nat_le (total max_depth v) max_fields)) (forest max_depth v
    >>= validated_fields) c
    (bind_right (forest max_depth v) validated_fields c fs read (clash_stands fs c unclear e))

pub stands_by_paths : (t : Table) (c : StreamFault) → FaultOfSchema t c → FailsWith (schema_of t) c
unfolding schema_of
stands_by_paths t c (in_endianness h) =
    both_left second (endianness_of t) (readable (vector_of t fbs.fields) >>= fields_in columns_of) c h
stands_by_paths t c (in_fields h) =
    both_right second (endianness_of t) (readable (vector_of t fbs.fields) >>= fields_in columns_of) c
    (bind_left (readable (vector_of t fbs.fields)) (fields_in columns_of) c h)
stands_by_paths t c (in_columns v e h) =
    both_right second (endianness_of t) (readable (vector_of t fbs.fields) >>= fields_in columns_of) c
    (bind_right (readable (vector_of t fbs.fields)) (fields_in columns_of) c (Some v)
    (readable_some (vector_of t fbs.fields) (Some v) e)
    (columns_stands v c h))
