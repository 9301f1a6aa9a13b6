-- The columns that a feed knows are those that were declared for it.
use Rattle.std.proofs.Common.{
  ◌≡◌,
  inl,
  inr,
  ℕ,
  zero,
  suc,
  ◌+◌,
  Bool,
  true,
  false,
  ◌&&◌,
  Option,
  None,
  Some,
  Ok,
  Err,
  List,
  [],
  ◌∷◌,
  ◌++◌,
  length,
  drop,
  map,
  refl,
  sym,
  subst,
}
use Rattle.std.specs.Prelude.{slice_range, is_some, if◌then◌else◌}
use Rattle.std.specs.Str.{bytes_eq}
use Rattle.std.proofs.lemmas.Slice.Eq.{bytes_eq-Decides}
use Rattle.byteorder.specs.Endian.{little_number}
use Rattle.flatbuf.specs.Layout.{Table}
use Rattle.values.specs.Rose.{Rose, node, Roses, none, more, kids_of}
use Rattle.values.specs.Logical.{NamedType}
use Rattle.values.specs.contracts.col_type.ColTypePartialEq.TheImpl as types
use Rattle.values.specs.declared.faults.StreamFault.TheVariants as fault
use Rattle.values.specs.Reading.{Reading, ◌>>=◌, second, refused_if, one}
use Rattle.values.proofs.Readings.{bind_Ok, both_Ok, mapped_Ok}
use Rattle.values.proofs.Equality.{types-exact}
use Rattle.dictionaries.specs.Batches.{DictionaryBatch}
use Rattle.schema_meta.specs.declared.header.MessageKind.{MessageKind}
use Rattle.schema_meta.specs.declared.header.MessageKind.TheVariants as kind
use Rattle.schema_meta.specs.Entry.{Entry}
use Rattle.schema_meta.specs.Framing.{end_mark, first, framed}
use Rattle.schema_meta.specs.Logical.{logical_field}
use Rattle.schema_meta.specs.Message.{
  brings_batch,
  brings_dictionary,
  brings_schema,
  dictionary_batch,
  expected,
  header_of,
  header_table,
  meta_of,
  new_schema,
  record_batch,
}
use Rattle.schema_meta.specs.SameColumns.{are_same, is_declared, is_same}
use Rattle.schema_meta.specs.Schema.{schema_of}
use Rattle.schema_meta.specs.SchemaLaw.{before}
use Rattle.schema_meta.specs.Sound.{after, schema_after}
use Rattle.schema_meta.specs.Stage.{Known, Meta, Whole, end_meta, end_of}
use Rattle.messages.proofs.Facts.{meta_header}
use Rattle.messages.proofs.Stages.{staged_from}
use Rattle.feed.specs.Retained.{Retained, brought, retained, retained_after, retained_of}

both_true : (a b : Bool) → (a && b) ≡ true → (a ≡ true) × (b ≡ true)
both_true true b e = (refl, e)
both_true false b e = absurd (cc)

named_alike : (a b : NamedType) → a.name ≡ b.name → a.col_type ≡ b.col_type → a ≡ b
named_alike a b n t = λ i. record { name = n i; col_type = t i }

-- fields that the test finds the same are the same
mutual
  same_field : (f g : Rose NamedType) → is_same f g ≡ true → f ≡ g
  same_field (node a ks) (node b ls) e =
      let p = both_true (bytes_eq a.name b.name) (types.ghosts.eq a.col_type b.col_type && are_same ks ls) e in
      let q = both_true (types.ghosts.eq a.col_type b.col_type) (are_same ks ls) p.1 in
      let names : a.name ≡ b.name = (bytes_eq-Decides a.name b.name).0 p.0 in
      let kinds : a.col_type ≡ b.col_type = (types-exact a.col_type b.col_type).0 q.0 in
      let heads : a ≡ b = named_alike a b names kinds in
      let kids : ks ≡ ls = same_below ks ls q.1 in
      λ i. node (heads i) (kids i)

  same_below : (fs gs : Roses NamedType) → are_same fs gs ≡ true → fs ≡ gs
  same_below none none e = refl
  same_below none (more g gs) e = absurd (cc)
  same_below (more f fs) none e = absurd (cc)
  same_below (more f fs) (more g gs) e =
      let p = both_true (is_same f g) (are_same fs gs) e in
      let heads : f ≡ g = same_field f g p.0 in
      let tails : fs ≡ gs = same_below fs gs p.1 in
      λ i. more (heads i) (tails i)

kids_alike : (fs gs : List (Rose NamedType)) → kids_of fs ≡ kids_of gs → fs ≡ gs
kids_alike [] [] e = refl
kids_alike [] (g ∷ gs) e = absurd (cc)
kids_alike (f ∷ fs) [] e = absurd (cc)
kids_alike (f ∷ fs) (g ∷ gs) e =
    let heads : f ≡ g = cc in
    let rest : kids_of fs ≡ kids_of gs = cc in
    let tails : fs ≡ gs = kids_alike fs gs rest in
    λ i. heads i ∷ tails i

-- The logical fields are the declared ones, where there are both.
abbrev pub Agrees : Option (List (Rose NamedType)) → Option (List (Rose Entry)) → Type 0
Agrees None fields = Unit {0}
Agrees (Some columns) None = Unit {0}
Agrees (Some columns) (Some fields) = map logical_field fields ≡ columns

expected_agrees :
    (declared : Option (List (Rose NamedType))) (fs gs : List (Rose Entry)) → expected declared fs ≡ Ok gs
    → Agrees declared (Some gs)
unfolding is_declared
expected_agrees None fs gs e = tt
expected_agrees (Some columns) fs gs e = by_test (is_declared columns fs) refl e where
  by_test :
      (b : Bool) → is_declared columns fs ≡ b → (if b then Ok fs else Err (one fault.SchemaMismatch)) ≡ Ok gs
      → map logical_field gs ≡ columns
  by_test true same e =
      let is : fs ≡ gs = cc in
      let alike : columns ≡ map logical_field fs =
      kids_alike columns (map logical_field fs) (same_below (kids_of columns) (kids_of (map logical_field fs)) same) in
      subst (λ (xs : List (Rose Entry)). map logical_field xs ≡ columns) is (sym alike)
  by_test false other e = absurd (cc)

new_agrees : (known : Known) (t : Table) (fs : List (Rose Entry)) → new_schema known t ≡ Ok fs
    → Agrees known.declared (Some fs)
unfolding new_schema
new_agrees known t fs e =
    let p = both_Ok second (refused_if fault.SecondSchema (is_some known.schema)) (schema_of t
    >>= expected known.declared) fs e in
    let q = bind_Ok (schema_of t) (expected known.declared) p.1 p.3 in
    subst (λ (xs : List (Rose Entry)). Agrees known.declared (Some xs)) p.4 (expected_agrees known.declared q.0 p.1 q.2)

-- what is known once a message is read agrees where it did before
abbrev StillAgrees : Known → Meta → Type 0
StillAgrees known m = Agrees known.declared known.schema → Agrees known.declared (schema_after known.schema m.schema)

header_agrees : (known : Known) (t : Table) (k : MessageKind) (body : ℕ) (m : Meta) → header_of known t k body ≡ Ok m
    → StillAgrees known m
unfolding header_of
header_agrees known t kind.Schema body m e =
    let p = mapped_Ok (brings_schema body) (header_table t >>= new_schema known) m e in
    let q = bind_Ok (header_table t) (new_schema known) p.0 p.1 in
    subst (StillAgrees known) p.2 (λ h. new_agrees known q.0 p.0 q.2)
header_agrees known t kind.Batch body m e =
    let p = mapped_Ok (brings_batch body) (record_batch known body t) m e in
    subst (StillAgrees known) p.2 (λ h. h)
header_agrees known t kind.Dictionary body m e =
    let p = mapped_Ok (brings_dictionary body) (dictionary_batch known body t) m e in
    subst (StillAgrees known) p.2 (λ h. h)

end_agrees : (known : Known) (w : Whole) → end_mark known ≡ Ok (Some w) → StillAgrees known w.meta
end_agrees known w e = by_test (is_some known.schema) e where
  by_test :
      (b : Bool)
      → (if b then Ok (Some (record { front = 8; meta = end_meta })) else Err (one fault.NoSchema)) ≡ Ok (Some w)
      → StillAgrees known w.meta
  by_test true e =
      let k : record { front = 8; meta = end_meta } ≡ w = cc in
      subst (λ (v : Whole). StillAgrees known v.meta) k (λ h. h)
  by_test false e = absurd (cc)

first_agrees : (known : Known) (bytes : List ℕ) (w : Whole) → first known bytes ≡ Ok (Some w) → StillAgrees known w.meta
unfolding first
first_agrees known bytes w e =
    let f : ℕ → Reading Meta = λ n. meta_of known (slice_range bytes 8 (8 + n)) in
    elim
    (staged_from (length bytes) (framed (little_number 4 bytes) (little_number 4 (drop 4 bytes))) (end_mark known) f w
    e) [
      | inl m ↦ end_agrees known w m
      | inr r ↦
          let bs : List ℕ = slice_range bytes 8 (8 + r.0) in
          let p = meta_header known bs w.meta r.1 in
          header_agrees known p.0 p.1 p.2 w.meta p.3
    ]

abbrev DeclaredOf : Known → Option (List (Rose NamedType)) → Type 0
DeclaredOf known declared = (known.declared ≡ declared) × Agrees known.declared known.schema

after_step :
    (next : Known → List DictionaryBatch → List ℕ → Retained) (declared : Option (List (Rose NamedType)))
    → ((known : Known) (ds : List DictionaryBatch) (bytes : List ℕ) → DeclaredOf known declared
    → DeclaredOf (next known ds bytes).known declared)
    → (known : Known) (ds : List DictionaryBatch) (bytes : List ℕ) (r : Reading (Option Whole)) → first known bytes ≡ r
    → DeclaredOf known declared → DeclaredOf (retained_after next known ds bytes r).known declared
after_step next declared ih known ds bytes (Ok (Some w)) e h =
    ih (after known w.meta) (ds ++ brought (after known w.meta) bytes w) (drop (end_of w) bytes) (
      h.0,
      first_agrees known bytes w e h.1,
    )
after_step next declared ih known ds bytes (Ok None) e h = h
after_step next declared ih known ds bytes (Err fs) e h = h

kept_agrees :
    (n : ℕ) (declared : Option (List (Rose NamedType))) (known : Known) (ds : List DictionaryBatch) (bytes : List ℕ)
    → DeclaredOf known declared → DeclaredOf (retained n known ds bytes).known declared
unfolding retained
kept_agrees zero declared known ds bytes h = h
kept_agrees (suc n) declared known ds bytes h =
    after_step (retained n) declared (kept_agrees n declared) known ds bytes (first known bytes) refl h

agrees_at_first : (declared : Option (List (Rose NamedType))) → Agrees declared None
agrees_at_first None = tt
agrees_at_first (Some columns) = tt

-- A feed for which these columns were declared knows no others.
pub declared_known :
    (columns : List (Rose NamedType)) (bytes : List ℕ) (fields : List (Rose Entry))
    → (retained_of (Some columns) bytes).known.schema ≡ Some fields
    → map logical_field fields ≡ columns
unfolding retained_of
declared_known columns bytes fields e =
    let p : DeclaredOf (retained_of (Some columns) bytes).known (Some columns) =
    kept_agrees (length bytes) (Some columns) (before (Some columns)) [] bytes (refl, agrees_at_first (Some columns)) in
    let k : Known = (retained_of (Some columns) bytes).known in
    let a : Agrees (Some columns) k.schema =
    subst (λ (o : Option (List (Rose NamedType))). Agrees o k.schema) p.0 p.1 in
    subst (λ (o : Option (List (Rose Entry))). Agrees (Some columns) o) e a
