-- What holds of each aggregate, by its variants: of the field that shows it, and of how it is read.
use Rattle.std.proofs.Common.{
  ◌≡◌,
  ℕ,
  ◌+◌,
  ◌-◌,
  ◌<◌,
  List,
  [],
  ◌∷◌,
  length,
  get_or,
  refl,
  sym,
  subst,
  ◌∙◌,
  arith,
  Ok,
  Err,
  Some,
  Bool,
  true,
  false,
  inl,
  inr,
}
use Rattle.std.proofs.lemmas.Bool.{leb-true}
use Rattle.std.proofs.lemmas.Option.{get_or_from_slice_get}
use Rattle.std.specs.Prelude.{codes, if◌then◌else◌, ◌==◌}
use Rattle.std.specs.Str.{bytes_eq}
use Rattle.toml.specs.Data.{Items}
use Rattle.values.specs.Logical.{NamedType}
use Rattle.values.specs.Reading.{◌>>=◌, mapped, must, one}
use Rattle.values.specs.Rose.{Rose, rose_size}
use Rattle.values.specs.declared.col_type.ColType.{ColType}
use Rattle.values.specs.declared.col_type.ColType.TheVariants as col
use Rattle.values.proofs.Readings.{mapped_Ok, must_Ok}
use Rattle.view_lang.specs.Aggregates.{IsAddable, IsAggregate, aggregate_field, sum_type}
use Rattle.view_lang.specs.Fields.{field_at, no_field}
use Rattle.view_lang.specs.Limits.{max_sum_precision}
use Rattle.view_lang.specs.TableRules.{type_of}
use Rattle.view_lang.specs.declared.aggregate.Aggregate.{Aggregate}
use Rattle.view_lang.specs.declared.aggregate.Aggregate.TheVariants as aggregate
use Rattle.view_config.specs.Aggregates.{
  aggregate_by,
  can_be_summed,
  count_by,
  key_of_group,
  sole_ordered,
  sole_reference,
  sum_of_column,
}
use Rattle.view_config.specs.Columns.{has_order, name_of}
use Rattle.view_config.specs.Numbers.{place_of}
use Rattle.view_config.specs.Scope.{Column, Scope, fields_of}
use Rattle.view_config.specs.Tree.{count_items}
use Rattle.view_config.specs.declared.faults.ConfigFault.TheVariants as fault
use Rattle.view_config.proofs.Found.{IsAt, column-there, sole-at, sole-order}
use Rattle.view_config.proofs.Readings.{bound, test_Ok, test_Some}
use Rattle.view_config.proofs.RenamedFields.{renamed-name, renamed-size, renamed-type}

-- the name of an aggregate's field
pub aggregate-name :
    (fields : List (Rose NamedType)) (by name : List ℕ) (a : Aggregate)
    → name_of (aggregate_field fields by name a) ≡ name
aggregate-name fields by name (aggregate.Key k) = renamed-name name (field_at fields (get_or by k 0))
aggregate-name fields by name aggregate.Count = refl
aggregate-name fields by name (aggregate.CountOf k) = refl
aggregate-name fields by name (aggregate.Distinct k) = refl
aggregate-name fields by name (aggregate.Sum k) = refl
aggregate-name fields by name (aggregate.Least k) = renamed-name name (field_at fields k)
aggregate-name fields by name (aggregate.Greatest k) = renamed-name name (field_at fields k)

-- the size and the order of an aggregate's field, whatever its name
pub aggregate-size :
    (fields : List (Rose NamedType)) (by name : List ℕ) (a : Aggregate)
    → rose_size (aggregate_field fields by name a) ≡ rose_size (aggregate_field fields by [] a)
aggregate-size fields by name (aggregate.Key k) =
    renamed-size name (field_at fields (get_or by k 0)) ∙ sym (renamed-size [] (field_at fields (get_or by k 0)))
aggregate-size fields by name aggregate.Count = refl
aggregate-size fields by name (aggregate.CountOf k) = refl
aggregate-size fields by name (aggregate.Distinct k) = refl
aggregate-size fields by name (aggregate.Sum k) = refl
aggregate-size fields by name (aggregate.Least k) =
    renamed-size name (field_at fields k) ∙ sym (renamed-size [] (field_at fields k))
aggregate-size fields by name (aggregate.Greatest k) =
    renamed-size name (field_at fields k) ∙ sym (renamed-size [] (field_at fields k))

pub aggregate-type :
    (fields : List (Rose NamedType)) (by name : List ℕ) (a : Aggregate)
    → type_of (aggregate_field fields by name a) ≡ type_of (aggregate_field fields by [] a)
aggregate-type fields by name (aggregate.Key k) =
    renamed-type name (field_at fields (get_or by k 0)) ∙ sym (renamed-type [] (field_at fields (get_or by k 0)))
aggregate-type fields by name aggregate.Count = refl
aggregate-type fields by name (aggregate.CountOf k) = refl
aggregate-type fields by name (aggregate.Distinct k) = refl
aggregate-type fields by name (aggregate.Sum k) = refl
aggregate-type fields by name (aggregate.Least k) =
    renamed-type name (field_at fields k) ∙ sym (renamed-type [] (field_at fields k))
aggregate-type fields by name (aggregate.Greatest k) =
    renamed-type name (field_at fields k) ∙ sym (renamed-type [] (field_at fields k))

pub sum-ordered : (t : ColType) → has_order (sum_type t) ≡ true
sum-ordered col.Bool = refl
sum-ordered (col.Int w s) = refl
sum-ordered (col.Decimal p s) = refl
sum-ordered (col.Date u) = refl
sum-ordered (col.Time u) = refl
sum-ordered (col.Timestamp u z) = refl
sum-ordered (col.Duration u) = refl
sum-ordered (col.Utf8 o) = refl
sum-ordered (col.Binary o) = refl
sum-ordered (col.FixedSizeBinary w) = refl
sum-ordered (col.List o) = refl
sum-ordered col.Struct = refl

pub ruleset aggregate_sizes = (renamed-size)

pub ruleset aggregate_types = (renamed-type, sum-ordered)

-- an index that was found is within the list
place-found : (i n : ℕ) (ns : List ℕ) (k : ℕ) → place_of i n ns ≡ Some k → k < i + length ns
place-found i n [] k e = cc
place-found i n (m ∷ ms) k e =
    elim (test_Some (n == m) i k (place_of (i + 1) n ms) e)
    [ inl a ↦ omega (arith, a) | inr b ↦ let r = place-found (i + 1) n ms k b in omega (arith, r) ]

key-group :
    (fields : List (Rose NamedType)) (by : List ℕ) (n : ℕ) (a : Aggregate) → key_of_group by n ≡ Ok a
    → IsAggregate fields by a
key-group fields by n a e =
    let read = mapped_Ok aggregate.Key (must fault.UnknownName (place_of 0 n by)) a e in
    let there = place-found 0 n by read.0 (must_Ok fault.UnknownName (place_of 0 n by) read.0 read.1) in
    subst (IsAggregate fields by) read.2 (omega (arith, there))

count-sound : (s : Scope) (by : List ℕ) (ds : Items) (a : Aggregate) → count_by s ds ≡ Ok a
    → IsAggregate (fields_of s) by a
count-sound s by ds a e = either (count_items ds == 0) e
  where
    either : (b : Bool)
        → (if b then Ok aggregate.Count else mapped (λ c. aggregate.CountOf c.0) (sole_reference s ds)) ≡ Ok a
        → IsAggregate (fields_of s) by a
    either true e = let same : aggregate.Count ≡ a = cc in subst (IsAggregate (fields_of s) by) same tt
    either false e =
        let read = mapped_Ok (λ (c : Column). aggregate.CountOf c.0) (sole_reference s ds) a e in
        subst (IsAggregate (fields_of s) by) read.2 (column-there (fields_of s) read.0 (sole-at s ds read.0 read.1))

addable : (t : ColType) → can_be_summed t ≡ true → IsAddable t
addable col.Bool h = cc
addable (col.Int w s) h = tt
addable (col.Decimal p s) h = leb-true p max_sum_precision h
addable (col.Date u) h = cc
addable (col.Time u) h = cc
addable (col.Timestamp u z) h = cc
addable (col.Duration u) h = cc
addable (col.Utf8 o) h = cc
addable (col.Binary o) h = cc
addable (col.FixedSizeBinary w) h = cc
addable (col.List o) h = cc
addable col.Struct h = cc

sum-sound : (fields : List (Rose NamedType)) (by : List ℕ) (c : Column) (a : Aggregate) → IsAt fields c
    → sum_of_column c ≡ Ok a → IsAggregate fields by a
sum-sound fields by c a at e =
    let read = test_Ok (can_be_summed (type_of c.1)) (Ok (aggregate.Sum c.0)) _ a e in
    let same : aggregate.Sum c.0 ≡ a = let q = read.1 in cc in
    let here = get_or_from_slice_get fields c.0 c.1 no_field at in
    subst (IsAggregate fields by) same (
      column-there fields c at,
      subst (λ (f : Rose NamedType). IsAddable (type_of f)) (sym here) (addable (type_of c.1) read.0),
    )

aggregate-by-sound :
    (s : Scope) (by : List ℕ) (ds : Items) (a : Aggregate) (p q w r t u : Bool)
    → (if p then (sole_reference s ds >>= λ c. key_of_group by c.0)
    else if q then count_by s ds
    else if w then mapped (λ c. aggregate.Distinct c.0) (sole_ordered s ds)
    else if r then sole_reference s ds >>= sum_of_column
    else if t then mapped (λ c. aggregate.Least c.0) (sole_ordered s ds)
    else if u then mapped (λ c. aggregate.Greatest c.0) (sole_ordered s ds)
    else Err (one fault.Shape)) ≡ Ok a
    → IsAggregate (fields_of s) by a
aggregate-by-sound s by ds a true q w r t u e =
    bound (sole_reference s ds) _ a e (λ c b e1. key-group (fields_of s) by c.0 a e1)
aggregate-by-sound s by ds a false true w r t u e = count-sound s by ds a e
aggregate-by-sound s by ds a false false true r t u e =
    let read = mapped_Ok (λ (c : Column). aggregate.Distinct c.0) (sole_ordered s ds) a e in
    subst (IsAggregate (fields_of s) by) read.2 (sole-order s ds read.0 read.1)
aggregate-by-sound s by ds a false false false true t u e =
    bound (sole_reference s ds) sum_of_column a e (λ c b e1. sum-sound (fields_of s) by c a (sole-at s ds c b) e1)
aggregate-by-sound s by ds a false false false false true u e =
    let read = mapped_Ok (λ (c : Column). aggregate.Least c.0) (sole_ordered s ds) a e in
    subst (IsAggregate (fields_of s) by) read.2 (sole-order s ds read.0 read.1)
aggregate-by-sound s by ds a false false false false false true e =
    let read = mapped_Ok (λ (c : Column). aggregate.Greatest c.0) (sole_ordered s ds) a e in
    subst (IsAggregate (fields_of s) by) read.2 (sole-order s ds read.0 read.1)
aggregate-by-sound s by ds a false false false false false false e = cc

pub aggregate-sound : (s : Scope) (by w : List ℕ) (ds : Items) (a : Aggregate) → aggregate_by s by w ds ≡ Ok a
    → IsAggregate (fields_of s) by a
unfolding aggregate_by
aggregate-sound s by w ds a e =
    aggregate-by-sound s by ds a (bytes_eq w (codes "col")) (bytes_eq w (codes "count")) (bytes_eq w (codes "distinct"))
    (bytes_eq w (codes "sum")) (bytes_eq w (codes "least")) (bytes_eq w (codes "greatest")) e
