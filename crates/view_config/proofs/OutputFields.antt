-- The fields of outputs: their sizes and their types.
use Rattle.std.proofs.Common.{
  ◌≡◌,
  ℕ,
  zero,
  suc,
  ◌+◌,
  ◌<◌,
  ◌≤◌,
  List,
  [],
  ◌∷◌,
  length,
  get_or,
  drop,
  map,
  refl,
  ap,
  sym,
  ◌∙◌,
  Option,
  Some,
  None,
  slice_get,
}
use Rattle.std.proofs.lemmas.List.{drop_all, drop_more}
use Rattle.std.proofs.lemmas.Option.{get_or_from_slice_get}
use Rattle.values.specs.Rose.{Rose, kids_of, rose_size, roses_size}
use Rattle.values.specs.Logical.{NamedType}
use Rattle.values.specs.declared.col_type.ColType.TheVariants as col
use Rattle.view_lang.specs.Filter.{Filter}
use Rattle.view_lang.specs.Outputs.{GroupOutput, Output, columns, groups}
use Rattle.view_lang.specs.TableRules.{type_of}
use Rattle.view_lang.specs.ViewColumns.{output_field, output_fields}
use Rattle.view_lang.specs.Aggregates.{aggregate_field}
use Rattle.view_lang.specs.Fields.{field_at, no_field}
use Rattle.view_config.specs.Outputs.{all_groups}
use Rattle.view_config.proofs.RenamedFields.{renamed-size, renamed-type}
use Rattle.view_config.proofs.AggregateCases.{aggregate-size, aggregate-type}

-- a column by its number
pub field-some : (fs : List (Rose NamedType)) (k : ℕ) (f : Rose NamedType) → Some f ≡ slice_get fs k → field_at fs k ≡ f
field-some fs k f e = get_or_from_slice_get fs k f no_field (sym e)

pub field-none : (fs : List (Rose NamedType)) (k : ℕ) → None ≡ slice_get fs k → field_at fs k ≡ no_field
field-none [] k e = refl
field-none (f ∷ fs) zero e = cc
field-none (f ∷ fs) (suc k) e = field-none fs k e

pub ruleset column_sizes = (field-some, field-none)

-- one output after the other
pub outputs-step :
    (fields : List (Rose NamedType)) (os : List Output) (k : ℕ) (o d : Output) → o ≡ get_or os k d → k < length os
    → roses_size (kids_of (output_fields fields (columns (drop k os))))
    ≡ rose_size (field_at fields o.column) + roses_size (kids_of (output_fields fields (columns (drop (k + 1) os))))
outputs-step fields os k o d is below =
    let rest = output_fields fields (columns (drop (k + 1) os)) in
    let split : drop k os ≡ o ∷ drop (k + 1) os = drop_more os k d below ∙ ap (λ p. p ∷ drop (k + 1) os) (sym is) in
    ap (λ (ps : List Output). roses_size (kids_of (output_fields fields (columns ps)))) split
    ∙ ap (λ n. n + roses_size (kids_of rest)) (renamed-size o.name (field_at fields o.column))

pub outputs-end : (fields : List (Rose NamedType)) (os : List Output) (k : ℕ) → length os ≤ k
    → roses_size (kids_of (output_fields fields (columns (drop k os)))) ≡ 0
outputs-end fields os k past =
    ap (λ (ps : List Output). roses_size (kids_of (output_fields fields (columns ps)))) (drop_all k os past)

pub groups-step :
    (fields : List (Rose NamedType)) (by : List ℕ) (os : List GroupOutput) (k : ℕ) (o d : GroupOutput)
    → o ≡ get_or os k d → k < length os
    → roses_size (kids_of (output_fields fields (all_groups by (drop k os))))
    ≡ rose_size (aggregate_field fields by [] o.aggregate)
    + roses_size (kids_of (output_fields fields (all_groups by (drop (k + 1) os))))
groups-step fields by os k o d is below =
    let rest = output_fields fields (all_groups by (drop (k + 1) os)) in
    let split : drop k os ≡ o ∷ drop (k + 1) os = drop_more os k d below ∙ ap (λ p. p ∷ drop (k + 1) os) (sym is) in
    ap (λ (ps : List GroupOutput). roses_size (kids_of (output_fields fields (all_groups by ps)))) split
    ∙ ap (λ n. n + roses_size (kids_of rest)) (aggregate-size fields by o.name o.aggregate)

pub groups-end :
    (fields : List (Rose NamedType)) (by : List ℕ) (os : List GroupOutput) (k : ℕ) → length os ≤ k
    → roses_size (kids_of (output_fields fields (all_groups by (drop k os)))) ≡ 0
groups-end fields by os k past =
    ap (λ (ps : List GroupOutput). roses_size (kids_of (output_fields fields (all_groups by ps)))) (drop_all k os past)

pub ruleset output_sizes = (outputs-step, outputs-end, groups-step, groups-end)

-- an output by its place
mapped-none : {X : Type 0} (f : X → Rose NamedType) (xs : List X) (k : ℕ) → None ≡ slice_get xs k
    → field_at (map f xs) k ≡ no_field
mapped-none f [] k e = refl
mapped-none f (x ∷ xs) zero e = cc
mapped-none f (x ∷ xs) (suc k) e = mapped-none f xs k e

mapped-some : {X : Type 0} (f : X → Rose NamedType) (xs : List X) (k : ℕ) (x : X) → Some x ≡ slice_get xs k
    → field_at (map f xs) k ≡ f x
mapped-some f [] k x e = cc
mapped-some f (y ∷ xs) zero x e = let same : y ≡ x = cc in ap f same
mapped-some f (y ∷ xs) (suc k) x e = mapped-some f xs k x e

pub type-output :
    (fields : List (Rose NamedType)) (os : List Output) (k : ℕ) (o : Output) → Some o ≡ slice_get os k
    → type_of (field_at (output_fields fields (columns os)) k) ≡ type_of (field_at fields o.column)
type-output fields os k o e =
    ap type_of (mapped-some (output_field fields) os k o e) ∙ renamed-type o.name (field_at fields o.column)

pub type-no-output :
    (fields : List (Rose NamedType)) (os : List Output) (k : ℕ) → None ≡ slice_get os k
    → type_of (field_at (output_fields fields (columns os)) k) ≡ col.Bool
type-no-output fields os k e = ap type_of (mapped-none (output_field fields) os k e)

pub type-group :
    (fields : List (Rose NamedType)) (by : List ℕ) (os : List GroupOutput) (having : Option Filter) (k : ℕ)
    (o : GroupOutput) → Some o ≡ slice_get os k
    → type_of (field_at (output_fields fields (groups by os having)) k) ≡ type_of (aggregate_field fields by [] o.aggregate)
type-group fields by os having k o e =
    ap type_of (mapped-some (λ p. aggregate_field fields by p.name p.aggregate) os k o e)
    ∙ aggregate-type fields by o.name o.aggregate

pub type-no-group :
    (fields : List (Rose NamedType)) (by : List ℕ) (os : List GroupOutput) (having : Option Filter) (k : ℕ)
    → None ≡ slice_get os k → type_of (field_at (output_fields fields (groups by os having)) k) ≡ col.Bool
type-no-group fields by os having k e =
    ap type_of (mapped-none (λ p. aggregate_field fields by p.name p.aggregate) os k e)

pub ruleset output_types = (type-output, type-no-output, type-group, type-no-group)
