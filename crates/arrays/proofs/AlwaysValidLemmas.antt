-- No cell of an array that needs no check has a fault.
use Rattle.std.proofs.Common.{
  ◌≡◌,
  ℕ,
  List,
  ◌+◌,
  ◌<◌,
  ◌≤◌,
  Bool,
  true,
  false,
  ◌&&◌,
  length,
  drop,
  get_or,
  refl,
  ap,
  sym,
  ◌∙◌,
}
use Rattle.std.specs.Prelude.{Option, None, Some, Ok, Err, zero, suc, if◌then◌else◌}
use Rattle.values.specs.Reading.{Reading, cons, mapped, each, IsValid}
use Rattle.values.proofs.Readings.{both_valid}
use Rattle.values.specs.Datum.{Datum, null}
use Rattle.values.specs.declared.layout.Layout.{Layout}
use Rattle.values.specs.declared.layout.Layout.TheVariants.{
  Bool as Booleans,
  Int,
  Decimal,
  FixedSizeBinary,
  Utf8,
  Binary,
  List as Listed,
  Struct,
}
use Rattle.array_layout.specs.declared.array.DictionaryValues.{DictionaryValues}
use Rattle.array_layout.specs.Cells.{cell, first_cell, row, cell_by, slot_by, value_by}
use Rattle.values.specs.Rose.{Rose, node, Roses, none, more, kids_of}
use Rattle.values.proofs.Roses.{kids_step, kids_end}
use Rattle.array_layout.specs.declared.array.ArrayData.{ArrayData}
use Rattle.arrays.specs.AlwaysValid.{is_always_valid, are_always_valid, is_always_valid_layout, is_always_valid_data}

and_true : (a b c : Bool) → a ≡ true → (a && b) ≡ c → b ≡ c
and_true true b c h e = e
and_true false b c h e = cc

and_false : (a b c : Bool) → a ≡ false → (a && b) ≡ c → c ≡ false
and_false true b c h e = cc
and_false false b c h e = sym e

pub always_valid_step :
    (ts : List (Rose ArrayData)) (k : ℕ) (e d : Rose ArrayData) (all : Bool) → e ≡ get_or ts k d → k < length ts
    → is_always_valid e ≡ true
    → are_always_valid (kids_of (drop k ts)) ≡ all → are_always_valid (kids_of (drop (k + 1) ts)) ≡ all
always_valid_step ts k e d all is below always_valid left =
    and_true (is_always_valid e) (are_always_valid (kids_of (drop (k + 1) ts))) all always_valid
    (sym (ap are_always_valid (kids_step ts k e d is below)) ∙ left)

pub always_valid_stop :
    (ts : List (Rose ArrayData)) (k : ℕ) (e d : Rose ArrayData) (all : Bool) → e ≡ get_or ts k d → k < length ts
    → is_always_valid e ≡ false
    → are_always_valid (kids_of (drop k ts)) ≡ all → all ≡ false
always_valid_stop ts k e d all is below restless left =
    and_false (is_always_valid e) (are_always_valid (kids_of (drop (k + 1) ts))) all restless
    (sym (ap are_always_valid (kids_step ts k e d is below)) ∙ left)

pub always_valid_end : (ts : List (Rose ArrayData)) (k : ℕ) (all : Bool) → length ts ≤ k
    → are_always_valid (kids_of (drop k ts)) ≡ all → all ≡ true
always_valid_end ts k all past left = sym (sym (ap are_always_valid (kids_end ts k past)) ∙ left)

pub ruleset always_valid_rules = (always_valid_step, always_valid_stop, always_valid_end)

both_true : (a b : Bool) → (a && b) ≡ true → (a ≡ true) × (b ≡ true)
both_true true b h = (refl, h)
both_true false b h = cc

each_valid : {X : Type 0} (f : ℕ → Reading X) → ((j : ℕ) → IsValid (f j)) → (i n : ℕ) → IsValid (each f i n)
unfolding each
each_valid f valid i zero = tt
each_valid f valid i (suc n) = both_valid cons (f i) (each f (i + 1) n) (valid i) (each_valid f valid (i + 1) n)

valid_mapped : {X Y : Type 0} (f : X → Y) (m : Reading X) → IsValid m → IsValid (mapped f m)
valid_mapped f (Ok x) h = tt
valid_mapped f (Err fs) h = absurd h

value_valid :
    (l : Layout) (b : List ℕ) (p : ArrayData) (here : ℕ → Reading Datum) (beside : ℕ → Reading (List Datum)) (i : ℕ)
    → is_always_valid_layout l ≡ true
    → ((j : ℕ) → IsValid (here j)) → IsValid (beside i) → IsValid (value_by l b p here beside i)
value_valid Booleans b p here beside i always_valid each_is row_is = tt
value_valid (Int w s) b p here beside i always_valid each_is row_is = tt
value_valid (Decimal d) b p here beside i always_valid each_is row_is = cc
value_valid (FixedSizeBinary w) b p here beside i always_valid each_is row_is = tt
value_valid (Utf8 o) b p here beside i always_valid each_is row_is = cc
value_valid (Binary o) b p here beside i always_valid each_is row_is = tt
value_valid (Listed o) b p here beside i always_valid each_is row_is = valid_mapped _ _ (each_valid here each_is _ _)
value_valid Struct b p here beside i always_valid each_is row_is = valid_mapped _ _ row_is

slot_valid :
    (o : Option DictionaryValues) (b : List ℕ) (p : ArrayData) (here : ℕ → Reading Datum) (beside : ℕ
    → Reading (List Datum)) (i : ℕ)
    → is_always_valid_data o p.layout ≡ true → ((j : ℕ) → IsValid (here j)) → IsValid (beside i)
    → IsValid (slot_by o b p here beside i)
slot_valid None b p here beside i always_valid each_is row_is =
    value_valid p.layout b p here beside i always_valid each_is row_is
slot_valid (Some w) b p here beside i always_valid each_is row_is = cc

null_or : (n : Bool) (m : Reading Datum) → IsValid m → IsValid (if n then Ok null else m)
null_or true m h = tt
null_or false m h = h

mutual
  unfolding cell_by

  pub always_valid_cell : (b : List ℕ) (t : Rose ArrayData) (i : ℕ) → is_always_valid t ≡ true → IsValid (cell b t i)
  always_valid_cell b (node p kids) i always_valid =
      let both_are = both_true (is_always_valid_data p.dictionary p.layout) (are_always_valid kids) always_valid in
      null_or _ _
      (slot_valid p.dictionary b p (λ j. first_cell b kids j) (λ j. row b kids j) i both_are.0
      (λ j. always_valid_first b kids j both_are.1)
      (always_valid_row b kids i both_are.1))

  always_valid_first : (b : List ℕ) (ts : Roses ArrayData) (i : ℕ) → are_always_valid ts ≡ true
      → IsValid (first_cell b ts i)
  always_valid_first b none i always_valid = tt
  always_valid_first b (more t ts) i always_valid =
      always_valid_cell b t i (both_true (is_always_valid t) (are_always_valid ts) always_valid).0

  always_valid_row : (b : List ℕ) (ts : Roses ArrayData) (i : ℕ) → are_always_valid ts ≡ true → IsValid (row b ts i)
  always_valid_row b none i always_valid = tt
  always_valid_row b (more t ts) i always_valid =
      let both_are = both_true (is_always_valid t) (are_always_valid ts) always_valid in
      both_valid cons (cell b t i) (row b ts i) (always_valid_cell b t i both_are.0)
      (always_valid_row b ts i both_are.1)

-- so the items of such an array need no check
pub always_valid_each : (b : List ℕ) (t : Rose ArrayData) (i n : ℕ) → is_always_valid t ≡ true
    → IsValid (each (cell b t) i n)
always_valid_each b t i n always_valid = each_valid (cell b t) (λ j. always_valid_cell b t j always_valid) i n
