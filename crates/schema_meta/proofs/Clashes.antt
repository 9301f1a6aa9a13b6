-- The types of dictionaries' values, field by field.
use Rattle.std.proofs.Common.{
  ◌≡◌,
  ℕ,
  ℤ,
  ◌+◌,
  ◌<◌,
  ◌≤◌,
  Bool,
  true,
  false,
  ◌&&◌,
  Option,
  None,
  Some,
  List,
  length,
  drop,
  get_or,
  ap,
  sym,
  subst,
  ◌∙◌,
}
use Rattle.values.specs.Rose.{Rose, Roses, kids_of}
use Rattle.values.proofs.Roses.{kids_step, kids_end, kid_smaller}
use Rattle.values.specs.declared.col_type.ColType.{ColType}
use Rattle.schema_meta.specs.Entry.{Entry}
use Rattle.schema_meta.specs.Dictionaries.{or_next, type_in, type_below, agrees, agree}

abbrev left : List (Rose Entry) → ℕ → Roses Entry
left fs k = kids_of (drop k fs)

-- a field that doesn't have the dictionary
pub types_pass :
    (id : ℤ) (fs : List (Rose Entry)) (k : ℕ) (e d : Rose Entry) (whole : Option ColType) → e ≡ get_or fs k d
    → k < length fs
    → type_in id e ≡ None → type_below id (left fs k) ≡ whole → type_below id (left fs (k + 1)) ≡ whole
types_pass id fs k e d whole is below here all =
    let P : Option ColType → Type 0 = λ o. or_next o (type_below id (left fs (k + 1))) ≡ whole in
    subst P here (sym (ap (type_below id) (kids_step fs k e d is below)) ∙ all)

-- the first that has it
pub types_found :
    (id : ℤ) (fs : List (Rose Entry)) (k : ℕ) (e d : Rose Entry) (s : ColType) (whole : Option ColType)
    → e ≡ get_or fs k d
    → k < length fs → type_in id e ≡ Some s → type_below id (left fs k) ≡ whole → Some s ≡ whole
types_found id fs k e d s whole is below here all =
    let P : Option ColType → Type 0 = λ o. or_next o (type_below id (left fs (k + 1))) ≡ whole in
    subst P here (sym (ap (type_below id) (kids_step fs k e d is below)) ∙ all)

pub types_end :
    (id : ℤ) (fs : List (Rose Entry)) (k : ℕ) (whole : Option ColType) → length fs ≤ k
    → type_below id (left fs k) ≡ whole → None ≡ whole
types_end id fs k whole all here = sym (ap (type_below id) (kids_end fs k all)) ∙ here

-- a field that agrees, and one that doesn't
pub agree_pass :
    (known : ℤ → Option ColType) (fs : List (Rose Entry)) (k : ℕ) (e d : Rose Entry) (whole : Bool) → e ≡ get_or fs k d
    → k < length fs
    → agrees known e ≡ true → agree known (left fs k) ≡ whole → agree known (left fs (k + 1)) ≡ whole
agree_pass known fs k e d whole is below here all =
    let P : Bool → Type 0 = λ b. (b && agree known (left fs (k + 1))) ≡ whole in
    subst P here (sym (ap (agree known) (kids_step fs k e d is below)) ∙ all)

pub agree_stop :
    (known : ℤ → Option ColType) (fs : List (Rose Entry)) (k : ℕ) (e d : Rose Entry) (whole : Bool) → e ≡ get_or fs k d
    → k < length fs
    → agrees known e ≡ false → agree known (left fs k) ≡ whole → false ≡ whole
agree_stop known fs k e d whole is below here all =
    let P : Bool → Type 0 = λ b. (b && agree known (left fs (k + 1))) ≡ whole in
    subst P here (sym (ap (agree known) (kids_step fs k e d is below)) ∙ all)

pub agree_end :
    (known : ℤ → Option ColType) (fs : List (Rose Entry)) (k : ℕ) (whole : Bool) → length fs ≤ k
    → agree known (left fs k) ≡ whole
    → true ≡ whole
agree_end known fs k whole all here = sym (ap (agree known) (kids_end fs k all)) ∙ here

pub ruleset clashes = (types_pass, types_found, types_end, agree_pass, agree_stop, agree_end, kid_smaller)
