-- The null weights of fields, as loops add them up.
use Rattle.std.proofs.Common.{
  ◌≡◌,
  ℕ,
  ◌+◌,
  ◌<◌,
  ◌≤◌,
  Bool,
  true,
  false,
  ◌&&◌,
  List,
  length,
  drop,
  get_or,
  ap,
  sym,
  subst,
  arith,
}
use Rattle.values.specs.Rose.{Rose, node, Roses, none, more, kids_of, rose_size}
use Rattle.values.proofs.WeightLemmas.{own-null_weight}
use Rattle.values.proofs.Roses.{kids_step, kids_end, kid_smaller}
use Rattle.values.specs.Layouts.{null_weight, null_weights}
use Rattle.values.specs.declared.layout.Layout.{Layout}
use Rattle.schema_meta.specs.Entry.{Entry}
use Rattle.schema_meta.specs.FieldLayouts.{layout_of, layouts_below, null_weight_fits, null_weights_fit}
use Rattle.schema_meta.proofs.Counts.{fields_step}

abbrev left : List (Rose Entry) → ℕ → Roses Layout
left fs k = layouts_below (kids_of (drop k fs))

left-more :
    (fs : List (Rose Entry)) (k : ℕ) (e d : Rose Entry) → e ≡ get_or fs k d → k < length fs
    → left fs k ≡ more (layout_of e) (left fs (k + 1))
left-more fs k e d is below = ap layouts_below (kids_step fs k e d is below)

left-none : (fs : List (Rose Entry)) (k : ℕ) → length fs ≤ k → left fs k ≡ none
left-none fs k all = ap layouts_below (kids_end fs k all)

-- one field after another
pub within_slot_step :
    (fs : List (Rose Entry)) (k : ℕ) (e d : Rose Entry) (whole : Bool) → e ≡ get_or fs k d → k < length fs
    → null_weight_fits (layout_of e) ≡ true
    → null_weights_fit (left fs k) ≡ whole → null_weights_fit (left fs (k + 1)) ≡ whole
within_slot_step fs k e d whole is below null_weight_within all =
    let P : Roses Layout → Type 0 = λ ts. null_weights_fit ts ≡ whole in
    let Q : Bool → Type 0 = λ b. (b && null_weights_fit (left fs (k + 1))) ≡ whole in
    subst Q null_weight_within (subst P (left-more fs k e d is below) all)

pub within_slot_stop :
    (fs : List (Rose Entry)) (k : ℕ) (e d : Rose Entry) (whole : Bool) → e ≡ get_or fs k d → k < length fs
    → null_weight_fits (layout_of e) ≡ false
    → null_weights_fit (left fs k) ≡ whole → whole ≡ false
within_slot_stop fs k e d whole is below wide all =
    let P : Roses Layout → Type 0 = λ ts. null_weights_fit ts ≡ whole in
    let Q : Bool → Type 0 = λ b. (b && null_weights_fit (left fs (k + 1))) ≡ whole in
    sym (subst Q wide (subst P (left-more fs k e d is below) all))

pub within_slot_end : (fs : List (Rose Entry)) (k : ℕ) (whole : Bool) → length fs ≤ k
    → null_weights_fit (left fs k) ≡ whole → whole ≡ true
within_slot_end fs k whole all left-is =
    let P : Roses Layout → Type 0 = λ ts. null_weights_fit ts ≡ whole in
    sym (subst P (left-none fs k all) left-is)

pub slots_step :
    (fs : List (Rose Entry)) (k : ℕ) (e d : Rose Entry) → e ≡ get_or fs k d → k < length fs
    → null_weights (left fs k) ≡ null_weight (layout_of e) + null_weights (left fs (k + 1))
slots_step fs k e d is below = ap null_weights (left-more fs k e d is below)

pub slots_end : (fs : List (Rose Entry)) (k : ℕ) → length fs ≤ k → null_weights (left fs k) ≡ 0
slots_end fs k all = ap null_weights (left-none fs k all)

-- there is a field
pub some_size : (f : Rose Entry) → 1 ≤ rose_size f
some_size (node e kids) = omega arith

pub ruleset null_weights_within =
    (within_slot_step, within_slot_stop, within_slot_end, slots_step, slots_end, fields_step, kid_smaller, own-null_weight)
