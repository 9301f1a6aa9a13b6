-- The laws of filters.
use Rattle.std.proofs.Common.{
  ◌≡◌,
  ℕ,
  ◌<◌,
  Bool,
  true,
  false,
  not,
  ◌&&◌,
  ◌||◌,
  List,
  [],
  ◌∷◌,
  length,
  map,
  None,
  Some,
  refl,
  ap,
  ap₂,
  ◌∙◌,
}
use Rattle.std.specs.Prelude.{if◌then◌else◌}
use Rattle.std.specs.declared.cmp.Ordering.{Ordering}
use Rattle.std.specs.declared.cmp.Ordering.TheVariants.{Less, Equal, Greater}
use Rattle.std.specs.List.{list_any}
use Rattle.values.specs.Datum.{Datum, is_null}
use Rattle.values.specs.Order.{datum_cmp}
use Rattle.view_lang.specs.Cells.{cell_at}
use Rattle.view_lang.specs.Filter.{Filters, all_of, compare, negation, no_part, null_in, one_of, part, parts_of}
use Rattle.view_lang.specs.Truth.{
  Truth,
  both,
  compared,
  either,
  holds,
  is_true,
  negated,
  operand_of,
  truth,
  truth_of_all,
  truth_of_any,
}
use Rattle.view_lang.specs.ViewLaws.{
  AllOfMeans,
  AreOver,
  HasNoNulls,
  IsValueIn,
  NeverBoth,
  NotOfAll,
  NotOfComparison,
  NotOfOne,
  OneOfMeans,
  TwoValuedWithoutNulls,
  UnknownStays,
  is_false,
  is_unknown,
  opposite,
  reading,
  reading_of_all,
  reading_of_any,
}
use Rattle.view_lang.specs.declared.filter.Comparison.{Comparison}
use Rattle.view_lang.specs.declared.filter.Comparison.TheVariants as than
use Rattle.view_lang.specs.declared.filter.Operand.{Operand}
use Rattle.view_lang.specs.declared.filter.Operand.TheVariants as operand

pub unknown-stays : UnknownStays
unfolding truth
unknown-stays row f h = ap negated h

negated-both : (a b : Truth) → negated (both a b) ≡ either (negated a) (negated b)
negated-both (Some false) b = refl
negated-both (Some true) b = refl
negated-both None (Some false) = refl
negated-both None (Some true) = refl
negated-both None None = refl

negated-either : (a b : Truth) → negated (either a b) ≡ both (negated a) (negated b)
negated-either (Some true) b = refl
negated-either (Some false) b = refl
negated-either None (Some true) = refl
negated-either None (Some false) = refl
negated-either None None = refl

pub not-of-all : NotOfAll
unfolding truth
not-of-all row [] = refl
not-of-all row (f ∷ fs) =
    negated-both (truth row f) (truth_of_all row (parts_of fs))
    ∙ ap (either (negated (truth row f))) (not-of-all row fs)

pub not-of-one : NotOfOne
unfolding truth
not-of-one row [] = refl
not-of-one row (f ∷ fs) =
    negated-either (truth row f) (truth_of_any row (parts_of fs))
    ∙ ap (both (negated (truth row f))) (not-of-one row fs)

pub all-of-means : AllOfMeans
unfolding truth
all-of-means row [] = refl
all-of-means row (f ∷ fs) =
    ap (both (truth row f)) (all-of-means row fs)
    ∙ go (truth row f) (list_any is_false (map (truth row) fs)) (list_any is_unknown (map (truth row) fs))
  where
    go : (t : Truth) (a b : Bool)
        → both t (if a then Some false else if b then None else Some true)
        ≡ (if is_false t || a then Some false else if is_unknown t || b then None else Some true)
    go (Some false) a b = refl
    go (Some true) a b = refl
    go None true b = refl
    go None false true = refl
    go None false false = refl

pub one-of-means : OneOfMeans
unfolding truth
one-of-means row [] = refl
one-of-means row (f ∷ fs) =
    ap (either (truth row f)) (one-of-means row fs)
    ∙ go (truth row f) (list_any is_true (map (truth row) fs)) (list_any is_unknown (map (truth row) fs))
  where
    go : (t : Truth) (a b : Bool)
        → either t (if a then Some true else if b then None else Some false)
        ≡ (if is_true t || a then Some true else if is_unknown t || b then None else Some false)
    go (Some false) a b = refl
    go (Some true) a b = refl
    go None true b = refl
    go None false true = refl
    go None false false = refl

not-holds : (c : Comparison) (o : Ordering) → not (holds c o) ≡ holds (opposite c) o
not-holds than.Equal Less = refl
not-holds than.Equal Equal = refl
not-holds than.Equal Greater = refl
not-holds than.Different Less = refl
not-holds than.Different Equal = refl
not-holds than.Different Greater = refl
not-holds than.Below Less = refl
not-holds than.Below Equal = refl
not-holds than.Below Greater = refl
not-holds than.AtMost Less = refl
not-holds than.AtMost Equal = refl
not-holds than.AtMost Greater = refl
not-holds than.Above Less = refl
not-holds than.Above Equal = refl
not-holds than.Above Greater = refl
not-holds than.AtLeast Less = refl
not-holds than.AtLeast Equal = refl
not-holds than.AtLeast Greater = refl

negated-compared : (c : Comparison) (a b : Datum) → negated (compared c a b) ≡ compared (opposite c) a b
negated-compared c a b = go (is_null a || is_null b)
  where
    go : (n : Bool)
        → negated (if n then None else Some (holds c (datum_cmp a b)))
        ≡ (if n then None else Some (holds (opposite c) (datum_cmp a b)))
    go true = refl
    go false = ap (λ t. Some t) (not-holds c (datum_cmp a b))

pub not-of-comparison : NotOfComparison
unfolding truth
not-of-comparison row c k o = negated-compared c (cell_at row k) (operand_of row o)

pub never-both : NeverBoth
unfolding truth
never-both row f = go (truth row f)
  where
    go : (t : Truth) → (is_true t && is_true (negated t)) ≡ false
    go (Some true) = refl
    go (Some false) = refl
    go None = refl

value_at : (row : List Datum) (k : ℕ) → HasNoNulls row → k < length row → is_null (cell_at row k) ≡ false
value_at row k full below = full k _ below

operand_value : (row : List Datum) (o : Operand) → HasNoNulls row → IsValueIn (length row) o
    → is_null (operand_of row o) ≡ false
operand_value row (operand.Constant d) full h = h
operand_value row (operand.Column k) full h = value_at row k full h

compared-values : (c : Comparison) (a b : Datum) → is_null a ≡ false → is_null b ≡ false
    → compared c a b ≡ Some (holds c (datum_cmp a b))
compared-values c a b h k = rw (h, k) refl

both-values : (a b : Bool) → both (Some a) (Some b) ≡ Some (a && b)
both-values true b = refl
both-values false b = refl

either-values : (a b : Bool) → either (Some a) (Some b) ≡ Some (a || b)
either-values true b = refl
either-values false b = refl

mutual
  unfolding truth

  pub two-valued : TwoValuedWithoutNulls
  two-valued row (compare c k o) full over =
      compared-values c (cell_at row k) (operand_of row o) (value_at row k full over.0)
      (operand_value row o full over.1)
  two-valued row (null_in k) full over = refl
  two-valued row (negation f) full over = ap negated (two-valued row f full over)
  two-valued row (all_of fs) full over = two-valued_all row fs full over
  two-valued row (one_of fs) full over = two-valued_any row fs full over

  two-valued_all : (row : List Datum) (fs : Filters) → HasNoNulls row → AreOver (length row) fs
      → truth_of_all row fs ≡ Some (reading_of_all row fs)
  two-valued_all row no_part full over = refl
  two-valued_all row (part f fs) full over =
      ap₂ both (two-valued row f full over.0) (two-valued_all row fs full over.1)
      ∙ both-values (reading row f) (reading_of_all row fs)

  two-valued_any : (row : List Datum) (fs : Filters) → HasNoNulls row → AreOver (length row) fs
      → truth_of_any row fs ≡ Some (reading_of_any row fs)
  two-valued_any row no_part full over = refl
  two-valued_any row (part f fs) full over =
      ap₂ either (two-valued row f full over.0) (two-valued_any row fs full over.1)
      ∙ either-values (reading row f) (reading_of_any row fs)

pub ruleset truth_laws = (
  unknown-stays,
  not-of-all,
  not-of-one,
  all-of-means,
  one-of-means,
  not-of-comparison,
  never-both,
  two-valued,
)
