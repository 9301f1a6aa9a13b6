-- Truths of filters on rows, from those of comparisons of columns.
use Rattle.std.proofs.Common.{
  ◌≡◌,
  ℕ,
  zero,
  suc,
  ◌+◌,
  ◌<◌,
  ◌≤◌,
  List,
  [],
  ◌∷◌,
  Some,
  None,
  length,
  drop,
  get_or,
  refl,
  ap,
  sym,
  subst,
  ◌∙◌,
  arith,
}
use Rattle.std.specs.Prelude.{All, true, false, map}
use Rattle.std.specs.List.{range_with_len}
use Rattle.std.proofs.lemmas.List.{get_or-map}
use Rattle.std.proofs.lemmas.List.FromFn.{fill_by_all, get_or-map-range_with_len, length-map-range_with_len}
use Rattle.std.proofs.lemmas.List.Elements.{All-get_or}
use Rattle.bitmaps.specs.Truths.{Truth, both as both_of, either as either_of, negated as negated_of, paired}
use Rattle.bitmaps.proofs.TruthLemmas.{length-paired}
use Rattle.values.specs.Datum.{Datum, null, is_null}
use Rattle.arrays.specs.Checked.{CheckedColumn}
use Rattle.view_lang.specs.Filter.{Filter, compare, null_in, negation, all_of, one_of, Filters, parts_of}
use Rattle.view_lang.specs.Truth.{compared, both, either, truth, truth_of_all, truth_of_any}
use Rattle.view_lang.specs.declared.filter.Comparison.{Comparison}
use Rattle.view_lang.specs.declared.filter.Operand.TheVariants as operand
use Rattle.view_lang.proofs.Truths.{all_step, all_end, one_step, one_end}
use Rattle.column_truths.specs.Compared.{all_alike, columns_compared, compared_with, nulls_in}
use Rattle.column_truths.specs.RowTruths.{
  IsWithin,
  AreWithin,
  row_at,
  truths_in,
  truths_of_all,
  truths_of_any,
}
use Rattle.column_truths.proofs.JoinedTruths.{each_compared}

same-map : (f g : ℕ → Truth) (a n : ℕ) → ((i : ℕ) → f i ≡ g i) → map f (range_with_len a n) ≡ map g (range_with_len a n)
same-map f g a zero same = refl
same-map f g a (suc n) same =
    ap (λ t. t ∷ map f (range_with_len (a + 1) n)) (same a) ∙ ap (λ ts. g a ∷ ts) (same-map f g (a + 1) n same)

-- the cell of a column in row i
cell-there : (columns : List CheckedColumn) (k : ℕ) (col : CheckedColumn) (i : ℕ) → k < length columns
    → col ≡ get_or columns k col
    → get_or (row_at columns i) k null ≡ get_or col.cells i null
cell-there columns k col i below is =
    get_or-map (λ (c : CheckedColumn). get_or c.cells i null) columns k col null below
    ∙ ap (λ (c : CheckedColumn). get_or c.cells i null) (sym is)

long-there : (columns : List CheckedColumn) (k n : ℕ) (col : CheckedColumn) → k < length columns
    → col ≡ get_or columns k col → All (λ c. length c.cells ≡ n) columns → length col.cells ≡ n
long-there columns k n col below is long =
    subst (λ (c : CheckedColumn). length c.cells ≡ n) (sym is)
    (All-get_or (λ (c : CheckedColumn). length c.cells ≡ n) columns k col below long)

pub constant_rows : (c : Comparison) (k n : ℕ) (v : Datum) (columns : List CheckedColumn) (col : CheckedColumn)
    → k < length columns → col ≡ get_or columns k col → All (λ c. length c.cells ≡ n) columns
    → compared_with c v col.cells ≡ truths_in n columns (compare c k (operand.Constant v))
unfolding truth
constant_rows c k n v columns col below is long =
    sym (each_compared c v col.cells n (long-there columns k n col below is long))
    ∙ same-map (λ i. compared c (get_or col.cells i null) v)
    (λ i. truth (row_at columns i) (compare c k (operand.Constant v))) 0 n
    (λ i. ap (λ d. compared c d v) (sym (cell-there columns k col i below is)))

pub column_rows : (c : Comparison) (k j n : ℕ) (columns : List CheckedColumn) (a b : CheckedColumn)
    → k < length columns → j < length columns → a ≡ get_or columns k a → b ≡ get_or columns j b
    → All (λ c. length c.cells ≡ n) columns
    → columns_compared c a.cells b.cells ≡ truths_in n columns (compare c k (operand.Column j))
unfolding truth columns_compared
column_rows c k j n columns a b ka jb ea eb long =
    ap (λ m. map (λ i. compared c (get_or a.cells i null) (get_or b.cells i null)) (range_with_len 0 m))
    (long-there columns k n a ka ea long)
    ∙ same-map (λ i. compared c (get_or a.cells i null) (get_or b.cells i null))
    (λ i. truth (row_at columns i) (compare c k (operand.Column j))) 0 n
    (λ i. ap (λ d. compared c d (get_or b.cells i null)) (sym (cell-there columns k a i ka ea))
    ∙ ap (compared c (get_or (row_at columns i) k null)) (sym (cell-there columns j b i jb eb)))

pub null_rows : (k n : ℕ) (columns : List CheckedColumn) (col : CheckedColumn)
    → k < length columns → col ≡ get_or columns k col → All (λ c. length c.cells ≡ n) columns
    → nulls_in col.cells ≡ truths_in n columns (null_in k)
unfolding truth nulls_in
null_rows k n columns col below is long =
    ap (λ m. map (λ i. Some (is_null (get_or col.cells i null))) (range_with_len 0 m))
    (long-there columns k n col below is long)
    ∙ same-map (λ i. Some (is_null (get_or col.cells i null))) (λ i. truth (row_at columns i) (null_in k)) 0 n
    (λ i. ap (λ d. Some (is_null d)) (sym (cell-there columns k col i below is)))

negated-map : (f : ℕ → Truth) (a n : ℕ)
    → map negated_of (map f (range_with_len a n)) ≡ map (λ i. negated_of (f i)) (range_with_len a n)
negated-map f a zero = refl
negated-map f a (suc n) = ap (λ ts. negated_of (f a) ∷ ts) (negated-map f (a + 1) n)

pub negated_rows : (n : ℕ) (columns : List CheckedColumn) (f : Filter) (ts : List Truth) → ts ≡ truths_in n columns f
    → map negated_of ts ≡ truths_in n columns (negation f)
unfolding truth
negated_rows n columns f ts is =
    ap (map negated_of) is ∙ negated-map (λ i. truth (row_at columns i) f) 0 n

-- parts are within what the filter is within
pub part_within : (n : ℕ) (fs : List Filter) (i : ℕ) (f d : Filter) → f ≡ get_or fs i d → i < length fs
    → AreWithin n (parts_of fs) → IsWithin n f
part_within n [] i f d is below h = absurd (omega (arith, below))
part_within n (g ∷ fs) zero f d is below h = subst (IsWithin n) (sym is) h.0
part_within n (g ∷ fs) (suc i) f d is below h = part_within n fs i f d is (omega (arith, below)) h.1

get_or-paired : (f : Truth → Truth → Truth) (xs ys : List Truth) (i : ℕ) → i < length xs → length ys ≡ length xs
    → get_or (paired f xs ys) i None ≡ f (get_or xs i None) (get_or ys i None)
unfolding paired
get_or-paired f [] ys i h e = absurd (omega (arith, h))
get_or-paired f (x ∷ xs) [] i h e = absurd (omega (arith, e))
get_or-paired f (x ∷ xs) (y ∷ ys) zero h e = refl
get_or-paired f (x ∷ xs) (y ∷ ys) (suc i) h e = get_or-paired f xs ys i (omega (arith, h)) (omega (arith, e))

pub length-truths_in : (n : ℕ) (columns : List CheckedColumn) (f : Filter) → length (truths_in n columns f) ≡ n
length-truths_in n columns f = length-map-range_with_len (λ i. truth (row_at columns i) f) 0 n

-- the truths of the parts so far; with those of the others they are those of all
pub record AllKnown (n : ℕ) (columns : List CheckedColumn) (fs : List Filter) (k : ℕ) (known : List Truth) : Type 0 where
  pub many : length known ≡ n
  pub each : (i : ℕ) → i < n
      → both (get_or known i None) (truth_of_all (row_at columns i) (parts_of (drop k fs)))
      ≡ truth_of_all (row_at columns i) (parts_of fs)

pub record OneKnown (n : ℕ) (columns : List CheckedColumn) (fs : List Filter) (k : ℕ) (known : List Truth) : Type 0 where
  pub many : length known ≡ n
  pub each : (i : ℕ) → i < n
      → either (get_or known i None) (truth_of_any (row_at columns i) (parts_of (drop k fs)))
      ≡ truth_of_any (row_at columns i) (parts_of fs)

pub all_none : (n : ℕ) (columns : List CheckedColumn) (fs : List Filter) (known : List Truth)
    → known ≡ all_alike true n → AllKnown n columns fs 0 known
unfolding all_alike
all_none n columns fs known is = record {
  many = ap length is ∙ length-map-range_with_len (λ i. Some true) 0 n;
  each = λ i below.
      ap (λ (ts : List Truth). both (get_or ts i None) (truth_of_all (row_at columns i) (parts_of fs))) is
      ∙ ap (λ t. both t (truth_of_all (row_at columns i) (parts_of fs)))
      (get_or-map-range_with_len (λ i. Some true) 0 n i i None below (omega arith));
}

pub one_none : (n : ℕ) (columns : List CheckedColumn) (fs : List Filter) (known : List Truth)
    → known ≡ all_alike false n → OneKnown n columns fs 0 known
unfolding all_alike
one_none n columns fs known is = record {
  many = ap length is ∙ length-map-range_with_len (λ i. Some false) 0 n;
  each = λ i below.
      ap (λ (ts : List Truth). either (get_or ts i None) (truth_of_any (row_at columns i) (parts_of fs))) is
      ∙ ap (λ t. either t (truth_of_any (row_at columns i) (parts_of fs)))
      (get_or-map-range_with_len (λ i. Some false) 0 n i i None below (omega arith));
}

-- the truth of row i
at-row : (n : ℕ) (columns : List CheckedColumn) (f : Filter) (more : List Truth) (i : ℕ) → more ≡ truths_in n columns f
    → i < n → get_or more i None ≡ truth (row_at columns i) f
at-row n columns f more i is below =
    ap (λ (ts : List Truth). get_or ts i None) is
    ∙ get_or-map-range_with_len (λ j. truth (row_at columns j) f) 0 n i i None below (omega arith)

pub all_more : (n : ℕ) (columns : List CheckedColumn) (fs : List Filter) (k : ℕ) (f d : Filter)
    (known more next : List Truth)
    → f ≡ get_or fs k d → k < length fs → more ≡ truths_in n columns f → next ≡ paired both_of known more
    → AllKnown n columns fs k known → AllKnown n columns fs (k + 1) next
all_more n columns fs k f d known more next is below read sum before =
    let same : length more ≡ length known = ap length read ∙ length-truths_in n columns f ∙ sym before.many in
    let many : length next ≡ n = ap length sum ∙ length-paired both_of known more same ∙ before.many in
    record {
      many = many;
      each = λ i inside.
          all_step (row_at columns i) fs k f d (get_or known i None) (get_or more i None) (get_or next i None)
          (truth_of_all (row_at columns i) (parts_of fs)) is below (at-row n columns f more i read inside)
          (ap (λ (ts : List Truth). get_or ts i None) sum
          ∙ get_or-paired both_of known more i (omega (arith, inside, before.many)) same)
          (before.each i inside);
    }

pub one_more : (n : ℕ) (columns : List CheckedColumn) (fs : List Filter) (k : ℕ) (f d : Filter)
    (known more next : List Truth)
    → f ≡ get_or fs k d → k < length fs → more ≡ truths_in n columns f → next ≡ paired either_of known more
    → OneKnown n columns fs k known → OneKnown n columns fs (k + 1) next
one_more n columns fs k f d known more next is below read sum before =
    let same : length more ≡ length known = ap length read ∙ length-truths_in n columns f ∙ sym before.many in
    let many : length next ≡ n = ap length sum ∙ length-paired either_of known more same ∙ before.many in
    record {
      many = many;
      each = λ i inside.
          one_step (row_at columns i) fs k f d (get_or known i None) (get_or more i None) (get_or next i None)
          (truth_of_any (row_at columns i) (parts_of fs)) is below (at-row n columns f more i read inside)
          (ap (λ (ts : List Truth). get_or ts i None) sum
          ∙ get_or-paired either_of known more i (omega (arith, inside, before.many)) same)
          (before.each i inside);
    }

pub all_known : (n : ℕ) (columns : List CheckedColumn) (fs : List Filter) (k : ℕ) (known : List Truth) → length fs ≤ k
    → AllKnown n columns fs k known → known ≡ truths_of_all n columns (parts_of fs)
all_known n columns fs k known past all =
    fill_by_all (λ i. truth_of_all (row_at columns i) (parts_of fs)) known n None all.many
    (λ i below. all_end (row_at columns i) fs k (get_or known i None) (truth_of_all (row_at columns i) (parts_of fs)) past
    (all.each i below))

pub one_known : (n : ℕ) (columns : List CheckedColumn) (fs : List Filter) (k : ℕ) (known : List Truth) → length fs ≤ k
    → OneKnown n columns fs k known → known ≡ truths_of_any n columns (parts_of fs)
one_known n columns fs k known past all =
    fill_by_all (λ i. truth_of_any (row_at columns i) (parts_of fs)) known n None all.many
    (λ i below. one_end (row_at columns i) fs k (get_or known i None) (truth_of_any (row_at columns i) (parts_of fs)) past
    (all.each i below))

-- an `and` or an `or` of parts
pub all_of_rows : (n : ℕ) (columns : List CheckedColumn) (fs : Filters)
    → truths_of_all n columns fs ≡ truths_in n columns (all_of fs)
unfolding truth
all_of_rows n columns fs = refl

pub one_of_rows : (n : ℕ) (columns : List CheckedColumn) (fs : Filters)
    → truths_of_any n columns fs ≡ truths_in n columns (one_of fs)
unfolding truth
one_of_rows n columns fs = refl

pub ruleset row_laws = (constant_rows, column_rows, null_rows, negated_rows, all_of_rows, one_of_rows)

pub ruleset part_laws = (part_within, all_none, one_none, all_more, one_more, all_known, one_known)
