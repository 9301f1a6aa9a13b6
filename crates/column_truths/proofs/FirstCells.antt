-- Filters that name the first columns alone.
use Rattle.std.proofs.Common.{
  ◌≡◌,
  ℕ,
  ◌+◌,
  ◌<◌,
  ◌≤◌,
  List,
  ◌∷◌,
  ◌++◌,
  Some,
  drop,
  get_or,
  length,
  refl,
  ap,
  sym,
  subst,
  ◌∙◌,
}
use Rattle.std.proofs.lemmas.List.{drop_all, drop_more, get_or_append_left}
use Rattle.values.specs.Datum.{Datum, null, is_null}
use Rattle.view_lang.specs.Cells.{cell_at}
use Rattle.view_lang.specs.Filter.{Filter, compare, null_in, negation, all_of, one_of, Filters, no_part, part, parts_of}
use Rattle.view_lang.specs.Truth.{both, compared, either, negated, operand_of, truth, truth_of_all, truth_of_any}
use Rattle.view_lang.specs.declared.filter.Operand.{Operand}
use Rattle.view_lang.specs.declared.filter.Operand.TheVariants as operand
use Rattle.column_truths.specs.RowTruths.{AreWithin, IsWithin, OperandIsWithin, TruthIsOfFirstCells}
use Rattle.column_truths.proofs.RowLemmas.{part_within}

first-cell : (row more : List Datum) (k : ℕ) → k < length row → cell_at (row ++ more) k ≡ cell_at row k
first-cell row more k below = get_or_append_left row more null k below

first-operand : (row more : List Datum) (o : Operand) → OperandIsWithin (length row) o
    → operand_of (row ++ more) o ≡ operand_of row o
first-operand row more (operand.Constant d) within = refl
first-operand row more (operand.Column k) within = first-cell row more k within

mutual
  unfolding truth

  first-truth : (row more : List Datum) (f : Filter) → IsWithin (length row) f → truth (row ++ more) f ≡ truth row f
  first-truth row more (compare c k o) within =
      ap (λ d. compared c d (operand_of (row ++ more) o)) (first-cell row more k within.0)
      ∙ ap (compared c (cell_at row k)) (first-operand row more o within.1)
  first-truth row more (null_in k) within = ap (λ d. Some (is_null d)) (first-cell row more k within)
  first-truth row more (negation f) within = ap negated (first-truth row more f within)
  first-truth row more (all_of fs) within = first-of_all row more fs within
  first-truth row more (one_of fs) within = first-of_any row more fs within

  first-of_all : (row more : List Datum) (fs : Filters) → AreWithin (length row) fs
      → truth_of_all (row ++ more) fs ≡ truth_of_all row fs
  first-of_all row more no_part within = refl
  first-of_all row more (part f fs) within =
      ap (λ t. both t (truth_of_all (row ++ more) fs)) (first-truth row more f within.0)
      ∙ ap (both (truth row f)) (first-of_all row more fs within.1)

  first-of_any : (row more : List Datum) (fs : Filters) → AreWithin (length row) fs
      → truth_of_any (row ++ more) fs ≡ truth_of_any row fs
  first-of_any row more no_part within = refl
  first-of_any row more (part f fs) within =
      ap (λ t. either t (truth_of_any (row ++ more) fs)) (first-truth row more f within.0)
      ∙ ap (either (truth row f)) (first-of_any row more fs within.1)

pub first_cells : TruthIsOfFirstCells
first_cells row more f within = first-truth row more f within

-- All parts are within, if those are that were not checked yet.
abbrev pub LeftWithin : ℕ → List Filter → ℕ → Type 0
LeftWithin n fs i = AreWithin n (parts_of (drop i fs)) → AreWithin n (parts_of fs)

pub left_more : (n : ℕ) (fs : List Filter) (i : ℕ) (f d : Filter) → f ≡ get_or fs i d → i < length fs → IsWithin n f
    → LeftWithin n fs i → LeftWithin n fs (i + 1)
left_more n fs i f d is below here left rest =
    let split : drop i fs ≡ f ∷ drop (i + 1) fs = drop_more fs i d below ∙ ap (λ g. g ∷ drop (i + 1) fs) (sym is) in
    left (subst (λ (gs : List Filter). AreWithin n (parts_of gs)) (sym split) (here, rest))

pub left_none : (n : ℕ) (fs : List Filter) (i : ℕ) → length fs ≤ i → LeftWithin n fs i → AreWithin n (parts_of fs)
left_none n fs i past left =
    left (subst (λ (gs : List Filter). AreWithin n (parts_of gs)) (sym (drop_all i fs past)) tt)

pub ruleset within_laws = (part_within, left_more, left_none)

pub ruleset cell_laws = (first_cells)
