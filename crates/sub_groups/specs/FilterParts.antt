-- The parts of a filter that a row of the main table decides alone, and the others.
use Rattle.std.specs.Prelude.{
  ◌==◌,
  ◌&&◌,
  ◌||◌,
  ℕ,
  Bool,
  true,
  not,
  List,
  [],
  ◌∷◌,
  Option,
  None,
  Some,
  nat_lt,
}
use Rattle.std.specs.List.{list_any}
use Rattle.values.specs.Datum.{Datum}
use Rattle.view_lang.specs.Filter.{Filter, Filters, all_of, compare, negation, no_part, null_in, one_of, part}
use Rattle.view_lang.specs.Truth.{is_true, truth}
use Rattle.sub_groups.specs.declared.columns.Columns.{Columns}
use Rattle.sub_groups.specs.declared.columns.Columns.TheVariants as columns
use Rattle.sub_groups.specs.declared.filter_parts.Parts.{Parts}
use Rattle.sub_groups.specs.declared.filter_parts.Parts.TheVariants as parts
use Rattle.view_lang.specs.declared.filter.Operand.{Operand}
use Rattle.view_lang.specs.declared.filter.Operand.TheVariants as operand

abbrev pub operand_names : (ℕ → Bool) → Operand → Bool
operand_names p (operand.Constant d) = true
operand_names p (operand.Column k) = p k

-- whether a filter names none but such columns
abbrev mutual
  pub names_only : (ℕ → Bool) → Filter → Bool
  names_only p (compare c k o) = p k && operand_names p o
  names_only p (null_in k) = p k
  names_only p (negation f) = names_only p f
  names_only p (all_of fs) = name_only p fs
  names_only p (one_of fs) = name_only p fs

  pub name_only : (ℕ → Bool) → Filters → Bool
  name_only p no_part = true
  name_only p (part f fs) = names_only p f && name_only p fs

-- whether a column of joined rows is one of the main table, which has n columns
abbrev pub is_main : ℕ → ℕ → Bool
is_main n k = nat_lt k n

-- whether it is known from these columns of the main table, so that it is the same for all rows that are alike in them:
-- it is one of them, or the side table's
abbrev pub is_known : ℕ → List ℕ → ℕ → Bool
is_known n keys k = not (is_main n k) || list_any (λ j. j == k) keys

-- whether these are such columns
abbrev pub has : Columns → ℕ → Bool
has (columns.Main n) = is_main n
has (columns.Known n keys) = is_known n keys.now

abbrev pub parts_in : Filters → List Filter
parts_in no_part = []
parts_in (part f fs) = f ∷ parts_in fs

abbrev pub parts_of_filter : Filter → List Filter
parts_of_filter (compare c k o) = compare c k o ∷ []
parts_of_filter (null_in k) = null_in k ∷ []
parts_of_filter (negation f) = negation f ∷ []
parts_of_filter (all_of fs) = parts_in fs
parts_of_filter (one_of fs) = one_of fs ∷ []

-- the conjuncts of a filter, which must all be true
abbrev pub conjuncts : Option Filter → List Filter
conjuncts None = []
conjuncts (Some f) = parts_of_filter f

-- whether a part names columns of the main table alone
abbrev pub is_main_part : ℕ → Filter → Bool
is_main_part n f = names_only (is_main n) f

-- whether a row fails a part that names columns of the main table alone; or one of the others
abbrev pub fails_main : ℕ → List Datum → Filter → Bool
fails_main n row f = is_main_part n f && not (is_true (truth row f))

abbrev pub fails_other : ℕ → List Datum → Filter → Bool
fails_other n row f = not (is_main_part n f) && not (is_true (truth row f))

-- whether a row passes those parts; or the others
abbrev pub passes_main : ℕ → Option Filter → List Datum → Bool
passes_main n filter row = not (list_any (fails_main n row) (conjuncts filter))

abbrev pub passes_others : ℕ → Option Filter → List Datum → Bool
passes_others n filter row = not (list_any (fails_other n row) (conjuncts filter))

-- whether a row fails a part, if that is one of these
abbrev pub fails : Parts → ℕ → List Datum → Filter → Bool
fails parts.Main = fails_main
fails parts.Others = fails_other

-- whether a part names columns of the main table alone, or known columns alone
abbrev pub is_decided : ℕ → List ℕ → Filter → Bool
is_decided n keys f = is_main_part n f || names_only (is_known n keys) f

-- whether all parts are
abbrev pub are_decided : ℕ → List ℕ → List Filter → Bool
are_decided n keys fs = not (list_any (λ f. not (is_decided n keys f)) fs)
