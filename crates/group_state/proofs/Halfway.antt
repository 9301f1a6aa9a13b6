-- A row is added to the tallies of a group, or removed from them, column by column.
use Rattle.std.proofs.Common.{◌≡◌, refl, sym, ◌∙◌, arith, ℕ, ◌+◌, ◌<◌, ◌≤◌, List, [], ◌∷◌, subst, length, get_or-set_same, get_or-set_other, ◌≢◌, ⊎_elim}
use Rattle.std.specs.Prelude.{slice_index_or, slice_set, map, pos, suc, zero}
use Rattle.std.proofs.lemmas.Bool.{cases_eq}
use Rattle.std.proofs.lemmas.List.{length-map}
use Rattle.std.proofs.lemmas.Int.{int_wrap_fits, ints}
use mir.Syntax.{w128}
use Rattle.std.proofs.Math.ListN.{length-set}
use Rattle.std.specs.List.Sorted.{IsStrictlySortedBy}
use Rattle.view_lang.specs.Folds.{total}
use Rattle.values.specs.Datum.{Datum}
use Rattle.view_lang.specs.Limits.{max_appended_rows}
use Rattle.group_state.specs.declared.accumulated_columns.AccumulatedColumn.{AccumulatedColumn}
use Rattle.group_state.specs.declared.tally.Tally.{Tally}
use Rattle.group_state.specs.Cells.{KeepsCells, fresh}
use Rattle.group_state.specs.declared.accumulated_columns.AccumulatorForm.{AccumulatorForm}
use Rattle.group_state.specs.declared.accumulated_columns.AccumulatorForm.TheVariants as kept
use Rattle.group_state.specs.Rows.{KeepsEach, cells}

-- the first n tallies are those of the rows of one list, the others still those of another
pub record Halfway (columns : List AccumulatedColumn) (tallies : List Tally) (n : ℕ) (done left : List (List Datum)) : Type 0 where
  pub count : length tallies ≡ length columns
  pub behind : (i : ℕ) (c : AccumulatedColumn) (d : Tally) → i < n → i < length columns
      → KeepsCells (slice_index_or columns i c).form (slice_index_or tallies i d)
      (cells (slice_index_or columns i c).column done)
  pub ahead : (i : ℕ) (c : AccumulatedColumn) (d : Tally) → n ≤ i → i < length columns
      → KeepsCells (slice_index_or columns i c).form (slice_index_or tallies i d)
      (cells (slice_index_or columns i c).column left)

pub halfway-none : (columns : List AccumulatedColumn) (tallies : List Tally) (done left : List (List Datum))
    → KeepsEach columns tallies left → Halfway columns tallies 0 done left
halfway-none columns tallies done left k =
    record { count = k.count; behind = λ i c d h. absurd (omega arith); ahead = λ i c d h. k.each i c d }

pub halfway-all : (columns : List AccumulatedColumn) (tallies : List Tally) (n : ℕ) (done left : List (List Datum)) → length columns ≤ n
    → Halfway columns tallies n done left → KeepsEach columns tallies done
halfway-all columns tallies n done left h k = record { count = k.count; each = λ i c d l. k.behind i c d (omega arith) l }

same-at : (columns : List AccumulatedColumn) (n : ℕ) (a b : AccumulatedColumn) → n < length columns
    → slice_index_or columns n a ≡ slice_index_or columns n b
same-at [] n a b h = absurd (omega (arith, h))
same-at (c ∷ cs) zero a b h = refl
same-at (c ∷ cs) (suc n) a b h = same-at cs n a b (omega (arith, h))

pub halfway-more : (columns : List AccumulatedColumn) (tallies : List Tally) (n : ℕ) (done left : List (List Datum)) (t : Tally)
    → Halfway columns tallies n done left → n < length columns
    → (at : AccumulatedColumn) → KeepsCells (slice_index_or columns n at).form t (cells (slice_index_or columns n at).column done)
    → Halfway columns (slice_set tallies n t) (n + 1) done left
halfway-more columns tallies n done left t k h at e =
    let small : n < length tallies = let c = k.count in omega arith in
    let own : (c : AccumulatedColumn)
    → KeepsCells (slice_index_or columns n c).form t (cells (slice_index_or columns n c).column done) =
    λ c. subst (λ (x : AccumulatedColumn). KeepsCells x.form t (cells x.column done)) (same-at columns n at c h) e in
    record {
      count = length-set tallies n t ∙ k.count;
      behind = λ i c d b l. ⊎_elim (λ (q : i ≡ n). rw q (rw get_or-set_same (own c)))
          (λ (q : i ≢ n). rw get_or-set_other (k.behind i c d (omega arith) l)) (cases_eq i n);
      ahead = λ i c d b l. let q : i ≢ n = omega arith in rw get_or-set_other (k.ahead i c d (omega arith) l);
    }

pub cells-few : (j : ℕ) (rows : List (List Datum)) → length rows < max_appended_rows → length (cells j rows) < max_appended_rows
cells-few j rows h = rw length-map h

-- Fresh tallies are those of no rows.

pub fresh-form : (form : AccumulatorForm) → KeepsCells form (fresh form) []
unfolding total IsStrictlySortedBy
fresh-form kept.Total =
    record { filled_is = refl; total_is = sym (int_wrap_fits w128 (pos 0) (omega (arith, ints))) }
fresh-form kept.Values =
    record { values_are = λ q. refl; ascending = tt; present = λ i d h. absurd (omega arith) }

fresh-each : (columns : List AccumulatedColumn) (i : ℕ) (c : AccumulatedColumn) (d : Tally) → i < length columns
    → KeepsCells (slice_index_or columns i c).form (slice_index_or (map (λ (k : AccumulatedColumn). fresh k.form) columns) i d) []
fresh-each [] i c d l = absurd (omega (arith, l))
fresh-each (k ∷ ks) zero c d l = fresh-form k.form
fresh-each (k ∷ ks) (suc i) c d l = fresh-each ks i c d (omega (arith, l))

pub fresh-rows : (columns : List AccumulatedColumn) (tallies : List Tally)
    → tallies ≡ map (λ (k : AccumulatedColumn). fresh k.form) columns → KeepsEach columns tallies []
fresh-rows columns tallies is =
    subst (λ ts. KeepsEach columns ts []) (sym is)
    (record { count = length-map columns (λ (k : AccumulatedColumn). fresh k.form); each = fresh-each columns })
