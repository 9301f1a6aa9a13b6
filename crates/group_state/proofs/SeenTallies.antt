-- An accumulated column has a tally, which is that of its cells; what outputs show of the column is read of it.
use Rattle.std.proofs.Common.{◌≡◌, refl, ap, sym, ◌∙◌, subst, arith, get_or}
use Rattle.std.specs.Prelude.{
  ℕ,
  zero,
  suc,
  ◌+◌,
  ◌<◌,
  ◌||◌,
  Bool,
  true,
  false,
  List,
  [],
  ◌∷◌,
  length,
  Option,
  None,
  Some,
  slice_get,
  slice_index_or,
  FitsSigned,
}
use Rattle.std.specs.Option.{option_and_then}
use Rattle.std.proofs.lemmas.Option.{slice_get-get_or}
use mir.Syntax.{w128}
use Rattle.values.specs.Datum.{Datum}
use Rattle.values.specs.declared.key.Key.{Key}
use Rattle.view_lang.specs.Folds.{sum_of as total_by, total}
use Rattle.group_state.specs.Cells.{KeepsCells, KeepsTotal, KeepsValues}
use Rattle.group_state.specs.AccumulatedColumns.{is_accumulated, same_column}
use Rattle.group_state.specs.declared.accumulated_columns.AccumulatedColumn.{AccumulatedColumn}
use Rattle.group_state.specs.declared.accumulated_columns.AccumulatorForm.TheVariants as kept
use Rattle.group_state.specs.declared.tally.Tally.TheVariants as tally
use Rattle.group_state.specs.declared.total.Total.{Total}
use Rattle.group_state.specs.Reading.{IsThat, filled}
use Rattle.group_state.specs.Rows.{KeepsEach, cells}
use Rattle.group_state.specs.Seen.{index_from, seen_in, sum_by, tally_at}
use Rattle.group_state.specs.declared.tally.Tally.{Tally}
use Rattle.group_state.proofs.FoldReadings.{kept-none, kept-some}
use Rattle.group_state.proofs.AccumulatedColumns.{column-is}

record IsFound (n : ℕ) (columns : List AccumulatedColumn) (k : AccumulatedColumn) : Type 0 where
  place : ℕ
  there : place < length columns
  own : (d : AccumulatedColumn) → get_or columns place d ≡ k
  is : index_from n columns k ≡ Some (n + place)

found-at : (n : ℕ) (columns : List AccumulatedColumn) (k : AccumulatedColumn) → is_accumulated columns k ≡ true
    → IsFound n columns k
found-at n [] k h = absurd (cc)
found-at n (c ∷ cs) k h = go (same_column c k) refl h (found-at (suc n) cs k)
  where
    go : (b : Bool) → same_column c k ≡ b → (b || is_accumulated cs k) ≡ true
        → (is_accumulated cs k ≡ true → IsFound (suc n) cs k) → IsFound n (c ∷ cs) k
    go true e h more = record {
      place = 0;
      there = omega arith;
      own = λ d. column-is c k e;
      is = rw e (ap Some (omega arith));
    }
    go false e h more =
        let f = more h in
        record {
          place = suc f.place;
          there = omega (arith, f.there);
          own = λ d. f.own d;
          is = rw e (f.is ∙ ap Some (omega arith));
        }

pub tally-that : (columns : List AccumulatedColumn) (tallies : List Tally) (rows : List (List Datum))
    (k : AccumulatedColumn) → KeepsEach columns tallies rows → is_accumulated columns k ≡ true
    → IsThat k.form (tally_at columns tallies k) (cells k.column rows)
tally-that columns [] rows k e h =
    let f = found-at 0 columns k h in
    absurd (omega (arith, f.there, e.count))
tally-that columns (t ∷ ts) rows k e h =
    let f = found-at 0 columns k h in
    let P : Option Tally → Type 0 = λ o. IsThat k.form o (cells k.column rows) in
    let Q : AccumulatedColumn → Type 0 =
    λ c. KeepsCells c.form (slice_index_or (t ∷ ts) f.place t) (cells c.column rows) in
    let in_tallies : f.place < length (t ∷ ts) = omega (arith, f.there, e.count) in
    let got : tally_at columns (t ∷ ts) k ≡ Some (get_or (t ∷ ts) f.place t) =
    ap (option_and_then (slice_get (t ∷ ts))) (f.is ∙ ap Some (omega arith))
    ∙ slice_get-get_or (t ∷ ts) f.place t in_tallies in
    subst P (sym got) (subst Q (f.own k) (e.each f.place k t f.there))

pub total-by : (f : Tally → Datum) (o : Option Tally) (cs : List Datum) (d : Datum)
    → IsThat kept.Total o cs → ((t : Total) → KeepsTotal t cs → f (tally.Total t) ≡ d) → seen_in f o ≡ d
total-by f None cs d h g = absurd h
total-by f (Some (tally.Total t)) cs d h g = g t h
total-by f (Some (tally.Values es)) cs d h g = absurd h

pub values-by : (f : Tally → Datum) (o : Option Tally) (cs : List Datum) (d : Datum)
    → IsThat kept.Values o cs → ((es : List (Key × ℕ)) → KeepsValues es cs → f (tally.Values es) ≡ d) → seen_in f o ≡ d
values-by f None cs d h g = absurd h
values-by f (Some (tally.Total t)) cs d h g = absurd h
values-by f (Some (tally.Values es)) cs d h g = g es h

module _ (t : Total) (cs : List Datum) (k : KeepsTotal t cs) where
  pub sum-is : FitsSigned w128 (total (filled cs)) → (n : ℕ) → t.filled ≡ n → sum_by n t.total ≡ total_by (filled cs)
  sum-is f zero h = kept-none t cs k h
  sum-is f (suc n) h = kept-some t cs k (omega (arith, h)) f
