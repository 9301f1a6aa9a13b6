-- What an output reads of a column can be read of some of the rows, where it can be read of all of them.
use Rattle.std.proofs.Common.{arith, get_or}
use Rattle.std.specs.Prelude.{ℕ, zero, suc, ◌<◌, Bool, true, false, cond, List, [], ◌∷◌, filter, length, All}
use Rattle.std.specs.List.{AllByRecursion}
use Rattle.std.proofs.lemmas.List.Sums.{length-filter, count_by-le-length}
use Rattle.values.specs.Datum.{Datum}
use Rattle.view_lang.specs.Aggregates.{IsSummable, ComparesKeys}
use Rattle.view_lang.specs.ViewLaws.{UsesKeys}
use Rattle.view_lang.specs.Outputs.{GroupOutput}
use Rattle.group_state.specs.declared.accumulated_columns.AccumulatedColumn.{AccumulatedColumn}
use Rattle.group_state.specs.Reading.{CanRead, CanReadAll}
use Rattle.group_state.proofs.AggregateCases.{sum-fits-of}

all-filter : {X : Type 0} (P : X → Type 0) (p : X → Bool) (xs : List X) → AllByRecursion P xs
    → AllByRecursion P (filter p xs)
all-filter P p [] all = tt
all-filter P p (x ∷ xs) all =
    elim (p x) as (λ b. AllByRecursion P (cond b (x ∷ filter p xs) (filter p xs)))
    [ true ↦ (all.0, all-filter P p xs all.1) | false ↦ all-filter P p xs all.1 ]

module _ (outs : List GroupOutput) (i : ℕ) (d : GroupOutput) (b : i < length outs) where
  summable-at : (rows : List (List Datum)) → All (λ row. All (λ o. IsSummable o.aggregate row) outs) rows
      → AllByRecursion (IsSummable (get_or outs i d).aggregate) rows
  summable-at [] a = tt
  summable-at (r ∷ rs) a = (a 0 r (omega arith) i d b, summable-at rs (λ j e h. a (suc j) e (omega (arith, h))))

at : (P : GroupOutput → Type 0) (outs : List GroupOutput) (i : ℕ) (d : GroupOutput) → i < length outs
    → AllByRecursion P outs → P (get_or outs i d)
at P [] i d b a = absurd (omega (arith, b))
at P (x ∷ xs) zero d b a = a.0
at P (x ∷ xs) (suc i) d b a = at P xs i d (omega (arith, b)) a.1

compares-at : (by : List ℕ) (outs : List GroupOutput) (i : ℕ) (d : GroupOutput) → i < length outs
    → (rows : List (List Datum)) → AllByRecursion (UsesKeys by outs) rows
    → AllByRecursion (ComparesKeys (get_or outs i d).aggregate) rows
compares-at by outs i d b [] a = tt
compares-at by outs i d b (r ∷ rs) a =
    (at (λ o. ComparesKeys o.aggregate r) outs i d b a.0.1, compares-at by outs i d b rs a.1)

pub can-read : (by : List ℕ) (columns : List AccumulatedColumn) (outs : List GroupOutput) (rows : List (List Datum))
    → CanReadAll by columns outs rows → (p : List Datum → Bool) → All (λ o. CanRead columns (filter p rows) o.aggregate)
    outs
can-read by columns outs rows c p = λ i d b.
    let few = length-filter p rows in
    let less = count_by-le-length p rows in
    let most = c.sums.0 in
    record {
      kept = c.kept i d b;
      sums = sum-fits-of (get_or outs i d).aggregate (filter p rows) (omega (arith, few, less, most))
          (all-filter (IsSummable (get_or outs i d).aggregate) p rows (summable-at outs i d b rows c.sums.1));
      keys = all-filter (ComparesKeys (get_or outs i d).aggregate) p rows (compares-at by outs i d b rows c.keys);
    }
