-- A tuple's group that has one row.
use Rattle.std.proofs.Common.{◌≡◌, List, [], ◌∷◌, sym, subst, arith}
use Rattle.std.specs.Prelude.{Some}
use Rattle.values.specs.Datum.{Datum}
use Rattle.values.specs.declared.key.Key.{Key}
use Rattle.group_state.specs.GroupCounts.{GroupCounts}
use Rattle.group_state.specs.Groups.{KeepsAt, KeepsUnder, group_at}
use Rattle.group_state.specs.Rows.{KeepsRows}
use Rattle.group_state.specs.declared.accumulated_columns.AccumulatedColumn.{AccumulatedColumn}

pub first-kept : (columns : List AccumulatedColumn) (row : List Datum) (g : GroupCounts) (t u : List Key)
    (es : List (List Key × GroupCounts)) → group_at es u ≡ Some g → KeepsRows columns g (row ∷ []) → u ≡ t
    → KeepsUnder columns es t (row ∷ [])
first-kept columns row g t u es here k same =
    subst (λ v. KeepsUnder columns es v (row ∷ [])) same
    (subst (KeepsAt columns (row ∷ [])) (sym here) (omega (arith, k.rows_are), k))
