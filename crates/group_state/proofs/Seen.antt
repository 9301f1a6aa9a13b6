-- What outputs read of the accumulated state of rows is the definition's, where it can be read.
use Rattle.std.proofs.Common.{◌≡◌, refl, ap₂, ◌∙◌, arith}
use Rattle.std.specs.Prelude.{suc, List, [], ◌∷◌, map, All}
use Rattle.values.specs.Datum.{Datum}
use Rattle.values.specs.declared.key.Key.{Key}
use Rattle.view_lang.specs.Groups.{group_row}
use Rattle.view_lang.specs.Outputs.{GroupOutput}
use Rattle.group_state.specs.GroupCounts.{GroupCounts}
use Rattle.group_state.specs.declared.accumulated_columns.AccumulatedColumn.{AccumulatedColumn}
use Rattle.group_state.specs.Reading.{AreRead, CanRead, IsRead}
use Rattle.group_state.specs.Keys.{data_of}
use Rattle.group_state.specs.Rows.{KeepsRows}
use Rattle.group_state.specs.Aggregates.{seen_row}
use Rattle.group_state.proofs.AggregateCases.{cell-seen}

pub row-seen : (columns : List AccumulatedColumn) (outs : List GroupOutput) (e : List Key × GroupCounts)
    (rows : List (List Datum)) → KeepsRows columns e.1 rows → All (λ o. CanRead columns rows o.aggregate) outs
    → seen_row columns outs e ≡ group_row outs (data_of e.0) rows
unfolding group_row
row-seen columns [] e rows k all = refl
row-seen columns (o ∷ os) e rows k all =
    ap₂ (λ x xs. x ∷ xs) (cell-seen columns e rows o.aggregate k (all 0 o (omega arith)))
    (row-seen columns os e rows k (λ i d h. all (suc i) d (omega (arith, h))))

pub seen-read : (columns : List AccumulatedColumn) (outs : List GroupOutput) (e : List Key × GroupCounts)
    (made : List Datum) → made ≡ seen_row columns outs e → IsRead columns outs e made
seen-read columns outs e made h = record { row_is = λ rows k all. h ∙ row-seen columns outs e rows k all }

-- the rows of all groups
pub all-seen : (columns : List AccumulatedColumn) (outs : List GroupOutput) (es : List (List Key × GroupCounts))
    → AreRead columns outs es (map (seen_row columns outs) es)
all-seen columns outs [] = tt
all-seen columns outs (e ∷ es) = (seen-read columns outs e (seen_row columns outs e) refl, all-seen columns outs es)
