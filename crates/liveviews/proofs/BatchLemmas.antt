-- The rows of a batch, from its columns.
use Rattle.std.proofs.Common.{◌≡◌, ℕ, zero, suc, List, ◌++◌, ◌+◌, ◌<◌, ◌≤◌, length, All, Any, slice_index_or, refl, ap, sym, subst, ◌∙◌, arith}
use Rattle.std.proofs.lemmas.List.{length-append}
use Rattle.std.proofs.lemmas.List.Elements.{All-append}
use Rattle.values.specs.Limits.{max_main_rows}
use Rattle.values.specs.Datum.{Datum}
use Rattle.values.specs.Rose.{Roses}
use Rattle.values.specs.declared.causes.Cause.{Cause}
use Rattle.values.specs.declared.causes.Cause.TheVariants as cause
use Rattle.values.specs.declared.layout.Layout.{Layout}
use Rattle.schema_meta.specs.Rows.{rows_in, rows_from, row_at}
use Rattle.body_writer.specs.Heavy.{HasHeavyRow, IsHeavy}
use Rattle.liveviews.specs.Taken.{AreAccepted, AreFit, IsAcceptedRow, RefusesRows}
use Rattle.liveviews.specs.Refused.{RefusesBatch}

pub rows_from-length : (columns : List (List Datum)) (i n : ℕ) → length (rows_from columns i n) ≡ n
unfolding rows_from
rows_from-length columns i zero = refl
rows_from-length columns i (suc n) = ap suc (rows_from-length columns (i + 1) n)

rows_from-at : (columns : List (List Datum)) (i n k : ℕ) (d : List Datum) → k < n
    → slice_index_or (rows_from columns i n) k d ≡ row_at columns (i + k)
unfolding rows_from
rows_from-at columns i zero k d below = absurd (omega (arith, below))
rows_from-at columns i (suc n) zero d below = let same : i ≡ i + 0 = omega arith in ap (row_at columns) same
rows_from-at columns i (suc n) (suc k) d below =
    let same : i + 1 + k ≡ i + suc k = omega arith in
    rows_from-at columns (i + 1) n k d (omega (arith, below)) ∙ ap (row_at columns) same

pub rows-many :
    (ls : Roses Layout) (columns : List (List Datum)) (n before : ℕ) → max_main_rows < before + n
    → RefusesBatch ls (rows_in n columns) before cause.TooManyRows
rows-many ls columns n before many =
    let size : length (rows_in n columns) ≡ n = rows_from-length columns 0 n in omega (arith, many, size)

heavy-any : (ls : Roses Layout) (columns : List (List Datum)) (n : ℕ) → HasHeavyRow ls columns n
    → Any (IsHeavy ls) (rows_in n columns)
heavy-any ls columns n (k, below, heavy) =
    let size : length (rows_in n columns) ≡ n = rows_from-length columns 0 n in
    let same : 0 + k ≡ k = omega arith in (
      k,
      row_at columns k,
      omega (arith, below, size),
      rows_from-at columns 0 n k (row_at columns k) below
          ∙ ap (row_at columns) same,
      heavy,
    )

pub rows-refused :
    (ls : Roses Layout) (columns : List (List Datum)) (n before : ℕ) (c : Cause) → RefusesRows ls columns n c
    → RefusesBatch ls (rows_in n columns) before c
rows-refused ls columns n before cause.Memory h = tt
rows-refused ls columns n before cause.CellTooHeavy h = heavy-any ls columns n h
rows-refused ls columns n before _ h = absurd h

-- the rows that were added are accepted like those before
pub taken-rows :
    (ls : Roses Layout) (columns old new : List (List Datum)) (n : ℕ) → new ≡ old ++ rows_in n columns
    → AreFit ls columns n
    → length old + n ≤ max_main_rows → AreAccepted ls old → AreAccepted ls new
taken-rows ls columns old new n all fits room before =
    let size : length (rows_in n columns) ≡ n = rows_from-length columns 0 n in
    let each : All (IsAcceptedRow ls) (rows_in n columns) = λ k d below.
    let inside : k < n = omega (arith, below, size) in
    let same : 0 + k ≡ k = omega arith in
    let here : slice_index_or (rows_in n columns) k d ≡ row_at columns k =
    rows_from-at columns 0 n k d inside ∙ ap (row_at columns) same in
    subst (IsAcceptedRow ls) (sym here) (fits k inside) in
    let joined : AreAccepted ls (old ++ rows_in n columns) = record {
      few = omega (arith, length-append old (rows_in n columns), size, room);
      each = All-append (IsAcceptedRow ls) old (rows_in n columns) before.each each;
    } in
    subst (AreAccepted ls) (sym all) joined
