-- The rows of a view hold its columns, and are few.
use Rattle.std.proofs.Common.{
  ◌≡◌,
  ℕ,
  zero,
  suc,
  Bool,
  true,
  false,
  List,
  [],
  ◌∷◌,
  ◌<◌,
  ◌≤◌,
  All,
  None,
  Option,
  Some,
  cond,
  filter,
  get_or,
  length,
  map,
  take,
  refl,
  sym,
  arith,
  subst,
}
use Rattle.std.proofs.lemmas.List.{length-map}
use Rattle.std.proofs.lemmas.List.Elements.{
  All-cons,
  All-filter,
  All-get_or,
  All-head,
  All-map,
  All-nil,
  All-tail,
  All-take,
  All-weaker,
}
use Rattle.std.proofs.lemmas.List.Filters.{All-dedup}
use Rattle.std.specs.List.{dedup, dedup_from}
use Rattle.std.specs.Ordering.{is_gt}
use Rattle.std.specs.declared.cmp.Ordering.{Ordering}
use Rattle.values.specs.Datum.{Datum}
use Rattle.values.specs.Limits.{max_main_rows}
use Rattle.values.specs.Logical.{NamedType, tree_of}
use Rattle.values.specs.Rose.{Rose}
use Rattle.view_lang.specs.Cells.{cell_at, cells_at}
use Rattle.view_lang.specs.ConfigRules.{AreOutputs, IsGroupOutput, IsOutput}
use Rattle.view_lang.specs.Aggregates.{IsSummable, aggregate_field}
use Rattle.view_lang.specs.Fields.{IsOrdered, field_at}
use Rattle.view_lang.specs.Groups.{group_row, group_rows, rows_with, same_tuple, tuples_of}
use Rattle.view_lang.specs.Laws.{ViewsCanSum, ViewsHaveFewRows, ViewsHaveRows}
use Rattle.view_lang.specs.Outputs.{GroupOutput, Output, Outputs, columns, groups}
use Rattle.view_lang.specs.RowOrder.{row_cmp, tuple_cmp}
use Rattle.view_lang.specs.Rows.{IsRow}
use Rattle.view_lang.specs.Sorted.{placed, sorted}
use Rattle.view_lang.specs.Sums.{CanSum}
use Rattle.view_lang.specs.Truth.{passes}
use Rattle.view_lang.specs.ViewColumns.{joined_columns, output_field, output_fields, view_columns}
use Rattle.view_lang.specs.Views.{first_of, output_rows, shown_row, shown_rows, view_input, view_rows}
use Rattle.view_lang.proofs.CellFits.{AreFit, Fits, cell_fits, fit_row, renamed_fits}
use Rattle.view_lang.proofs.Columns.{joined_such}
use Rattle.view_lang.proofs.GroupCells.{IsTuple}
use Rattle.view_lang.proofs.InputRows.{few_filtered, input_few, input_fits}
use Rattle.view_lang.proofs.OwnColumns.{AreSuch}
use Rattle.view_lang.proofs.AggregateCases.{aggregate_fits, summable}

-- Sorting and cutting

module _ {X : Type 0} (cmp : X → X → Ordering) where
  placed_if :
      (P : X → Type 0) (b : Bool) (x y : X) (ys : List X) → P x → P y → All P ys → All P (placed cmp x ys)
      → All P (cond b (y ∷ placed cmp x ys) (x ∷ y ∷ ys))
  placed_if P true x y ys px py all rest = All-cons P y (placed cmp x ys) py rest
  placed_if P false x y ys px py all rest = All-cons P x (y ∷ ys) px (All-cons P y ys py all)

  All-placed : (P : X → Type 0) (x : X) (ys : List X) → P x → All P ys → All P (placed cmp x ys)
  All-placed P x [] px all = All-cons P x [] px all
  All-placed P x (y ∷ ys) px all =
      placed_if P (is_gt (cmp x y)) x y ys px (All-head P y ys all) (All-tail P y ys all)
      (All-placed P x ys px (All-tail P y ys all))

  All-sorted : (P : X → Type 0) (xs : List X) → All P xs → All P (sorted cmp xs)
  unfolding sorted
  All-sorted P [] all = all
  All-sorted P (x ∷ xs) all =
      All-placed P x (sorted cmp xs) (All-head P x xs all) (All-sorted P xs (All-tail P x xs all))

  length_if :
      (b : Bool) (x y : X) (ys : List X) → length (placed cmp x ys) ≡ suc (length ys)
      → length (cond b (y ∷ placed cmp x ys) (x ∷ y ∷ ys)) ≡ suc (suc (length ys))
  length_if true x y ys rest = omega (arith, rest)
  length_if false x y ys rest = refl

  length-placed : (x : X) (ys : List X) → length (placed cmp x ys) ≡ suc (length ys)
  length-placed x [] = refl
  length-placed x (y ∷ ys) = length_if (is_gt (cmp x y)) x y ys (length-placed x ys)

  length-sorted : (xs : List X) → length (sorted cmp xs) ≡ length xs
  unfolding sorted
  length-sorted [] = refl
  length-sorted (x ∷ xs) = omega (arith, length-placed x (sorted cmp xs), length-sorted xs)

length_taken : {X : Type 0} (n : ℕ) (xs : List X) → length (take n xs) ≤ length xs
length_taken zero xs = omega arith
length_taken (suc n) [] = omega arith
length_taken (suc n) (x ∷ xs) = omega (arith, length_taken n xs)

All-first : {X : Type 0} (P : X → Type 0) (n : Option ℕ) (xs : List X) → All P xs → All P (first_of n xs)
All-first P None xs all = all
All-first P (Some n) xs all = All-take P n xs all

length_first : {X : Type 0} (n : Option ℕ) (xs : List X) → length (first_of n xs) ≤ length xs
length_first None xs = omega arith
length_first (Some n) xs = length_taken n xs

module _ {X : Type 0} (same : X → X → Bool) where
  fewer_if :
      (b : Bool) (k x : X) (xs : List X) → length (dedup_from same k xs) ≤ suc (length xs)
      → length (dedup_from same x xs) ≤ suc (length xs)
      → length (cond b (dedup_from same k xs) (k ∷ dedup_from same x xs)) ≤ suc (suc (length xs))
  fewer_if true k x xs one other = omega (arith, one)
  fewer_if false k x xs one other = omega (arith, other)

  fewer_from : (k : X) (xs : List X) → length (dedup_from same k xs) ≤ suc (length xs)
  fewer_from k [] = omega arith
  fewer_from k (x ∷ xs) = fewer_if (same x k) k x xs (fewer_from k xs) (fewer_from x xs)

  fewer : (xs : List X) → length (dedup same xs) ≤ length xs
  fewer [] = omega arith
  fewer (x ∷ xs) = fewer_from x xs

-- Rows of a plain view

plain_fits :
    (fs : List (Rose NamedType)) (os : List Output) (row : List Datum) → All (IsOutput fs) os → AreFit fs row
    → AreFit (map (output_field fs) os) (shown_row os row)
plain_fits fs [] row all fit = tt
plain_fits fs (o ∷ os) row all fit =
    let here : IsOutput fs o = All-head (IsOutput fs) o os all in (
      renamed_fits o.name (field_at fs o.column) (cell_at row o.column) (cell_fits fs row o.column fit here.1),
      plain_fits fs os row (All-tail (IsOutput fs) o os all) fit,
    )

-- Rows of groups

tuple_at : (by : List ℕ) (row : List Datum) (k : ℕ) → k < length by
    → cell_at (cells_at by row) k ≡ cell_at row (get_or by k 0)
tuple_at [] row k below = absurd (omega (arith, below))
tuple_at (b ∷ bs) row zero below = refl
tuple_at (b ∷ bs) row (suc k) below = tuple_at bs row k (omega (arith, below))

row_tuple :
    (fs : List (Rose NamedType)) (by : List ℕ) (row : List Datum) → All (IsOrdered fs) by → AreFit fs row
    → IsTuple fs by (cells_at by row)
row_tuple fs by row ordered fit = λ k below.
    let P : Datum → Type 0 = λ d. Fits (tree_of (field_at fs (get_or by k 0))) d in
    subst P (sym (tuple_at by row k below))
    (cell_fits fs row (get_or by k 0) fit (All-get_or (IsOrdered fs) by k 0 below ordered).0)

no_tuple : (fs : List (Rose NamedType)) → IsTuple fs [] []
no_tuple fs = λ k below. absurd (omega (arith, below))

tuples_fit :
    (fs : List (Rose NamedType)) (by : List ℕ) (rows : List (List Datum)) → All (IsOrdered fs) by → All (AreFit fs) rows
    → All (IsTuple fs by) (tuples_of by rows)
unfolding tuples_of
tuples_fit fs [] rows ordered all = All-cons (IsTuple fs []) [] [] (no_tuple fs) (All-nil (IsTuple fs []))
tuples_fit fs (k ∷ ks) rows ordered all =
    let P : List Datum → Type 0 = IsTuple fs (k ∷ ks) in
    All-dedup same_tuple P (sorted tuple_cmp (map (cells_at (k ∷ ks)) rows))
    (All-sorted tuple_cmp P (map (cells_at (k ∷ ks)) rows)
    (All-map P (cells_at (k ∷ ks)) rows
    (All-weaker (AreFit fs) (λ row. P (cells_at (k ∷ ks) row)) (λ row fit. row_tuple fs (k ∷ ks) row ordered fit) rows
    all)))

few_tuples : (by : List ℕ) (rows : List (List Datum)) → length rows ≤ max_main_rows
    → length (tuples_of by rows) ≤ max_main_rows
unfolding tuples_of
few_tuples [] rows few = omega arith
few_tuples (k ∷ ks) rows few =
    let tuples : List (List Datum) = map (cells_at (k ∷ ks)) rows in
    omega (
      arith,
      few,
      fewer same_tuple (sorted tuple_cmp tuples),
      length-sorted tuple_cmp tuples,
      length-map rows
          (cells_at (k ∷ ks)),
    )

group_fits :
    (fs : List (Rose NamedType)) (by : List ℕ) (os : List GroupOutput) (tuple : List Datum) (rows : List (List Datum))
    → AreSuch fs → All (IsGroupOutput fs by) os → IsTuple fs by tuple → All (AreFit fs) rows
    → length rows ≤ max_main_rows
    → AreFit (map (λ o. aggregate_field fs by o.name o.aggregate) os) (group_row os tuple rows)
unfolding group_row
group_fits fs by [] tuple rows such all held fit few = tt
group_fits fs by (o ∷ os) tuple rows such all held fit few =
    let here : IsGroupOutput fs by o = All-head (IsGroupOutput fs by) o os all in (
      aggregate_fits fs such rows fit few by o.name o.aggregate tuple here.1 held,
      group_fits fs by os tuple rows such (All-tail (IsGroupOutput fs by) o os all) held fit few,
    )

-- Sums of rows

row_summable :
    (fs : List (Rose NamedType)) (by : List ℕ) (os : List GroupOutput) (row : List Datum)
    → All (IsGroupOutput fs by) os → AreFit fs row
    → All (λ o. IsSummable o.aggregate row) os
row_summable fs by os row all fit =
    All-weaker (IsGroupOutput fs by) (λ o. IsSummable o.aggregate row)
    (λ o is. summable fs by o.aggregate row is.1 fit) os all

-- The outputs of rows

module _ (fs : List (Rose NamedType)) (such : AreSuch fs) (rows : List (List Datum)) (all : All (AreFit fs) rows)
    (few : length rows ≤ max_main_rows) where
  with_tuple :
      (by : List ℕ) (os : List GroupOutput) (tuple : List Datum) → All (IsGroupOutput fs by) os → IsTuple fs by tuple
      → AreFit (map (λ o. aggregate_field fs by o.name o.aggregate) os) (group_row os tuple (rows_with by tuple rows))
  unfolding rows_with
  with_tuple by os tuple is held =
      let p : List Datum → Bool = λ row. same_tuple tuple (cells_at by row) in
      group_fits fs by os tuple (filter p rows) such is held (All-filter p (AreFit fs) rows all)
      (omega (arith, few, few_filtered p rows))

  pub outputs_fit : (os : Outputs) → AreOutputs fs os → All (AreFit (output_fields fs os)) (output_rows os rows)
  unfolding output_rows group_rows
  outputs_fit (columns os) is =
      All-map (AreFit (map (output_field fs) os)) (shown_row os) rows
      (All-weaker (AreFit fs) (λ row. AreFit (map (output_field fs) os) (shown_row os row))
      (λ row fit. plain_fits fs os row is fit) rows all)
  outputs_fit (groups by os having) is =
      let made : List (Rose NamedType) = map (λ o. aggregate_field fs by o.name o.aggregate) os in
      All-filter (passes having) (AreFit made) (group_rows by os rows)
      (All-map (AreFit made) (λ tuple. group_row os tuple (rows_with by tuple rows)) (tuples_of by rows)
      (All-weaker (IsTuple fs by) (λ tuple. AreFit made (group_row os tuple (rows_with by tuple rows)))
      (λ tuple held. with_tuple by os tuple is.1 held) (tuples_of by rows) (tuples_fit fs by rows is.0 all)))

  outputs_few : (os : Outputs) → length (output_rows os rows) ≤ max_main_rows
  unfolding output_rows group_rows
  outputs_few (columns os) = omega (arith, few, length-map rows (shown_row os))
  outputs_few (groups by os having) =
      omega (
        arith,
        few_filtered (passes having) (group_rows by os rows),
        few_tuples by rows few,
        length-map (tuples_of by rows) (λ tuple. group_row os tuple (rows_with by tuple rows)),
      )

  outputs_summable : (os : Outputs) → AreOutputs fs os → CanSum os rows
  outputs_summable (columns os) is = tt
  outputs_summable (groups by os having) is = (
    few,
    All-weaker (AreFit fs) (λ row. All (λ o. IsSummable o.aggregate row) os) (λ row fit. row_summable fs by os row is.1
        fit)
        rows all,
  )

-- The laws

pub views_can_sum : ViewsCanSum
views_can_sum tables v side input is =
    outputs_summable (joined_columns tables v.lookup) (joined_such tables v.lookup is.right is.view.lookup)
    (view_input v side input) (input_fits tables v side input is) (input_few tables v side input is) v.outputs
    is.view.outputs

pub views_have_rows : ViewsHaveRows
unfolding view_rows shown_rows
views_have_rows tables v side input is =
    let fs : List (Rose NamedType) = joined_columns tables v.lookup in
    let rows : List (List Datum) = view_input v side input in
    let P : List Datum → Type 0 = IsRow (view_columns tables v) in
    All-first P v.first (sorted (row_cmp v.order) (output_rows v.outputs rows))
    (All-sorted (row_cmp v.order) P (output_rows v.outputs rows)
    (All-weaker (AreFit (view_columns tables v)) P (λ row fit. fit_row (view_columns tables v) row is.view.few fit)
    (output_rows v.outputs rows)
    (outputs_fit fs (joined_such tables v.lookup is.right is.view.lookup) rows (input_fits tables v side input is)
    (input_few tables v side input is) v.outputs is.view.outputs)))

pub views_have_few_rows : ViewsHaveFewRows
unfolding view_rows shown_rows
views_have_few_rows tables v side input is =
    let fs : List (Rose NamedType) = joined_columns tables v.lookup in
    let rows : List (List Datum) = view_input v side input in
    let made : List (List Datum) = output_rows v.outputs rows in
    omega (
      arith,
      length_first v.first (sorted (row_cmp v.order) made),
      length-sorted (row_cmp v.order) made,
      outputs_few fs (joined_such tables v.lookup is.right is.view.lookup) rows (input_fits tables v side input is)
          (input_few tables v side input is) v.outputs,
    )
