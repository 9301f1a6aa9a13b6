-- Rows of a side table that are looked up for rows one after the other.
use Rattle.std.proofs.Common.{◌≡◌, ℕ, suc, ◌+◌, ◌-◌, ◌<◌, ◌≤◌, All, List, [], ◌∷◌, ◌++◌, Option, None, Some, drop, get_or, length, take, refl, ap, ap₂, sym, subst, ◌∙◌, append-nil, append_assoc, arith}
use Rattle.std.specs.Prelude.{IfSome, map}
use Rattle.std.specs.Option.{option_map}
use Rattle.std.proofs.lemmas.List.{drop_all, drop_more, map-append}
use Rattle.std.proofs.lemmas.List.Elements.{All-append, All-cons, All-nil}
use Rattle.values.specs.Datum.{Datum}
use Rattle.schema_meta.specs.Rows.{row_at, rows_in}
use Rattle.body_writer.specs.RowRanges.{range_rows, ranges_rows}
use Rattle.body_writer.specs.declared.from_columns.batch.RowRange.{RowRange}
use Rattle.body_writer.proofs.PickedLemmas.{rows-at}
use Rattle.view_lang.specs.Cells.{cell_at}
use Rattle.row_keys.specs.LookedUp.{AreLive, Finds, found_rows, row_for}
use Rattle.row_keys.specs.Slots.{IsLiveAt, row_of}
use Rattle.row_keys.specs.Store.{Store}
use Rattle.row_keys.proofs.GatheredRows.{rows_counted}

found_one : (s : Store) (j : ℕ) (row : List Datum) (o : Option ℕ) → Finds s (cell_at row j) o
    → option_map (row_of s.slots) o ≡ row_for s j row
found_one s j row None finds = sym finds
found_one s j row (Some n) finds = sym finds.1

live_one : (s : Store) (d : Datum) (o : Option ℕ) → Finds s d o → IfSome o (IsLiveAt s.slots)
live_one s d None finds = tt
live_one s d (Some n) finds = finds.3

-- rows `from` to `to` of n rows
abbrev pub rows_between : List (List Datum) → ℕ → ℕ → ℕ → List (List Datum)
rows_between cells n from to = take (to - from) (drop from (rows_in n cells))

between_first : (cells : List (List Datum)) (n i to : ℕ) → i < to → to ≤ n
    → rows_between cells n i to ≡ row_at cells i ∷ rows_between cells n (i + 1) to
between_first cells n i to below within =
    let X : List (List Datum) = rows_in n cells in
    let many : length X ≡ n = rows_counted cells 0 n in
    let one : to - i ≡ suc (to - (i + 1)) = omega (arith, below) in
    let from : 0 + i ≡ i = omega arith in
    ap (λ k. take k (drop i X)) one
    ∙ ap (take (suc (to - (i + 1)))) (drop_more X i [] (omega (arith, many, below, within)))
    ∙ ap (λ row. row ∷ take (to - (i + 1)) (drop (i + 1) X))
    (rows-at cells 0 n i [] (omega (arith, below, within)) ∙ ap (row_at cells) from)

pub between_none : (cells : List (List Datum)) (n i to : ℕ) → to ≤ i → rows_between cells n i to ≡ []
between_none cells n i to past =
    let none : to - i ≡ 0 = omega (arith, past) in ap (λ k. take k (drop i (rows_in n cells))) none

-- one row more
module _ (s : Store) (j : ℕ) (cells : List (List Datum)) (n i to : ℕ) (x : Option ℕ) (xs ys : List (Option ℕ))
    (grown : ys ≡ xs ++ x ∷ []) (finds : Finds s (cell_at (row_at cells i) j) x) where
  abbrev look : List Datum → Option (List Datum)
  look = row_for s j

  pub looked_more : (all : List (Option (List Datum))) → i < to → to ≤ n
      → found_rows s xs ++ map look (rows_between cells n i to) ≡ all
      → found_rows s ys ++ map look (rows_between cells n (i + 1) to) ≡ all
  looked_more all below within so_far =
      let rest : List (Option (List Datum)) = map look (rows_between cells n (i + 1) to) in
      ap (λ os. os ++ rest)
      (ap (found_rows s) grown ∙ map-append (option_map (row_of s.slots)) xs (x ∷ [])
      ∙ ap (λ o. found_rows s xs ++ o ∷ []) (found_one s j (row_at cells i) x finds))
      ∙ append_assoc (found_rows s xs) (look (row_at cells i) ∷ []) rest
      ∙ ap (λ rows. found_rows s xs ++ map look rows) (sym (between_first cells n i to below within))
      ∙ so_far

  pub live_more : AreLive s xs → AreLive s ys
  live_more live =
      let P : Option ℕ → Type 0 = λ o. IfSome o (IsLiveAt s.slots) in
      subst (AreLive s) (sym grown)
      (All-append P xs (x ∷ []) live
      (All-cons P x [] (live_one s (cell_at (row_at cells i) j) x finds) (All-nil P)))

pub looked_over : (s : Store) (j : ℕ) (cells : List (List Datum)) (n i to : ℕ) (xs : List (Option ℕ))
    (all : List (Option (List Datum))) → to ≤ i
    → found_rows s xs ++ map (row_for s j) (rows_between cells n i to) ≡ all → found_rows s xs ≡ all
looked_over s j cells n i to xs all past so_far =
    sym (append-nil (found_rows s xs))
    ∙ ap (λ rows. found_rows s xs ++ map (row_for s j) rows) (sym (between_none cells n i to past)) ∙ so_far

-- one range more

pub range_looked : (s : Store) (j : ℕ) (ranges : List RowRange) (k : ℕ) (r : RowRange) (xs ys : List (Option ℕ))
    (all : List (Option (List Datum))) → k < length ranges → r ≡ get_or ranges k r
    → found_rows s ys ≡ found_rows s xs ++ map (row_for s j) (range_rows r)
    → found_rows s xs ++ map (row_for s j) (ranges_rows (drop k ranges)) ≡ all
    → found_rows s ys ++ map (row_for s j) (ranges_rows (drop (k + 1) ranges)) ≡ all
range_looked s j ranges k r xs ys all below is grown so_far =
    let look : List Datum → Option (List Datum) = row_for s j in
    let rest : List (List Datum) = ranges_rows (drop (k + 1) ranges) in
    ap (λ os. os ++ map look rest) grown
    ∙ append_assoc (found_rows s xs) (map look (range_rows r)) (map look rest)
    ∙ ap (λ os. found_rows s xs ++ os) (sym (map-append look (range_rows r) rest))
    ∙ ap (λ rs. found_rows s xs ++ map look (ranges_rows rs))
    (sym (drop_more ranges k r below ∙ ap (λ x. x ∷ drop (k + 1) ranges) (sym is)))
    ∙ so_far

pub ranges_over : (s : Store) (j : ℕ) (ranges : List RowRange) (k : ℕ) (xs : List (Option ℕ))
    (all : List (Option (List Datum))) → length ranges ≤ k
    → found_rows s xs ++ map (row_for s j) (ranges_rows (drop k ranges)) ≡ all → found_rows s xs ≡ all
ranges_over s j ranges k xs all past so_far =
    sym (append-nil (found_rows s xs))
    ∙ ap (λ rs. found_rows s xs ++ map (row_for s j) (ranges_rows rs)) (sym (drop_all k ranges past)) ∙ so_far
