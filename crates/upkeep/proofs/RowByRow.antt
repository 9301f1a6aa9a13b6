-- Rows that are inserted or deleted one by one.
use Rattle.std.proofs.Common.{◌≡◌, ℕ, zero, suc, ◌+◌, ◌<◌, ◌≤◌, Bool, true, false, cond, List, [], ◌∷◌, Option, None, Some, get_or, length, map, take, refl, ap, sym, subst, ◌∙◌, arith, true≢false}
use Rattle.std.specs.Prelude.{if◌then◌else◌, is_some}
use Rattle.std.specs.BTreeMap.{insert_entry, is_at}
use Rattle.std.specs.List.Sorted.{IsStrictlySortedBy}
use Rattle.std.specs.Map.{keys_of, lookup, remove_entry}
use Rattle.std.specs.Ordering.{match_ordering, nat_cmp}
use Rattle.std.specs.declared.cmp.Ordering.{Ordering}
use Rattle.std.specs.declared.cmp.Ordering.TheVariants as ordering
use Rattle.std.specs.Cmp.{nat_cmp_total}
use Rattle.std.proofs.lemmas.List.{get_or_default, length-map, take_all}
use Rattle.values.specs.Datum.{Datum}
use Rattle.view_lang.specs.Counted.{fits-at, patched-more}
use Rattle.view_lang.specs.Config.{Table, View}
use Rattle.view_lang.specs.Images.{shift_image}
use Rattle.view_lang.specs.Limits.{max_appended_rows}
use Rattle.view_lang.specs.Outputs.{Output, Outputs, columns}
use Rattle.view_lang.specs.Shifts.{Fits, IsFew, NumberedRows, Shift, patched, row_at, shift, with_at}
use Rattle.view_lang.specs.SortedEntries.{sorted-insert_entry, sorted-remove_entry}
use Rattle.view_lang.specs.Views.{shown_row}
use Rattle.view_lang.specs.declared.view.OrderBy.{OrderBy}
use Rattle.top_rows.specs.Keeping.{Keeps as KeepsOrder}
use Rattle.top_rows.specs.OrderedEntries.{OrderedEntries}
use Rattle.row_keys.specs.Slots.{Slot, no_slot, row_of}
use Rattle.row_keys.specs.Store.{Store}
use Rattle.upkeep.specs.Inputs.{side_by}
use Rattle.upkeep.specs.Stores.{Rows, rows_at, rows_in, tables_in}
use Rattle.upkeep.specs.ViewStates.{
  IsMaterializedBy,
  link_change,
  link_row,
  projected_by,
  projected_change,
  projected_row,
  turned,
  turned_by,
}
use Rattle.upkeep.specs.declared.view_state.Materialized.{Materialized}
use Rattle.upkeep.specs.declared.view_state.Materialized.TheVariants as kept
use Rattle.upkeep.specs.declared.view_state.Links.{Links}
use Rattle.upkeep.specs.declared.view_state.Turn.{Turn}
use Rattle.upkeep.specs.declared.view_state.Turn.TheVariants as turn

-- A change in which one row is inserted or deleted

module _ (t : Turn) (n : ℕ) (row : Option (List Datum)) (rows : NumberedRows) where
  pub come_fits : t ≡ turn.Come → Fits rows (turned_by t n row ∷ [])
      → IsStrictlySortedBy nat_cmp (keys_of rows) × (row_at n rows ≡ None)
  come_fits is fits =
      let f = subst (λ (u : Turn). Fits rows (turned_by u n row ∷ [])) is fits in (f.ascending, f.in_turn.0)

  pub go_fits : t ≡ turn.Go → Fits rows (turned_by t n row ∷ [])
      → IsStrictlySortedBy nat_cmp (keys_of rows) × (row_at n rows ≡ row)
  go_fits is fits =
      let f = subst (λ (u : Turn). Fits rows (turned_by u n row ∷ [])) is fits in (f.ascending, f.in_turn.0)

  pub come_patched : t ≡ turn.Come → patched rows (turned_by t n row ∷ []) ≡ with_at n row rows
  come_patched is = ap (λ (u : Turn). patched rows (turned_by u n row ∷ [])) is

  pub go_patched : t ≡ turn.Go → patched rows (turned_by t n row ∷ []) ≡ with_at n None rows
  go_patched is = ap (λ (u : Turn). patched rows (turned_by u n row ∷ [])) is

-- where there is no row nothing changes

absent-by : (b : Bool) (e : ℕ × List Datum) (es rest : NumberedRows) (o : Option (List Datum))
    → (o ≡ None → rest ≡ es) → cond b (Some e.1) o ≡ None → cond b es (e ∷ rest) ≡ e ∷ es
absent-by true e es rest o same some = absurd (true≢false (ap is_some some))
absent-by false e es rest o same none = ap (λ xs. e ∷ xs) (same none)

absent : (test : ℕ → Bool) (es : NumberedRows) → lookup test es ≡ None → remove_entry test es ≡ es
absent test [] h = refl
absent test (e ∷ es) h =
    absent-by (test e.0) e es (remove_entry test es) (lookup test es) (λ n. absent test es n) h

none_patched : (t : Turn) (n : ℕ) (rows : NumberedRows) → Fits rows (turned_by t n None ∷ [])
    → patched rows (turned_by t n None ∷ []) ≡ rows
none_patched turn.Come n rows fits = absent (is_at (nat_cmp n)) rows fits.in_turn.0
none_patched turn.Go n rows fits = absent (is_at (nat_cmp n)) rows fits.in_turn.0

-- what is stored is then that of the rows
pub still_kept :
    (P : NumberedRows → Type 0) (change : List Shift) (t : Turn) (n : ℕ) (row : Option (List Datum)) (rows : NumberedRows)
    → change ≡ turned_by t n row ∷ [] → row ≡ None → Fits rows change → P rows → P (patched rows change)
still_kept P change t n row rows is none fits kept =
    let one : change ≡ turned_by t n None ∷ [] = is ∙ ap (λ o. turned_by t n o ∷ []) none in
    subst P (sym (ap (patched rows) one ∙ none_patched t n rows (subst (Fits rows) one fits))) kept

-- The change of one number

module _ (make : List Datum → Option (List Datum)) (slots : List Slot) (n : ℕ) where
  pub live_change : (t : Turn) → (t ≡ turn.Go → (get_or slots n no_slot).live ≡ true)
      → map (shift_image make) (turned t slots (n ∷ [])) ≡ turned_by t n (make (row_of slots n)) ∷ []
  live_change turn.Come live = refl
  live_change turn.Go live = by (get_or slots n no_slot).live (live refl) where
    by : (b : Bool) → b ≡ true
        → shift_image make (shift n (if b then Some (row_of slots n) else None) None) ∷ []
        ≡ turned_by turn.Go n (make (row_of slots n)) ∷ []
    by true h = refl
    by false h = absurd (true≢false (sym h))

  pub dead_change : (t : Turn) → t ≡ turn.Go → (get_or slots n no_slot).live ≡ false
      → map (shift_image make) (turned t slots (n ∷ [])) ≡ turned_by t n None ∷ []
  dead_change turn.Come is dead = absurd (cc)
  dead_change turn.Go is dead = by (get_or slots n no_slot).live dead where
    by : (b : Bool) → b ≡ false
        → shift_image make (shift n (if b then Some (row_of slots n) else None) None) ∷ []
        ≡ turned_by turn.Go n None ∷ []
    by true h = absurd (true≢false h)
    by false h = refl

-- Changes one after the other

turned_many : (slots : List Slot) (t : Turn) (ns : List ℕ) → length (turned t slots ns) ≡ length ns
turned_many slots turn.Come ns = length-map ns _
turned_many slots turn.Go ns = length-map ns _

module _ (make : List Datum → Option (List Datum)) (slots : List Slot) where
  pub one_of : (t : Turn) (ns : List ℕ) (i : ℕ) (d : Shift) → i < length ns
      → get_or (map (shift_image make) (turned t slots ns)) i d ∷ []
      ≡ map (shift_image make) (turned t slots (get_or ns i 0 ∷ []))
  one_of t [] i d below = absurd (omega (arith, below))
  one_of turn.Come (n ∷ ns) zero d below = refl
  one_of turn.Go (n ∷ ns) zero d below = refl
  one_of turn.Come (n ∷ ns) (suc i) d below = one_of turn.Come ns i d (omega (arith, below))
  one_of turn.Go (n ∷ ns) (suc i) d below = one_of turn.Go ns i d (omega (arith, below))

  pub change_many : (t : Turn) (ns : List ℕ) → length (map (shift_image make) (turned t slots ns)) ≡ length ns
  change_many t ns = length-map (turned t slots ns) (shift_image make) ∙ turned_many slots t ns

one_longer-by : (o : Ordering) (a b c : NumberedRows) (k : ℕ) → length a ≤ k → length b ≤ k → length c ≤ k
    → length (match_ordering o a b c) ≤ k
one_longer-by ordering.Less a b c k x y z = x
one_longer-by ordering.Equal a b c k x y z = y
one_longer-by ordering.Greater a b c k x y z = z

one_longer : (rows : NumberedRows) (n : ℕ) (row : List Datum) → length (insert_entry nat_cmp rows n row)
    ≤ suc (length rows)
one_longer [] n row = omega arith
one_longer (e ∷ es) n row =
    let rest = one_longer es n row in
    one_longer-by (nat_cmp n e.0) ((n, row) ∷ e ∷ es) ((e.0, row) ∷ es) (e ∷ insert_entry nat_cmp es n row)
    (suc (suc (length es))) (omega arith) (omega arith) (omega (arith, rest))

shorter-by : (b : Bool) (a c : NumberedRows) (k : ℕ) → length a ≤ k → length c ≤ k → length (cond b a c) ≤ k
shorter-by true a c k x y = x
shorter-by false a c k x y = y

pub shorter : (test : ℕ → Bool) (es : NumberedRows) → length (remove_entry test es) ≤ length es
shorter test [] = omega arith
shorter test (e ∷ es) =
    let rest = shorter test es in
    shorter-by (test e.0) es (e ∷ remove_entry test es) (suc (length es)) (omega arith) (omega (arith, rest))

with_few : (n : ℕ) (a : Option (List Datum)) (rows : NumberedRows) → length (with_at n a rows) ≤ suc (length rows)
with_few n None rows = let less = shorter (is_at (nat_cmp n)) rows in omega (arith, less)
with_few n (Some row) rows = one_longer rows n row

patched_few : (rows : NumberedRows) (es : List Shift) → length (patched rows es) ≤ length rows + length es
patched_few rows [] = omega arith
patched_few rows (e ∷ es) =
    let one = with_few e.number e.after rows in
    let rest = patched_few (with_at e.number e.after rows) es in omega (arith, one, rest)

taken_few : (es : List Shift) (i : ℕ) → length (take i es) ≤ length es
taken_few [] zero = omega arith
taken_few [] (suc i) = omega arith
taken_few (e ∷ es) zero = omega arith
taken_few (e ∷ es) (suc i) = let rest = taken_few es i in omega (arith, rest)

-- When the changes before it are made, the next fits, and there are few rows.
pub record IsNext (rows : NumberedRows) (es one : List Shift) (i : ℕ) : Type 0 where
  pub fits : Fits (patched rows (take i es)) one
  pub more : patched rows (take (i + 1) es) ≡ patched (patched rows (take i es)) one

next_at : (es one : List Shift) (i : ℕ) (rows : NumberedRows) → i < length es
    → get_or es i (shift 0 None None) ∷ [] ≡ one → Fits rows es → IsNext rows es one i
next_at es one i rows inside is_one fits =
    let e : Shift = get_or es i (shift 0 None None) in
    let is : e ≡ get_or es i e = get_or_default es i (shift 0 None None) e inside in
    let step : i + 1 ≡ suc i = omega arith in
    let at = fits-at rows es fits i e inside is in
    record {
      fits = subst (Fits (patched rows (take i es))) is_one (record { ascending = at.0; in_turn = (at.1, tt) });
      more = ap (λ k. patched rows (take k es)) step ∙ patched-more rows es i e inside is
          ∙ ap (patched (patched rows (take i es))) is_one;
    }

pub next_of : (make : List Datum → Option (List Datum)) (t : Turn) (slots : List Slot) (ns : List ℕ) (i : ℕ)
    (rows : NumberedRows) → i < length ns → Fits rows (map (shift_image make) (turned t slots ns))
    → IsNext rows (map (shift_image make) (turned t slots ns))
    (map (shift_image make) (turned t slots (get_or ns i 0 ∷ []))) i
next_of make t slots ns i rows below fits =
    let many = change_many make slots t ns in
    next_at (map (shift_image make) (turned t slots ns)) (map (shift_image make) (turned t slots (get_or ns i 0 ∷ []))) i
    rows (omega (arith, below, many)) (one_of make slots t ns i (shift 0 None None) below) fits

-- the same of the rows themselves

one_turned : (slots : List Slot) (t : Turn) (ns : List ℕ) (i : ℕ) (d : Shift) → i < length ns
    → get_or (turned t slots ns) i d ∷ [] ≡ turned t slots (get_or ns i 0 ∷ [])
one_turned slots t [] i d below = absurd (omega (arith, below))
one_turned slots turn.Come (n ∷ ns) zero d below = refl
one_turned slots turn.Go (n ∷ ns) zero d below = refl
one_turned slots turn.Come (n ∷ ns) (suc i) d below = one_turned slots turn.Come ns i d (omega (arith, below))
one_turned slots turn.Go (n ∷ ns) (suc i) d below = one_turned slots turn.Go ns i d (omega (arith, below))

next_turned : (t : Turn) (slots : List Slot) (ns : List ℕ) (i : ℕ) (rows : NumberedRows) → i < length ns
    → Fits rows (turned t slots ns)
    → IsNext rows (turned t slots ns) (turned t slots (get_or ns i 0 ∷ [])) i
next_turned t slots ns i rows below fits =
    let many = turned_many slots t ns in
    next_at (turned t slots ns) (turned t slots (get_or ns i 0 ∷ [])) i rows (omega (arith, below, many))
    (one_turned slots t ns i (shift 0 None None) below) fits

pub few_next : (rows : NumberedRows) (es : List Shift) (i : ℕ) → IsFew rows es
    → length (patched rows (take i es)) < max_appended_rows
few_next rows es i few =
    let a = patched_few rows (take i es) in
    let b = taken_few es i in omega (arith, few, a, b)

taken_most : (es : List Shift) (i : ℕ) → length (take i es) ≤ i
taken_most [] zero = omega arith
taken_most [] (suc i) = omega arith
taken_most (e ∷ es) zero = omega arith
taken_most (e ∷ es) (suc i) = let rest = taken_most es i in omega (arith, rest)

-- Views that are current with rows and follow their changes one by one

module _ (P Q R : NumberedRows → Type 0) (t : Turn) (slots : List Slot) (ns : List ℕ) (i : ℕ) (below : i < length ns)
    (so_far : (rows : NumberedRows) → Fits rows (turned t slots ns) → P rows
    → Q (patched rows (take i (turned t slots ns)))) where
  pub one_needs : (rows : NumberedRows) → P rows → Fits rows (turned t slots ns) → IsFew rows (turned t slots ns)
      → (now : NumberedRows) × (Q now × (Fits now (turned t slots (get_or ns i 0 ∷ []))
      × IsFew now (turned t slots (get_or ns i 0 ∷ []))))
  one_needs rows before fits few =
      let es : List Shift = turned t slots ns in
      let next = next_turned t slots ns i rows below fits in
      let many = turned_many slots t ns in
      let one = turned_many slots t (get_or ns i 0 ∷ []) in
      let a = patched_few rows (take i es) in
      let b = taken_most es i in (
        patched rows (take i es),
        (so_far rows fits before, (next.fits, omega (arith, few, many, one, a, b, below))),
      )

  pub one_more : ((rows : NumberedRows) → Fits rows (turned t slots (get_or ns i 0 ∷ [])) → Q rows
      → R (patched rows (turned t slots (get_or ns i 0 ∷ []))))
      → (rows : NumberedRows) → Fits rows (turned t slots ns) → P rows
      → R (patched rows (take (i + 1) (turned t slots ns)))
  one_more turned_one rows fits before =
      let next = next_turned t slots ns i rows below fits in
      subst R (sym next.more) (turned_one (patched rows (take i (turned t slots ns))) next.fits (so_far rows fits before))

pub all_turned : (P Q : NumberedRows → Type 0) (t : Turn) (slots : List Slot) (ns : List ℕ) (i : ℕ) → length ns ≤ i
    → ((rows : NumberedRows) → Fits rows (turned t slots ns) → P rows → Q (patched rows (take i (turned t slots ns))))
    → (rows : NumberedRows) → Fits rows (turned t slots ns) → P rows → Q (patched rows (turned t slots ns))
all_turned P Q t slots ns i past so_far rows fits before =
    let many = turned_many slots t ns in
    subst (λ (ch : List Shift). Q (patched rows ch)) (take_all i (turned t slots ns) (omega (arith, past, many)))
    (so_far rows fits before)

-- A row of the main table

module _ (stores : List Store) (v : View) (n : ℕ) (row : List Datum)
    (here : row ≡ row_of (rows_at (rows_in stores) 0) n) (t : Turn)
    (live : t ≡ turn.Go → (get_or (rows_at (rows_in stores) 0) n no_slot).live ≡ true) where
  pub made_of_row : turned_by t n (projected_row v (side_by (tables_in stores) (rows_in stores) v) row) ∷ []
      ≡ projected_change (tables_in stores) (rows_in stores) v t (n ∷ [])
  made_of_row =
      let make = projected_row v (side_by (tables_in stores) (rows_in stores) v) in
      ap (λ r. turned_by t n (make r) ∷ []) here
      ∙ sym (live_change make (rows_at (rows_in stores) 0) n t live)

  pub link_of_row : (l : Links)
      → turned_by t n (link_row l v row) ∷ [] ≡ link_change (rows_at (rows_in stores) 0) l v t (n ∷ [])
  link_of_row l =
      ap (λ r. turned_by t n (link_row l v r) ∷ []) here
      ∙ sym (live_change (link_row l v) (rows_at (rows_in stores) 0) n t live)

-- what is stored through a change, however the change is named
pub same_change : (P : NumberedRows → Type 0) (Q : NumberedRows → Type 0) (one change : List Shift) → one ≡ change
    → ((rows : NumberedRows) → Fits rows one → P rows → Q (patched rows one))
    → (rows : NumberedRows) → Fits rows change → P rows → Q (patched rows change)
same_change P Q one change same turned rows fits before =
    subst (λ (ch : List Shift). Q (patched rows ch)) same (turned rows (subst (Fits rows) (sym same) fits) before)

-- The order of a plain view is that of the rows that it shows.
pub order_turned :
    (Each : Type 0) (os : Outputs) (outs : List Output) (order : List OrderBy) (k : Materialized) (o o' : OrderedEntries) (t : Turn) (n : ℕ)
    (row : List Datum) → os ≡ columns outs → k ≡ kept.Order o → o'.order ≡ o.order
    → ((rows : NumberedRows) → Fits rows (turned_by t n (Some (shown_row outs row)) ∷ []) → KeepsOrder o rows
    → KeepsOrder o' (patched rows (turned_by t n (Some (shown_row outs row)) ∷ [])))
    → (rows : NumberedRows) → Fits rows (turned_by t n (projected_by os (Some row)) ∷ []) → IsMaterializedBy Each k os order rows
    → IsMaterializedBy Each (kept.Order o') os order (patched rows (turned_by t n (projected_by os (Some row)) ∷ []))
order_turned Each os outs order k o o' t n row is there same turned rows fits before =
    let plain : Fits rows (turned_by t n (Some (shown_row outs row)) ∷ []) =
    subst (λ (x : Outputs). Fits rows (turned_by t n (projected_by x (Some row)) ∷ [])) is fits in
    let was : IsMaterializedBy Each (kept.Order o) (columns outs) order rows =
    subst (λ (x : Materialized). IsMaterializedBy Each x (columns outs) order rows) there
    (subst (λ (x : Outputs). IsMaterializedBy Each k x order rows) is before) in
    subst (λ (x : Outputs). IsMaterializedBy Each (kept.Order o') x order (patched rows (turned_by t n (projected_by x (Some row)) ∷ [])))
    (sym is) (same ∙ was.0, turned rows plain was.1)

-- what holds of the tables and rows of stores, however the stores are named
pub at_stores : (P : List Table → Rows → Type 0) (ts ts' : List Table) (rs rs' : Rows) → ts ≡ ts' → rs ≡ rs' → P ts rs
    → P ts' rs'
at_stores P ts ts' rs rs' tables rows h = subst (P ts') rows (subst (λ (x : List Table). P x rs) tables h)

-- one change more
pub kept_more :
    (P Q R : NumberedRows → Type 0) (make : List Datum → Option (List Datum)) (t : Turn) (slots : List Slot)
    (ns : List ℕ) (i : ℕ) → i < length ns
    → ((rows : NumberedRows) → Fits rows (map (shift_image make) (turned t slots ns)) → P rows
    → Q (patched rows (take i (map (shift_image make) (turned t slots ns)))))
    → ((rows : NumberedRows) → Fits rows (map (shift_image make) (turned t slots (get_or ns i 0 ∷ []))) → Q rows
    → R (patched rows (map (shift_image make) (turned t slots (get_or ns i 0 ∷ [])))))
    → (rows : NumberedRows) → Fits rows (map (shift_image make) (turned t slots ns)) → P rows
    → R (patched rows (take (i + 1) (map (shift_image make) (turned t slots ns))))
kept_more P Q R make t slots ns i below so_far turned_one rows fits before =
    let next = next_of make t slots ns i rows below fits in
    let es : List Shift = map (shift_image make) (turned t slots ns) in
    subst R (sym next.more) (turned_one (patched rows (take i es)) next.fits (so_far rows fits before))

-- all changes
pub kept_all :
    (P Q : NumberedRows → Type 0) (make : List Datum → Option (List Datum)) (t : Turn) (slots : List Slot)
    (ns : List ℕ) (i : ℕ) → length ns ≤ i
    → ((rows : NumberedRows) → Fits rows (map (shift_image make) (turned t slots ns)) → P rows
    → Q (patched rows (take i (map (shift_image make) (turned t slots ns)))))
    → (rows : NumberedRows) → Fits rows (map (shift_image make) (turned t slots ns)) → P rows
    → Q (patched rows (map (shift_image make) (turned t slots ns)))
kept_all P Q make t slots ns i past so_far rows fits before =
    let es : List Shift = map (shift_image make) (turned t slots ns) in
    let many = change_many make slots t ns in
    subst (λ (ch : List Shift). Q (patched rows ch)) (take_all i es (omega (arith, past, many)))
    (so_far rows fits before)

-- what is required for the next change
pub next_needs :
    (P Q : NumberedRows → Type 0) (make : List Datum → Option (List Datum)) (t : Turn) (slots : List Slot)
    (ns : List ℕ) (i : ℕ) (rows : NumberedRows) → i < length ns
    → ((rows : NumberedRows) → Fits rows (map (shift_image make) (turned t slots ns)) → P rows
    → Q (patched rows (take i (map (shift_image make) (turned t slots ns)))))
    → P rows → Fits rows (map (shift_image make) (turned t slots ns))
    → IsFew rows (map (shift_image make) (turned t slots ns))
    → (now : NumberedRows) × (Q now × (Fits now (map (shift_image make) (turned t slots (get_or ns i 0 ∷ [])))
    × (length now < max_appended_rows)))
next_needs P Q make t slots ns i rows below so_far before fits few =
    let es : List Shift = map (shift_image make) (turned t slots ns) in
    let next = next_of make t slots ns i rows below fits in (
      patched rows (take i es),
      (so_far rows fits before, (next.fits, few_next rows es i few)),
    )

-- Rows stay in the order of their numbers.

pub sorted_with : (n : ℕ) (a : Option (List Datum)) (rows : NumberedRows) → IsStrictlySortedBy nat_cmp (keys_of rows)
    → IsStrictlySortedBy nat_cmp (keys_of (with_at n a rows))
sorted_with n None rows s = sorted-remove_entry nat_cmp_total (is_at (nat_cmp n)) rows s
sorted_with n (Some r) rows s = sorted-insert_entry nat_cmp_total n r rows s

pub sorted_patched : (rows : NumberedRows) (es : List Shift) → IsStrictlySortedBy nat_cmp (keys_of rows)
    → IsStrictlySortedBy nat_cmp (keys_of (patched rows es))
sorted_patched rows [] s = s
sorted_patched rows (e ∷ es) s =
    sorted_patched (with_at e.number e.after rows) es (sorted_with e.number e.after rows s)
