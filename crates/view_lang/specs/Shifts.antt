-- Changes of numbered rows.
use Rattle.std.specs.Prelude.{◌≡◌, ℕ, ◌+◌, ◌<◌, List, [], ◌∷◌, Option, None, Some, length, refl}
use Rattle.std.specs.BTreeMap.{insert_entry, is_at}
use Rattle.std.specs.Coded.{Coded, code_by, coded×, coded_ℕ, coded_option, coded_list}
use Rattle.std.specs.List.{fold}
use Rattle.std.specs.List.Sorted.{IsStrictlySortedBy}
use Rattle.std.specs.Map.{keys_of, lookup, remove_entry}
use Rattle.std.specs.Ordering.{nat_cmp}
use Rattle.values.specs.Datum.{Datum, datum_code}
use Rattle.view_lang.specs.Limits.{max_appended_rows}

-- rows by their numbers, which ascend
abbrev pub NumberedRows : Type 0
NumberedRows = List (ℕ × List Datum)

-- the change at one row number: the row before, and the row after
pub record Shift : Type 0 where
  pub number : ℕ
  pub before : Option (List Datum)
  pub after : Option (List Datum)

abbrev pub shift : ℕ → Option (List Datum) → Option (List Datum) → Shift
shift n before after = record { number = n; before = before; after = after }

abbrev pub row_code : Coded (Option (List Datum))
row_code = coded_option (coded_list datum_code)

abbrev pub shift_code : Coded Shift
shift_code =
    code_by (ℕ × (Option (List Datum) × Option (List Datum))) (coded× coded_ℕ (coded× row_code row_code))
    (λ s. (s.number, (s.before, s.after))) (λ p. shift p.0 p.1.0 p.1.1) (λ _. refl)

-- the row of a number
abbrev pub row_at : ℕ → NumberedRows → Option (List Datum)
row_at n rows = lookup (is_at (nat_cmp n)) rows

-- the rows with this one at a number, or with none there
abbrev pub with_at : ℕ → Option (List Datum) → NumberedRows → NumberedRows
with_at n None rows = remove_entry (is_at (nat_cmp n)) rows
with_at n (Some row) rows = insert_entry nat_cmp rows n row

-- the rows after a change
abbrev pub patched : NumberedRows → List Shift → NumberedRows
patched rows [] = rows
patched rows (s ∷ ss) = patched (with_at s.number s.after rows) ss

-- Each number has the row that the change gives before it, once the earlier parts of the change are done.
abbrev pub FitsInTurn : NumberedRows → List Shift → Type 0
FitsInTurn rows [] = Unit {0}
FitsInTurn rows (s ∷ ss) = (row_at s.number rows ≡ s.before) × FitsInTurn (with_at s.number s.after rows) ss

pub record Fits (rows : NumberedRows) (change : List Shift) : Type 0 where
  pub ascending : IsStrictlySortedBy nat_cmp (keys_of rows)
  pub in_turn : FitsInTurn rows change

-- A state that is computed from rows follows the change at one number: what was that of these rows is that of the rows
-- after it.
abbrev pub FollowsShift : (NumberedRows → Type 0) → (NumberedRows → Type 0) → Shift → NumberedRows → Type 0
FollowsShift was is s rows =
    IsStrictlySortedBy nat_cmp (keys_of rows) → row_at s.number rows ≡ s.before → was rows
    → is (with_at s.number s.after rows)

-- rows and changes so few that they can be counted: fewer than may be added to a table in all
abbrev pub IsFew : NumberedRows → List Shift → Type 0
IsFew rows change = length rows + length change < max_appended_rows

-- the rows with this one at the end, if there is one
abbrev pub push_some : Option (List Datum) → List (List Datum) → List (List Datum)
push_some None rows = rows
push_some (Some row) rows = row ∷ rows

-- rows, and all that a change adds
abbrev pub with_afters : List Shift → List (List Datum) → List (List Datum)
with_afters change rows = fold (λ (rs : List (List Datum)) (s : Shift). push_some s.after rs) rows change

-- rows, and all that a change removes
abbrev pub with_befores : List Shift → List (List Datum) → List (List Datum)
with_befores [] rows = rows
with_befores (s ∷ ss) rows = push_some s.before (with_befores ss rows)
