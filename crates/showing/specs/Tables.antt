-- Tables for a terminal.
use Rattle.std.specs.Prelude.{
  ◌≡◌,
  ◌≢◌,
  ◌⊎◌,
  ℕ,
  ◌<◌,
  ◌≤◌,
  ◌+◌,
  ◌-◌,
  Bool,
  true,
  false,
  ◌==◌,
  ◌||◌,
  Option,
  Some,
  List,
  [],
  ◌∷◌,
  ◌++◌,
  codes,
  count_by,
  get_or,
  length,
  slice_get,
  if◌then◌else◌,
  map,
  nat_le,
  nat_lt,
  replicate,
}
use Rattle.std.specs.Fmt.{decimal}
use Rattle.std.specs.Io.KnownBytes.{Appends}
use Rattle.values.specs.Datum.{Datum, null, truth, whole, text, bytes}
use Rattle.values.specs.Rose.{Rose}
use Rattle.values.specs.declared.col_type.ColType.{ColType}
use Rattle.values.specs.declared.col_type.ColType.TheVariants as col
use Rattle.schema_meta.specs.Entry.{Entry}
use Rattle.arrays.specs.Checked.{CheckedColumn}
use Rattle.showing.specs.Digits.{hex_text}
use Rattle.showing.specs.Fields.{entry}
use Rattle.showing.specs.Joined.{joined}
use Rattle.showing.specs.Json.{json}
use Rattle.showing.specs.Numbers.{number_text, truth_text}
use Rattle.showing.specs.Shown.{cell_in}
use Rattle.showing.specs.Visible.{visible_text}

-- a cell of a field of the schema
abbrev pub cell_text : Rose Entry → Datum → List ℕ
cell_text f null = codes "NULL"
cell_text f (truth b) = truth_text b
cell_text f (whole z) = number_text (entry f).stored z
cell_text f (text t) = visible_text t
cell_text f (bytes b) = hex_text b
cell_text f d = json (codes "\"") f d

-- numbers and durations are right-aligned
abbrev pub is_right : ColType → Bool
is_right (col.Int w s) = true
is_right (col.Decimal p s) = true
is_right (col.Duration u) = true
is_right t = false

-- The width of a text is the number of its characters: of bytes that begin one.
abbrev pub begins_char : ℕ → Bool
begins_char b = nat_lt b 0x80 || nat_le 0xC0 b

abbrev pub width_of : List ℕ → ℕ
width_of t = count_by begins_char t

abbrev pub spaces : ℕ → List ℕ
spaces n = replicate n 32

-- a text in a column of this width
pub record PaddedCell : Type 0 where
  pub at_right : Bool
  pub width : ℕ
  pub text : List ℕ

abbrev pub gap : PaddedCell → ℕ
gap s = s.width - width_of s.text

-- how many spaces come before a text that fills its column, and after it where another column follows
abbrev pub before : Bool → PaddedCell → ℕ
before fills s = if fills then (if s.at_right then gap s else 0) else 0

abbrev pub behind : Bool → PaddedCell → ℕ
behind fills s = if fills then (if s.at_right then 0 else gap s) else 0

-- The texts of a line, with a bar between each two; `led` spaces and a bar come before the first. Each is filled up to
-- the width of its column, or is longer.
abbrev pub IsLine : ℕ → List ℕ → List PaddedCell → List ℕ → Type 0
IsLine led bar [] out = out ≡ codes "\n"
IsLine led bar (s ∷ ss) out =
    (fills : Bool)
    × (rest : List ℕ)
    × (out ≡ spaces led ++ (bar ++ (spaces (before fills s) ++ (s.text ++ rest))))
    × IsLine (behind fills s) (codes " | ") ss rest

-- Between two states of the output a text was written that is as it should be.
abbrev pub Writes : Option (List ℕ) → Option (List ℕ) → (List ℕ → Type 0) → Type 0
Writes old new Is = (out : List ℕ) × Is out × Appends old new out

-- A text was written in its column, and n spaces are to follow it.
abbrev pub PutsSlot : Option (List ℕ) → Option (List ℕ) → PaddedCell → ℕ → Type 0
PutsSlot old new s n = (fills : Bool) × Appends old new (spaces (before fills s) ++ s.text) × (n ≡ behind fills s)

abbrev pub text_slot : Bool → ℕ → List ℕ → PaddedCell
text_slot at_right width t = record { at_right = at_right; width = width; text = t }

-- a name in a column of this width
abbrev pub name_slot : ℕ → Rose Entry → PaddedCell
name_slot width f = text_slot (is_right (entry f).stored) width (visible_text (entry f).name)

-- a cell in a column of this width
abbrev pub cell_slot : ℕ → Rose Entry → Datum → PaddedCell
cell_slot width f d = text_slot (is_right (entry f).stored) width (cell_text f d)

-- the names of columns, of which the first is number k of these widths
abbrev pub name_slots : List ℕ → ℕ → List (Rose Entry) → List PaddedCell
name_slots widths k [] = []
name_slots widths k (f ∷ fs) = name_slot (get_or widths k 0) f ∷ name_slots widths (k + 1) fs

-- the cells at one index of columns, of which the first is number k of these widths
abbrev pub row_slots : List ℕ → ℕ → List (Rose Entry) → List CheckedColumn → ℕ → List PaddedCell
row_slots widths k [] cs i = []
row_slots widths k (f ∷ fs) [] i = []
row_slots widths k (f ∷ fs) (c ∷ cs) i =
    cell_slot (get_or widths k 0) f (cell_in c i) ∷ row_slots widths (k + 1) fs cs i

-- dashes, as many as each column is wide
abbrev pub dashes : ℕ → List ℕ
dashes n = replicate n 45

abbrev pub rule : List ℕ → List ℕ
rule widths = joined (codes "-+-") (map dashes widths) ++ codes "\n"

-- the line of the columns' names, and one of dashes
abbrev pub IsHead : List ℕ → List (Rose Entry) → List ℕ → Type 0
IsHead widths fs out = (names : List ℕ) × IsLine 0 [] (name_slots widths 0 fs) names × (out ≡ names ++ rule widths)

-- the line of a row
abbrev pub IsRow : List ℕ → List (Rose Entry) → List CheckedColumn → ℕ → List ℕ → Type 0
IsRow widths fs cs i out = IsLine 0 [] (row_slots widths 0 fs cs i) out

-- A column is as wide as its name, or its name wasn't measured.
abbrev pub IsNameWidth : Rose Entry → ℕ → Type 0
IsNameWidth f w = (w ≡ width_of (visible_text (entry f).name)) ⊎ (w ≡ 0)

abbrev pub AreNameWidths : List (Rose Entry) → List ℕ → Type 0
AreNameWidths [] ws = ws ≡ []
AreNameWidths (f ∷ fs) [] = ⊥
AreNameWidths (f ∷ fs) (w ∷ ws) = IsNameWidth f w × AreNameWidths fs ws

-- A width is no less than another, and if it is greater, it is that of a cell.
abbrev pub IsAsWide : Rose Entry → Datum → ℕ → ℕ → Type 0
IsAsWide f d w v = (w ≤ v) × ((v ≡ w) ⊎ (v ≡ width_of (cell_text f d)))

-- how many rows of a batch are measured
abbrev pub measured_rows : ℕ
measured_rows = 1024

-- A column is no narrower than it was, and if it is wider, as wide as one of its first cells.
abbrev pub IsWider : Rose Entry → CheckedColumn → ℕ → ℕ → ℕ → Type 0
IsWider f c rows w v = (w ≤ v) × ((v ≡ w) ⊎ ((i : ℕ) × (i < rows) × (v ≡ width_of (cell_text f (cell_in c i)))))

-- The same of column number k, and the others are as they were.
pub record IsWiderAt (k : ℕ) (f : Rose Entry) (c : CheckedColumn) (rows : ℕ) (ws vs : List ℕ) : Type 0 where
  pub count : length vs ≡ length ws
  pub here : IsWider f c rows (get_or ws k 0) (get_or vs k 0)
  pub others : (j : ℕ) → j ≢ k → get_or vs j 0 ≡ get_or ws j 0

-- The same of each column with a field, and any other is as it was.
pub record AreWider (fs : List (Rose Entry)) (cs : List CheckedColumn) (rows : ℕ) (ws vs : List ℕ) : Type 0 where
  pub count : length vs ≡ length ws
  pub shown :
      (k : ℕ) (f : Rose Entry) (c : CheckedColumn) → slice_get fs k ≡ Some f → slice_get cs k ≡ Some c
      → IsWider f c rows (get_or ws k 0) (get_or vs k 0)
  pub others : (k : ℕ) → (length fs ≤ k) ⊎ (length cs ≤ k) → get_or vs k 0 ≡ get_or ws k 0

-- the line that ends a table: how many rows were shown, and of how many
abbrev pub amount : ℕ → ℕ → List ℕ
amount shown rows = if shown == rows then decimal rows else decimal shown ++ (codes " of " ++ decimal rows)

abbrev pub count_line : ℕ → ℕ → List ℕ
count_line shown rows =
    codes "(" ++ (amount shown rows ++ (if rows == 1 then codes " row)\n" else codes " rows)\n"))
