-- Columns of texts that are written with dictionaries: which values the dictionaries of a batch have, and by which
-- indices its cells refer to them.
use Rattle.std.specs.Prelude.{
  ◌≡◌,
  ℕ,
  zero,
  suc,
  pos,
  ◌≤◌,
  Bool,
  true,
  if◌then◌else◌,
  All,
  List,
  [],
  ◌∷◌,
  ◌++◌,
  get_or,
  length,
  map,
}
use Rattle.std.specs.List.{list_any, position_or_len}
use Rattle.std.specs.Str.{bytes_eq}
use Rattle.values.specs.Datum.{Datum, null, text, whole}
use Rattle.values.specs.Limits.{max_fields}
use Rattle.values.specs.Rose.{Roses, more, node, none}
use Rattle.values.specs.declared.layout.IntWidth.TheVariants as int
use Rattle.values.specs.declared.layout.Layout.{Layout}
use Rattle.values.specs.declared.layout.OffsetWidth.TheVariants as offset
use Rattle.values.specs.declared.layout.Layout.TheVariants.{Int, Utf8}
use Rattle.values.specs.Coded.{is_coded}

-- a text is added where it isn't there
abbrev pub add_text : List (List ℕ) → List ℕ → List (List ℕ)
add_text seen t = if list_any (bytes_eq t) seen then seen else seen ++ t ∷ []

-- the texts in these cells after these, each once, in order of first appearance; nulls are skipped
abbrev pub texts_after : List (List ℕ) → List Datum → List (List ℕ)
texts_after seen [] = seen
texts_after seen (text t ∷ cs) = texts_after (add_text seen t) cs
texts_after seen (c ∷ cs) = texts_after seen cs

-- a null or a text
abbrev pub IsTextCell : Datum → Type 0
IsTextCell null = Unit {0}
IsTextCell (text t) = Unit {0}
IsTextCell _ = ⊥

abbrev pub AreTextCells : List Datum → Type 0
AreTextCells [] = Unit {0}
AreTextCells (c ∷ cs) = IsTextCell c × AreTextCells cs

-- the cells of column j
abbrev pub cells_at : ℕ → List (List Datum) → List Datum
cells_at j rows = map (λ row. get_or row j null) rows

-- the rows of one column
abbrev pub single_rows : List Datum → List (List Datum)
single_rows cs = map (λ c. c ∷ []) cs

-- the values of the dictionary of column j for a batch of these rows
abbrev pub values_at : ℕ → List (List Datum) → List (List ℕ)
values_at j rows = texts_after [] (cells_at j rows)

-- the index of a text among the values; a null has none
abbrev pub index_in : List (List ℕ) → Datum → Datum
index_in values (text t) = whole (pos (position_or_len (bytes_eq t) values))
index_in values c = c

-- the cells of column j as indices
abbrev pub indices_at : ℕ → List (List Datum) → List Datum
indices_at j rows = map (index_in (values_at j rows)) (cells_at j rows)

-- the cells of column j, as indices where it is coded
abbrev pub cells_shown : Bool → ℕ → List (List Datum) → List Datum
cells_shown is_coded j rows = if is_coded then indices_at j rows else cells_at j rows

-- a row from column j on, with indices in the coded columns
abbrev pub indexed_from : List ℕ → (ℕ → List (List ℕ)) → ℕ → List Datum → List Datum
indexed_from coded values j [] = []
indexed_from coded values j (c ∷ cs) =
    (if is_coded coded j then index_in (values j) c else c) ∷ indexed_from coded values (suc j) cs

-- the rows of a batch, with indices in the coded columns
abbrev pub indexed_rows : List ℕ → List (List Datum) → List (List Datum)
indexed_rows coded rows = map (indexed_from coded (λ j. values_at j rows) 0) rows

-- the layout of texts
abbrev pub text_layout : Layout
text_layout = Utf8 offset.Bits32

-- column k, counted from the first of these, has the layout of texts
abbrev pub IsTextAt : ℕ → Roses Layout → Type 0
IsTextAt k none = ⊥
IsTextAt zero (more (node l kids) ts) = l ≡ text_layout
IsTextAt (suc k) (more t ts) = IsTextAt k ts

-- the columns at these positions hold texts
pub record AreTextsIn (coded : List ℕ) (ls : Roses Layout) : Type 0 where
  pub few : length coded ≤ max_fields
  pub texts : All (λ j. IsTextAt j ls) coded

-- how indices lie: in 32 bits, with a sign
abbrev pub index_layout : Layout
index_layout = Int int.Bits32 true

-- the layouts of the columns from column j on, those of the coded ones of indices
abbrev pub indexed_layouts : List ℕ → ℕ → Roses Layout → Roses Layout
indexed_layouts coded j none = none
indexed_layouts coded j (more (node l kids) ts) =
    more (node (if is_coded coded j then index_layout else l) kids) (indexed_layouts coded (suc j) ts)

-- the rows of the one column that a dictionary batch has
abbrev pub value_rows : List (List ℕ) → List (List Datum)
value_rows values = map (λ t. text t ∷ []) values
