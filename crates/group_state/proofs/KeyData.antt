-- Keys, tuples of them, and their values.
use Rattle.std.proofs.Common.{◌≡◌, refl, ap, ap₂, sym, ◌∙◌, true≢false}
use Rattle.std.specs.Prelude.{ℕ, zero, suc, Bool, true, false, cond, List, [], ◌∷◌, Option, None, Some}
use Rattle.std.specs.List.{AllByRecursion}
use Rattle.std.specs.Ordering.{is_eq, ordering_then}
use Rattle.values.specs.Datum.{Datum, null, truth, whole, text, bytes, list, structure}
use Rattle.values.specs.Order.{datum_cmp}
use Rattle.values.specs.Keys.{datum_of_key}
use Rattle.values.specs.declared.key.Key.{Key}
use Rattle.values.specs.declared.key.Key.TheVariants as key
use Rattle.view_lang.specs.Cells.{cell_at, cells_at}
use Rattle.view_lang.specs.RowOrder.{tuple_cmp as data_cmp}
use Rattle.view_lang.specs.Groups.{same_tuple, rows_with}
use Rattle.view_lang.specs.Aggregates.{IsKeyCell}
use Rattle.group_state.specs.Keys.{key_in, key_cmp, tuple_cmp, data_of, datum_in}
use Rattle.group_state.specs.Tuples.{tuple_of, has_tuple, members}

pub key-data : (a b : Key) → key_cmp a b ≡ datum_cmp (datum_of_key a) (datum_of_key b)
key-data (key.Bool true) (key.Bool true) = refl
key-data (key.Bool true) (key.Bool false) = refl
key-data (key.Bool false) (key.Bool true) = refl
key-data (key.Bool false) (key.Bool false) = refl
key-data (key.Int x) (key.Int y) = refl
key-data (key.Utf8 x) (key.Utf8 y) = refl
key-data (key.Binary x) (key.Binary y) = refl
key-data key.Null key.Null = refl
key-data a b = refl

pub tuple-data : (s t : List Key) → tuple_cmp s t ≡ data_cmp (data_of s) (data_of t)
unfolding data_cmp
tuple-data [] [] = refl
tuple-data [] (b ∷ t) = refl
tuple-data (a ∷ s) [] = refl
tuple-data (a ∷ s) (b ∷ t) = ap₂ ordering_then (key-data a b) (tuple-data s t)

pub cell-data : (d : Datum) → IsKeyCell d → datum_of_key (key_in d) ≡ d
cell-data null h = refl
cell-data (truth b) h = refl
cell-data (whole n) h = refl
cell-data (text t) h = refl
cell-data (bytes b) h = refl
cell-data (list es) h = absurd (true≢false (sym h))
cell-data (structure es) h = absurd (true≢false (sym h))

abbrev pub HasKeys : List ℕ → List Datum → Type 0
HasKeys by row = AllByRecursion (λ k. IsKeyCell (cell_at row k)) by

pub tuple-of-data : (by : List ℕ) (row : List Datum) → HasKeys by row → data_of (tuple_of by row) ≡ cells_at by row
tuple-of-data [] row h = refl
tuple-of-data (k ∷ ks) row h = ap₂ (λ d ds. d ∷ ds) (cell-data (cell_at row k) h.0) (tuple-of-data ks row h.1)

pub test-data : (by : List ℕ) (t : List Key) (row : List Datum) → HasKeys by row
    → has_tuple by t row ≡ same_tuple (data_of t) (cells_at by row)
test-data by t row h = ap is_eq (tuple-data t (tuple_of by row) ∙ ap (data_cmp (data_of t)) (tuple-of-data by row h))

pub members-data : (by : List ℕ) (t : List Key) (rows : List (List Datum)) → AllByRecursion (HasKeys by) rows
    → members by t rows ≡ rows_with by (data_of t) rows
unfolding rows_with
members-data by t [] h = refl
members-data by t (r ∷ rs) h = ap₂ (λ (b : Bool) (l : List (List Datum)). cond b (r ∷ l) l) (test-data by t r h.0)
    (members-data by t rs h.1)

-- The value of a key is neither a list nor a struct.

key-cell : (k : Key) → IsKeyCell (datum_of_key k)
key-cell (key.Bool b) = refl
key-cell (key.Int n) = refl
key-cell (key.Utf8 t) = refl
key-cell (key.Binary b) = refl
key-cell key.Null = refl

pub some-cell : (o : Option Key) → IsKeyCell (datum_in o)
some-cell None = refl
some-cell (Some k) = key-cell k

pub data-cell : (t : List Key) (k : ℕ) → IsKeyCell (cell_at (data_of t) k)
data-cell [] k = refl
data-cell (x ∷ xs) zero = key-cell x
data-cell (x ∷ xs) (suc k) = data-cell xs k
