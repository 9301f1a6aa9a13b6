-- What is looked up depends on the live rows of a side table alone.
use Rattle.std.proofs.Common.{
  ◌≡◌,
  ℕ,
  zero,
  suc,
  ◌<◌,
  List,
  [],
  ◌∷◌,
  Option,
  None,
  Some,
  ap,
  arith,
  refl,
  subst,
  sym,
  ◌∙◌,
}
use Rattle.std.specs.Prelude.{cond, find, slice_set}
use Rattle.std.specs.Option.{option_and_then}
use Rattle.values.specs.Datum.{Datum, bytes, list, null, structure, text, truth, whole}
use Rattle.view_lang.specs.Cells.{cell_at}
use Rattle.view_lang.specs.Config.{Table, View}
use Rattle.view_lang.specs.Contents.{Contents, key_in, same_key}
use Rattle.view_lang.specs.Images.{image, image_by}
use Rattle.view_lang.specs.Joined.{Side, joined_by, joined_row, looked_up, side_of}
use Rattle.view_lang.specs.Shifts.{NumberedRows}
use Rattle.view_lang.specs.Truth.{passes}
use Rattle.view_lang.specs.Views.{side_in}
use Rattle.view_lang.specs.World.{contents_at, table_at}
use Rattle.view_lang.specs.declared.view.Lookup.{Lookup}
use Rattle.row_keys.specs.Numbered.{numbered}
use Rattle.row_keys.specs.Slots.{Slot, live}
use Rattle.upkeep.specs.Inputs.{side_by}
use Rattle.upkeep.specs.Stores.{Rows, rows_at, world_of}
use Rattle.upkeep.specs.ViewStates.{AreCurrent, EachIsCurrent, IsCurrent, IsMaterialized, projected_by, projected_row}
use Rattle.upkeep.specs.declared.view_state.ViewState.{ViewState}

abbrev found_by : Table → Datum → List (List Datum) → Option (List Datum)
found_by t d rows = find (λ row. same_key d (key_in t row)) rows

side_live : (t : Table) (a b : Contents) → a.live ≡ b.live → (d : Datum) → side_of t a d ≡ side_of t b d
unfolding side_of
side_live t a b same null = refl
side_live t a b same (truth x) = ap (found_by t (truth x)) same
side_live t a b same (whole x) = ap (found_by t (whole x)) same
side_live t a b same (text x) = ap (found_by t (text x)) same
side_live t a b same (bytes x) = ap (found_by t (bytes x)) same
side_live t a b same (list x) = ap (found_by t (list x)) same
side_live t a b same (structure x) = ap (found_by t (structure x)) same

-- two sides in which the same is found

looked_same : (l : Option Lookup) (a b : Side) → ((d : Datum) → a d ≡ b d) → (row : List Datum)
    → looked_up l a row ≡ looked_up l b row
looked_same None a b same row = refl
looked_same (Some l) a b same row = same (cell_at row l.on)

made_same : (v : View) (a b : Side) → ((d : Datum) → a d ≡ b d) → (row : List Datum)
    → projected_row v a row ≡ projected_row v b row
unfolding joined_row
made_same v a b same row =
    ap (λ (found : Option (List Datum)). projected_by v.outputs
    (option_and_then (λ (r : List Datum). cond (passes v.filter r) (Some r) None) (joined_by v.lookup row found)))
    (looked_same v.lookup a b same row)

image_same :
    (f g : List Datum → Option (List Datum)) → ((row : List Datum) → f row ≡ g row) → (rows : NumberedRows)
    → image f rows ≡ image g rows
image_same f g same [] = refl
image_same f g same (e ∷ es) =
    ap (λ (m : Option (List Datum)). image_by e.0 m (image f es)) (same e.1)
    ∙ ap (image_by e.0 (g e.1)) (image_same f g same es)

pub current_same :
    (tables : List Table) (v : View) (a b : Side) (s : ViewState) (rows : NumberedRows)
    → ((d : Datum) → a d ≡ b d) → IsCurrent tables v a s rows → IsCurrent tables v b s rows
current_same tables v a b s rows same current = λ fresh. (
  subst (λ (made : NumberedRows). IsMaterialized v s.kept made)
      (image_same (projected_row v a) (projected_row v b) (made_same v a b same) rows) (current fresh).0,
  (current fresh).1,
)

-- a side table whose live rows stay

world_live : (rows : Rows) (m : ℕ) → (contents_at (world_of rows) m).live ≡ live (rows_at rows m)
unfolding live
world_live [] m = refl
world_live (r ∷ rs) zero = refl
world_live (r ∷ rs) (suc m) = world_live rs m

set_live : (rows : Rows) (n : ℕ) (slots : List Slot) (m : ℕ) → live slots ≡ live (rows_at rows n)
    → live (rows_at (slice_set rows n slots) m) ≡ live (rows_at rows m)
set_live [] n slots m same = refl
set_live (r ∷ rs) zero slots zero same = same
set_live (r ∷ rs) zero slots (suc m) same = refl
set_live (r ∷ rs) (suc n) slots zero same = refl
set_live (r ∷ rs) (suc n) slots (suc m) same = set_live rs n slots m same

pub set_main : (rows : Rows) (n : ℕ) (slots : List Slot) → 0 < n → rows_at (slice_set rows n slots) 0 ≡ rows_at rows 0
set_main [] n slots side = refl
set_main (r ∷ rs) zero slots side = absurd (omega (arith, side))
set_main (r ∷ rs) (suc n) slots side = refl

pub sides_same :
    (tables : List Table) (lookup : Option Lookup) (rows : Rows) (n : ℕ) (slots : List Slot)
    → live slots ≡ live (rows_at rows n) → (d : Datum)
    → side_in tables (world_of rows) lookup d ≡ side_in tables (world_of (slice_set rows n slots)) lookup d
sides_same tables None rows n slots same d = refl
sides_same tables (Some l) rows n slots same d =
    side_live (table_at tables (suc l.side)) (contents_at (world_of rows) (suc l.side))
    (contents_at (world_of (slice_set rows n slots)) (suc l.side))
    (world_live rows (suc l.side) ∙ sym (set_live rows n slots (suc l.side) same)
    ∙ sym (world_live (slice_set rows n slots) (suc l.side)))
    d

each_side_same :
    (tables : List Table) (rows : Rows) (n : ℕ) (slots : List Slot) (main : NumberedRows) (views : List View)
    (states : List ViewState) → live slots ≡ live (rows_at rows n) → EachIsCurrent tables rows main views states
    → EachIsCurrent tables (slice_set rows n slots) main views states
each_side_same tables rows n slots main [] [] same current = current
each_side_same tables rows n slots main [] (s ∷ ss) same current = absurd current
each_side_same tables rows n slots main (v ∷ vs) [] same current = absurd current
each_side_same tables rows n slots main (v ∷ vs) (s ∷ ss) same current = (
  current_same tables v (side_by tables rows v) (side_by tables (slice_set rows n slots) v) s main
      (sides_same tables v.lookup rows n slots same) current.0,
  each_side_same tables rows n slots main vs ss same current.1,
)

pub each_same :
    (tables : List Table) (rows : Rows) (n : ℕ) (slots : List Slot) (views : List View) (states : List ViewState)
    → 0 < n → live slots ≡ live (rows_at rows n) → AreCurrent tables rows views states
    → AreCurrent tables (slice_set rows n slots) views states
each_same tables rows n slots views states side same current =
    subst (λ (main : NumberedRows). EachIsCurrent tables (slice_set rows n slots) main views states)
    (ap numbered (sym (set_main rows n slots side)))
    (each_side_same tables rows n slots (numbered (rows_at rows 0)) views states same current)
