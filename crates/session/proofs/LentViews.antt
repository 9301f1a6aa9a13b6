-- A view that is built anew before it is written shows what it showed.
use Rattle.std.proofs.Common.{◌≡◌, ℕ, List, ap, subst, ◌∙◌}
use Rattle.std.specs.Prelude.{IfSome, Option, Some}
use Rattle.view_lang.specs.Config.{Table, View}
use Rattle.view_lang.specs.Laws.{Viewed}
use Rattle.view_lang.specs.Views.{view_rows}
use Rattle.row_keys.specs.Slots.{live}
use Rattle.upkeep.specs.Inputs.{side_by}
use Rattle.upkeep.specs.LiveParts.{LiveParts, view_at}
use Rattle.upkeep.specs.Stores.{HaveSameRows, Rows, rows_at, rows_in, tables_in}
use Rattle.upkeep.specs.ViewedRows.{IsViewed, rows_shown}

pub in_some : {X : Type 0} (P : X → Type 0) {o : Option X} {x : X} → o ≡ Some x → IfSome o P → P x
in_some P is holds = subst (λ o. IfSome o P) is holds

-- the same rows can be viewed
viewed_by :
    (tables tables' : List Table) (rows rows' : Rows) (v v' : View) → tables' ≡ tables → rows' ≡ rows → v' ≡ v
    → Viewed tables' v' (side_by tables' rows' v') (live (rows_at rows' 0))
    → Viewed tables v (side_by tables rows v) (live (rows_at rows 0))
viewed_by tables tables' rows rows' v v' same_tables same_rows same_view viewed =
    subst (λ (w : View). Viewed tables w (side_by tables rows w) (live (rows_at rows 0))) same_view
    (subst (λ (r : Rows). Viewed tables v' (side_by tables r v') (live (rows_at r 0))) same_rows
    (subst (λ (t : List Table). Viewed t v' (side_by t rows' v') (live (rows_at rows' 0))) same_tables viewed))

shown_by : (tables tables' : List Table) (rows rows' : Rows) (v v' : View) → tables' ≡ tables → rows' ≡ rows → v' ≡ v
    → view_rows v' (side_by tables' rows' v') (live (rows_at rows' 0))
    ≡ view_rows v (side_by tables rows v) (live (rows_at rows 0))
shown_by tables tables' rows rows' v v' same_tables same_rows same_view =
    ap (λ (t : List Table). view_rows v' (side_by t rows' v') (live (rows_at rows' 0))) same_tables
    ∙ ap (λ (r : Rows). view_rows v' (side_by tables r v') (live (rows_at r 0))) same_rows
    ∙ ap (λ (w : View). view_rows w (side_by tables rows w) (live (rows_at rows 0))) same_view

module _ (old mid : LiveParts) (place : ℕ) (opened : HaveSameRows old.stores mid.stores)
    (views : mid.views ≡ old.views) where
  same_view : view_at mid.views place ≡ view_at old.views place
  same_view = ap (λ (vs : List View). view_at vs place) views

  pub viewed_before : IsViewed mid.stores (view_at mid.views place) → IsViewed old.stores (view_at old.views place)
  viewed_before viewed =
      viewed_by (tables_in old.stores) (tables_in mid.stores) (rows_in old.stores) (rows_in mid.stores)
      (view_at old.views place) (view_at mid.views place) opened.tables opened.rows same_view viewed

  pub shown_before : rows_shown mid.stores (view_at mid.views place) ≡ rows_shown old.stores (view_at old.views place)
  shown_before =
      shown_by (tables_in old.stores) (tables_in mid.stores) (rows_in old.stores) (rows_in mid.stores)
      (view_at old.views place) (view_at mid.views place) opened.tables opened.rows same_view
