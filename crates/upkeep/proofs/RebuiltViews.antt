-- A view that is built anew, among the others.
use Rattle.std.proofs.Common.{
  ◌≡◌,
  ℕ,
  zero,
  suc,
  ◌<◌,
  false,
  true,
  Bool,
  List,
  [],
  ◌∷◌,
  ap,
  arith,
  get_or,
  length,
  refl,
  subst,
  sym,
  ◌∙◌,
}
use Rattle.std.specs.Prelude.{slice_set}
use Rattle.view_lang.specs.Config.{Table, View}
use Rattle.view_lang.specs.Shifts.{NumberedRows}
use Rattle.row_keys.specs.Numbered.{numbered}
use Rattle.row_keys.specs.Store.{Store}
use Rattle.upkeep.specs.Inputs.{side_by}
use Rattle.upkeep.specs.LiveParts.{AreLive}
use Rattle.upkeep.specs.StoreLaws.{set_mapped}
use Rattle.upkeep.specs.Stores.{HaveSameRows, Rows, rows_at, rows_in, tables_in}
use Rattle.upkeep.specs.ViewStates.{AreCurrent, EachIsCurrent, IsCurrent, stale_in}
use Rattle.upkeep.specs.declared.view_state.ViewState.{ViewState}
use Rattle.upkeep.proofs.ChangedStores.{still_of}

pub opened_stays :
    (ss ss' : List Store) (views : List View) (states : List ViewState) → HaveSameRows ss ss' → AreLive ss views states
    → AreLive ss' views states
opened_stays ss ss' views states opened was = record {
  these = still_of ss ss' views opened.tables was.these;
  current =
      subst (λ (rs : Rows). AreCurrent (tables_in ss') rs views states) (sym opened.rows)
      (subst (λ (ts : List Table). AreCurrent ts (rows_in ss) views states) (sym opened.tables) was.current);
}

each_set :
    (tables : List Table) (rows : Rows) (main : NumberedRows) (views : List View) (states : List ViewState) (k : ℕ)
    (v : View) (s : ViewState) → v ≡ get_or views k v → k < length views → IsCurrent tables v (side_by tables rows v) s main
    → EachIsCurrent tables rows main views states → EachIsCurrent tables rows main views (slice_set states k s)
each_set tables rows main [] states k v s is below here current = absurd (omega (arith, below))
each_set tables rows main (w ∷ ws) [] k v s is below here current = absurd current
each_set tables rows main (w ∷ ws) (x ∷ xs) zero v s is below here current =
    (subst (λ (a : View). IsCurrent tables a (side_by tables rows a) s main) is here, current.1)
each_set tables rows main (w ∷ ws) (x ∷ xs) (suc k) v s is below here current =
    (current.0, each_set tables rows main ws xs k v s is (omega (arith, below)) here current.1)

pub refreshed :
    (ss ss' : List Store) (views : List View) (states : List ViewState) (k : ℕ) (v : View) (s : ViewState)
    → HaveSameRows ss ss' → v ≡ get_or views k v → k < length views
    → IsCurrent (tables_in ss) v (side_by (tables_in ss) (rows_in ss) v) s (numbered (rows_at (rows_in ss) 0))
    → AreLive ss views states → AreLive ss' views (slice_set states k s)
refreshed ss ss' views states k v s opened is below here was =
    opened_stays ss ss' views (slice_set states k s) opened
    (record {
      these = was.these;
      current =
          each_set (tables_in ss) (rows_in ss) (numbered (rows_at (rows_in ss) 0)) views states k v s is below here
          was.current;
    })

pub fresh_at : (states : List ViewState) (k : ℕ) (s : ViewState) → s.stale ≡ false
    → stale_in (slice_set states k s) ≡ slice_set (stale_in states) k false
fresh_at states k s fresh =
    set_mapped (λ (x : ViewState). x.stale) states k s ∙ ap (slice_set (stale_in states) k) fresh

pub fresh_was : (states : List ViewState) (k : ℕ) (s : ViewState) → s ≡ get_or states k s → s.stale ≡ false
    → stale_in states ≡ slice_set (stale_in states) k false
fresh_was [] k s is fresh = refl
fresh_was (x ∷ xs) zero s is fresh =
    ap (λ (b : Bool). b ∷ stale_in xs) (ap (λ (y : ViewState). y.stale) (sym is) ∙ fresh)
fresh_was (x ∷ xs) (suc k) s is fresh = ap (λ (bs : List Bool). x.stale ∷ bs) (fresh_was xs k s is fresh)

-- the state of a view that isn't stale is current
pub state_current :
    (tables : List Table) (rows : Rows) (main : NumberedRows) (views : List View) (states : List ViewState) (k : ℕ)
    (v : View) (s : ViewState) → v ≡ get_or views k v → s ≡ get_or states k s → k < length views
    → EachIsCurrent tables rows main views states → IsCurrent tables v (side_by tables rows v) s main
state_current tables rows main [] states k v s is at below current = absurd (omega (arith, below))
state_current tables rows main (w ∷ ws) [] k v s is at below current = absurd current
state_current tables rows main (w ∷ ws) (x ∷ xs) zero v s is at below current =
    subst (λ (y : ViewState). IsCurrent tables v (side_by tables rows v) y main) (sym at)
    (subst (λ (a : View). IsCurrent tables a (side_by tables rows a) x main) (sym is) current.0)
state_current tables rows main (w ∷ ws) (x ∷ xs) (suc k) v s is at below current =
    state_current tables rows main ws xs k v s is at (omega (arith, below)) current.1

-- and it isn't marked stale
pub stale_there : (states : List ViewState) (old : List Bool) (k : ℕ) (s : ViewState)
    → stale_in states ≡ slice_set old k false → s ≡ get_or states k s → k < length states → s.stale ≡ false
stale_there [] old k s is at below = absurd (omega (arith, below))
stale_there (x ∷ xs) [] k s is at below =
    absurd (omega (arith, ap length is))
stale_there (x ∷ xs) (b ∷ bs) zero s is at below =
    ap (λ (y : ViewState). y.stale) at ∙ ap (λ (l : List Bool). get_or l 0 false) is
stale_there (x ∷ xs) (b ∷ bs) (suc k) s is at below =
    stale_there xs bs k s (ap tail is) at (omega (arith, below))
  where
    tail : List Bool → List Bool
    tail [] = []
    tail (c ∷ cs) = cs

-- a view isn't among the stale ones where its state isn't stale
pub fresh_kept : (states : List ViewState) (k : ℕ) (s : ViewState) → s ≡ get_or states k s → s.stale ≡ false
    → k < length states → get_or (stale_in states) k true ≡ false
fresh_kept [] k s at fresh below = absurd (omega (arith, below))
fresh_kept (x ∷ xs) zero s at fresh below = ap (λ (y : ViewState). y.stale) (sym at) ∙ fresh
fresh_kept (x ∷ xs) (suc k) s at fresh below = fresh_kept xs k s at fresh (omega (arith, below))

-- nor where it was built anew
pub fresh_set : (states : List ViewState) (k : ℕ) (s : ViewState) → s.stale ≡ false → k < length states
    → get_or (stale_in (slice_set states k s)) k true ≡ false
fresh_set [] k s fresh below = absurd (omega (arith, below))
fresh_set (x ∷ xs) zero s fresh below = fresh
fresh_set (x ∷ xs) (suc k) s fresh below = fresh_set xs k s fresh (omega (arith, below))
