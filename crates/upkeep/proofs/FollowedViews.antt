-- Views in a loop that updates the state of each for rows that are inserted or deleted.
use Rattle.std.proofs.Common.{
  ◌≡◌,
  ℕ,
  zero,
  suc,
  ◌+◌,
  ◌*◌,
  ◌<◌,
  ◌≤◌,
  All,
  true,
  List,
  [],
  ◌∷◌,
  arith,
  get_or,
  length,
  subst,
  sym,
  ◌∙◌,
}
use Rattle.std.specs.Prelude.{slice_set}
use Rattle.std.proofs.lemmas.Bool.{true≢false}
use Rattle.std.proofs.lemmas.List.Elements.{All-head, All-tail}
use Rattle.view_lang.specs.Config.{Table, View}
use Rattle.view_lang.specs.Shifts.{Fits, IsFew, NumberedRows, Shift, patched}
use Rattle.upkeep.specs.Inputs.{side_by}
use Rattle.upkeep.specs.Stores.{Rows, rows_at, rows_in, tables_in}
use Rattle.upkeep.specs.ViewStates.{EachIsCurrent, IsCurrent, turned}
use Rattle.upkeep.specs.declared.view_state.Turn.{Turn}
use Rattle.upkeep.specs.declared.view_state.ViewState.{ViewState}
use Rattle.row_keys.specs.Store.{Store}
use Rattle.upkeep.proofs.LookedUpViews.{current_each, each_current}
use Rattle.upkeep.proofs.Mixtures.{Mixed, each_length, mixed_all, mixed_more, mixed_next}

-- a view's state is computed from these rows
abbrev With : List Table → Rows → NumberedRows → View → ViewState → Type 0
With tables rows live v s = IsCurrent tables v (side_by tables rows v) s live

-- the first n states are those of the rows after a change
abbrev pub AreFollowed : List Table → Rows → NumberedRows → NumberedRows → ℕ → List View → List ViewState → Type 0
AreFollowed tables rows before after n views states =
    Mixed (With tables rows after) (With tables rows before) n views states

pub all_followed :
    (tables : List Table) (rows : Rows) (before after : NumberedRows) (n : ℕ) (views : List View)
    (states : List ViewState) → AreFollowed tables rows before after n views states → length views ≤ n
    → EachIsCurrent tables rows after views states
all_followed tables rows before after n views states mixed all =
    current_each tables rows after views states
    (mixed_all (With tables rows after) (With tables rows before) n views states mixed all)

-- the same change, where the rows of the stores are the same
abbrev change_in : Rows → Turn → List ℕ → List Shift
change_in rows t numbers = turned t (rows_at rows 0) numbers

pub follow_fits :
    (old now : List Store) (before after : NumberedRows) (t : Turn) (numbers : List ℕ) (n : ℕ) (views : List View)
    (states : List ViewState) (v : View) (s : ViewState) → tables_in now ≡ tables_in old → rows_in now ≡ rows_in old
    → AreFollowed (tables_in old) (rows_in old) before after n views states → n < length views
    → v ≡ get_or views n v → s ≡ get_or states n s
    → Fits before (change_in (rows_in old) t numbers) → IsFew before (change_in (rows_in old) t numbers)
    → (rows : NumberedRows)
    × (With (tables_in now) (rows_in now) rows v s
    × (Fits rows (change_in (rows_in now) t numbers) × IsFew rows (change_in (rows_in now) t numbers)))
follow_fits old now before after t numbers n views states v s tables rows mixed below at_v at_s fits few =
    let current : With (tables_in old) (rows_in old) before v s =
    mixed_next (With (tables_in old) (rows_in old) after) (With (tables_in old) (rows_in old) before) n views states v
    s mixed below at_v at_s in
    let P : List Table → Rows → Type 0 = λ ts rs. With ts rs before v s
    × (Fits before (change_in rs t numbers) × IsFew before (change_in rs t numbers)) in (
      before,
      subst (λ rs. P (tables_in now) rs) (sym rows)
          (subst (λ ts. P ts (rows_in old)) (sym tables) (current, (fits, few))),
    )

pub followed_more :
    (old now : List Store) (before : NumberedRows) (t : Turn) (numbers : List ℕ) (n : ℕ) (views : List View)
    (states : List ViewState) (v : View) (s u : ViewState) → tables_in now ≡ tables_in old → rows_in now ≡ rows_in old
    → AreFollowed (tables_in old) (rows_in old) before (patched before (change_in (rows_in old) t numbers)) n views
    states
    → n < length views → v ≡ get_or views n v → s ≡ get_or states n s
    → ((rows : NumberedRows) → Fits rows (change_in (rows_in now) t numbers)
    → With (tables_in now) (rows_in now) rows v s
    → With (tables_in now) (rows_in now) (patched rows (change_in (rows_in now) t numbers)) v u)
    → Fits before (change_in (rows_in old) t numbers)
    → AreFollowed (tables_in old) (rows_in old) before (patched before (change_in (rows_in old) t numbers)) (n + 1)
    views
    (slice_set states n u)
followed_more old now before t numbers n views states v s u tables rows mixed below at_v at_s kept fits =
    let after : NumberedRows = patched before (change_in (rows_in old) t numbers) in
    let Done : View → ViewState → Type 0 = With (tables_in old) (rows_in old) after in
    let Ahead : View → ViewState → Type 0 = With (tables_in old) (rows_in old) before in
    let P : List Table → Rows → Type 0 = λ ts rs. Fits before (change_in rs t numbers) → With ts rs before v s
    → With ts rs (patched before (change_in rs t numbers)) v u in
    let here : P (tables_in old) (rows_in old) =
    subst (λ rs. P (tables_in old) rs) rows (subst (λ ts. P ts (rows_in now)) tables (kept before)) in
    mixed_more Done Ahead n views states v u mixed below at_v
    (here fits (mixed_next Done Ahead n views states v s mixed below at_v at_s))

-- n were opened
pub opened_more : (i n a b c : ℕ) → b ≤ a + i * n → c ≤ b + n → c ≤ a + (i + 1) * n
opened_more i n a b c so_far more = omega (arith, so_far, more, distributes i n) where
  distributes : (i n : ℕ) → (i + 1) * n ≡ i * n + n
  distributes zero n = omega arith
  distributes (suc i) n = let h = distributes i n in omega (arith, h)

-- states that are all stale, and states of no rows

pub current_alike :
    (tables : List Table) (rows : Rows) (live : NumberedRows) (views : List View) (states : List ViewState)
    → EachIsCurrent tables rows live views states → length states ≡ length views
current_alike tables rows live views states each =
    each_length (With tables rows live) views states (each_current tables rows live views states each)

pub stale_current :
    (tables : List Table) (rows : Rows) (live : NumberedRows) (views : List View) (states : List ViewState)
    → length states ≡ length views → All (λ s. s.stale ≡ true) states → EachIsCurrent tables rows live views states
stale_current tables rows live [] [] alike stale = tt
stale_current tables rows live [] (s ∷ ss) alike stale = absurd (omega (arith, alike))
stale_current tables rows live (v ∷ vs) [] alike stale = absurd (omega (arith, alike))
stale_current tables rows live (v ∷ vs) (s ∷ ss) alike stale = (
  λ fresh. absurd (true≢false (sym (All-head (λ (x : ViewState). x.stale ≡ true) s ss stale) ∙ fresh)),
  stale_current tables rows live vs ss (omega (arith, alike))
      (All-tail (λ (x : ViewState). x.stale ≡ true) s ss stale),
)
