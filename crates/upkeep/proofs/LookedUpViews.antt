-- Views that look up a table whose rows change, and those that don't.
use Rattle.std.proofs.Common.{
  ◌≡◌,
  ℕ,
  zero,
  suc,
  ◌+◌,
  ◌*◌,
  ◌<◌,
  ◌≤◌,
  ◌≢◌,
  ◌||◌,
  Bool,
  true,
  false,
  List,
  [],
  ◌∷◌,
  Option,
  None,
  Some,
  add-one,
  ap,
  arith,
  get_or,
  length,
  refl,
  subst,
  sym,
  take,
  ◌∙◌,
}
use Rattle.std.specs.List.{list_any}
use Rattle.std.specs.Prelude.{cond, count_by, slice_set}
use Rattle.std.proofs.lemmas.List.Sums.{sum_by-cons}
use Rattle.std.proofs.lemmas.Bool.{eqb-false, true≢false}
use Rattle.std.proofs.lemmas.List.{get_or-set_other}
use Rattle.values.specs.Datum.{Datum}
use Rattle.view_lang.specs.Config.{Table, View}
use Rattle.view_lang.specs.Contents.{no_contents}
use Rattle.view_lang.specs.Joined.{Side, side_of}
use Rattle.view_lang.specs.Shifts.{NumberedRows}
use Rattle.view_lang.specs.Views.{side_in}
use Rattle.view_lang.specs.World.{contents_at, table_at}
use Rattle.view_lang.specs.declared.view.Lookup.{Lookup}
use Rattle.row_keys.specs.Numbered.{numbered}
use Rattle.row_keys.specs.Slots.{contents_of, live}
use Rattle.row_keys.specs.Store.{Store}
use Rattle.upkeep.specs.Inputs.{side_by}
use Rattle.upkeep.specs.Stores.{Rows, rows_at, tables_in, world_of}
use Rattle.upkeep.specs.StoreLaws.{set_mapped, tables_length}
use Rattle.row_keys.specs.HiddenChanges.{named_keys}
use Rattle.upkeep.specs.Touched.{opened_for, refers}
use Rattle.row_keys.specs.declared.table_change.TableChange.{TableChange}
use Rattle.upkeep.specs.ViewStates.{
  AreCurrent,
  DiffersAt,
  EachIsCurrent,
  IsCurrent,
  IsCurrentWith,
  looks_up,
  lookups_stale,
  stale_if,
  stale_in,
}
use Rattle.upkeep.specs.declared.view_state.ViewState.{ViewState}
use Rattle.upkeep.proofs.Mixtures.{Each, Mixed, each_weaker, mixed_all, mixed_each, mixed_more, mixed_next}

-- rows of tables of which one may differ

rows_elsewhere : (n m : ℕ) (old new : Rows) → DiffersAt n old new → m ≢ n → rows_at old m ≡ rows_at new m
rows_elsewhere n m old new differs other =
    ap (λ (rs : Rows). rows_at rs m) differs ∙ get_or-set_other new n m (rows_at old n) [] other

contents_elsewhere : (n m : ℕ) (old new : Rows) → DiffersAt n old new → m ≢ n
    → contents_at (world_of old) m ≡ contents_at (world_of new) m
contents_elsewhere n m old new differs other =
    ap (λ (rs : Rows). contents_at (world_of rs) m) differs
    ∙ ap (λ w. contents_at w m) (set_mapped contents_of new n (rows_at old n))
    ∙ get_or-set_other (world_of new) n m (contents_of (rows_at old n)) no_contents other

sides_same :
    (tables : List Table) (lookup : Option Lookup) (n : ℕ) (old new : Rows) → DiffersAt n old new
    → looks_up lookup n ≡ false → side_in tables (world_of old) lookup ≡ side_in tables (world_of new) lookup
sides_same tables None n old new differs apart = refl
sides_same tables (Some l) n old new differs apart =
    ap (side_of (table_at tables (suc l.side)))
    (contents_elsewhere n (suc l.side) old new differs (eqb-false (suc l.side) n apart))

pub main_same : (n : ℕ) (old new : Rows) → 0 < n → DiffersAt n old new
    → numbered (rows_at old 0) ≡ numbered (rows_at new 0)
main_same n old new side differs =
    ap numbered (rows_elsewhere n 0 old new differs (λ (e : 0 ≡ n). omega (arith, e, side)))

-- a view that doesn't look the table up

pub current_after :
    (tables : List Table) (n : ℕ) (old new : Rows) (v : View) (s : ViewState) → 0 < n → DiffersAt n old new
    → looks_up v.lookup n ≡ false → IsCurrentWith tables old v s → IsCurrentWith tables new v s
current_after tables n old new v s side differs apart current =
    subst (λ (rows : NumberedRows). IsCurrent tables v (side_by tables new v) s rows) (main_same n old new side differs)
    (subst (λ (a : Side). IsCurrent tables v a s (numbered (rows_at old 0)))
    (sides_same tables v.lookup n old new differs apart) current)

current_before :
    (tables : List Table) (n : ℕ) (old new : Rows) (v : View) (s : ViewState) → 0 < n → DiffersAt n old new
    → looks_up v.lookup n ≡ false → IsCurrentWith tables new v s → IsCurrentWith tables old v s
current_before tables n old new v s side differs apart current =
    subst (λ (rows : NumberedRows). IsCurrent tables v (side_by tables old v) s rows)
    (sym (main_same n old new side differs))
    (subst (λ (a : Side). IsCurrent tables v a s (numbered (rows_at new 0)))
    (sym (sides_same tables v.lookup n old new differs apart)) current)

-- each view

pub each_current :
    (tables : List Table) (rows : Rows) (live : NumberedRows) (views : List View) (states : List ViewState)
    → EachIsCurrent tables rows live views states
    → Each (λ (v : View) (s : ViewState). IsCurrent tables v (side_by tables rows v) s live) views states
each_current tables rows live [] [] each = each
each_current tables rows live [] (s ∷ ss) each = absurd each
each_current tables rows live (v ∷ vs) [] each = absurd each
each_current tables rows live (v ∷ vs) (s ∷ ss) each = (each.0, each_current tables rows live vs ss each.1)

pub current_each :
    (tables : List Table) (rows : Rows) (live : NumberedRows) (views : List View) (states : List ViewState)
    → Each (λ (v : View) (s : ViewState). IsCurrent tables v (side_by tables rows v) s live) views states
    → EachIsCurrent tables rows live views states
current_each tables rows live [] [] each = each
current_each tables rows live [] (s ∷ ss) each = absurd each
current_each tables rows live (v ∷ vs) [] each = absurd each
current_each tables rows live (v ∷ vs) (s ∷ ss) each = (each.0, current_each tables rows live vs ss each.1)

-- a loop that marks states

stale_next :
    (n : ℕ) (views : List View) (states : List ViewState) (i : ℕ) (v : View) (s : ViewState)
    → length states ≡ length views → i < length views → v ≡ get_or views i v
    → s ≡ get_or (lookups_stale n (take i views) states) i s
    → slice_set (lookups_stale n (take i views) states) i (stale_if (looks_up v.lookup n) s)
    ≡ lookups_stale n (take (suc i) views) states
stale_next n [] ss i v s alike below at_v at_s = absurd (omega (arith, below))
stale_next n (w ∷ ws) [] i v s alike below at_v at_s = absurd (omega (arith, alike))
stale_next n (w ∷ ws) (u ∷ us) zero v s alike below at_v at_s =
    ap (λ (x : View). stale_if (looks_up x.lookup n) s ∷ us) at_v
    ∙ ap (λ (x : ViewState). stale_if (looks_up w.lookup n) x ∷ us) at_s
stale_next n (w ∷ ws) (u ∷ us) (suc i) v s alike below at_v at_s =
    ap (λ ss. stale_if (looks_up w.lookup n) u ∷ ss)
    (stale_next n ws us i v s (omega (arith, alike)) (omega (arith, below)) at_v at_s)

pub stale_more :
    (n : ℕ) (views : List View) (states now : List ViewState) (i : ℕ) (v : View) (s t : ViewState)
    → length states ≡ length views → now ≡ lookups_stale n (take i views) states → i < length views
    → v ≡ get_or views i v → s ≡ get_or now i s → t ≡ stale_if (looks_up v.lookup n) s
    → slice_set now i t ≡ lookups_stale n (take (i + 1) views) states
stale_more n views states now i v s t alike so_far below at_v at_s marked =
    ap (slice_set now i) marked
    ∙ ap (λ ss. slice_set ss i (stale_if (looks_up v.lookup n) s)) so_far
    ∙ stale_next n views states i v s alike below at_v
    (subst (λ (ss : List ViewState). s ≡ get_or ss i s) so_far at_s)
    ∙ ap (λ k. lookups_stale n (take k views) states) (sym (add-one i))

pub lookups_length : (n : ℕ) (views : List View) (states : List ViewState)
    → length (lookups_stale n views states) ≡ length states
lookups_length n [] ss = refl
lookups_length n (v ∷ vs) [] = refl
lookups_length n (v ∷ vs) (s ∷ ss) = ap suc (lookups_length n vs ss)

-- which of them are stale

abbrev flagged : ℕ → List View → List Bool → List Bool
flagged n [] bs = bs
flagged n (v ∷ vs) [] = []
flagged n (v ∷ vs) (b ∷ bs) = (b || looks_up v.lookup n) ∷ flagged n vs bs

stale_flagged : (n : ℕ) (views : List View) (states : List ViewState)
    → stale_in (lookups_stale n views states) ≡ flagged n views (stale_in states)
stale_flagged n [] ss = refl
stale_flagged n (v ∷ vs) [] = refl
stale_flagged n (v ∷ vs) (s ∷ ss) = ap (λ bs. (s.stale || looks_up v.lookup n) ∷ bs) (stale_flagged n vs ss)

-- A view that looks the table up counts as stale whatever its state was.
flagged_set : (n : ℕ) (views : List View) (bs : List Bool) (i : ℕ) (v : View) (b : Bool) → v ≡ get_or views i v
    → i < length views → looks_up v.lookup n ≡ true → flagged n views (slice_set bs i b) ≡ flagged n views bs
flagged_set n [] bs i v b at below looks = absurd (omega (arith, below))
flagged_set n (w ∷ ws) [] i v b at below looks = refl
flagged_set n (w ∷ ws) (x ∷ xs) zero v b at below looks =
    let here : looks_up w.lookup n ≡ true = ap (λ (a : View). looks_up a.lookup n) (sym at) ∙ looks in
    ap (λ c. c ∷ flagged n ws xs) (ap (λ y. b || y) here ∙ either b ∙ sym (ap (λ y. x || y) here ∙ either x))
  where
    either : (c : Bool) → c || true ≡ true
    either true = refl
    either false = refl
flagged_set n (w ∷ ws) (x ∷ xs) (suc i) v b at below looks =
    ap (λ bs. (x || looks_up w.lookup n) ∷ bs) (flagged_set n ws xs i v b at (omega (arith, below)) looks)

pub stale_set : (n : ℕ) (views : List View) (ss ts : List ViewState) (i : ℕ) (v : View) (t : ViewState)
    → v ≡ get_or views i v → i < length views → looks_up v.lookup n ≡ true → stale_in ss ≡ stale_in ts
    → stale_in (lookups_stale n views (slice_set ss i t)) ≡ stale_in (lookups_stale n views ts)
stale_set n views ss ts i v t at below looks alike =
    stale_flagged n views (slice_set ss i t)
    ∙ ap (flagged n views) (set_mapped (λ (s : ViewState). s.stale) ss i t)
    ∙ flagged_set n views (stale_in ss) i v t.stale at below looks
    ∙ ap (flagged n views) alike ∙ sym (stale_flagged n views ts)

-- the state of each view, in a loop in which they follow

both_false : (a b : Bool) → a || b ≡ false → (a ≡ false) × (b ≡ false)
both_false true b none = absurd (true≢false none)
both_false false b none = (refl, none)

marked_current :
    (tables : List Table) (rows : Rows) (live : NumberedRows) (v : View) (s : ViewState) (looks : Bool)
    → (looks ≡ false → IsCurrent tables v (side_by tables rows v) s live)
    → IsCurrent tables v (side_by tables rows v) (stale_if looks s) live
marked_current tables rows live v s looks current = λ fresh.
    let both = both_false s.stale looks fresh in
    current both.1 both.0

marked_each :
    (tables : List Table) (n : ℕ) (rows : Rows) (live : NumberedRows) (views : List View) (states : List ViewState)
    → Each
    (λ (v : View) (s : ViewState). looks_up v.lookup n ≡ false → IsCurrent tables v (side_by tables rows v) s live)
    views states
    → EachIsCurrent tables rows live views (lookups_stale n views states)
marked_each tables n rows live [] [] each = each
marked_each tables n rows live [] (s ∷ ss) each = absurd each
marked_each tables n rows live (v ∷ vs) [] each = absurd each
marked_each tables n rows live (v ∷ vs) (s ∷ ss) each = (
  marked_current tables rows live v s (looks_up v.lookup n) each.0,
  marked_each tables n rows live vs ss each.1,
)

-- those before index i are current with the new rows, and the others with the old ones
abbrev pub AreFollowing : List Table → Rows → Rows → ℕ → List View → List ViewState → Type 0
AreFollowing tables old new i views states = Mixed (IsCurrentWith tables new) (IsCurrentWith tables old) i views states

pub next_following :
    (tables : List Table) (old new : Rows) (i : ℕ) (views : List View) (states : List ViewState) (v : View)
    (s : ViewState) → i < length views → v ≡ get_or views i v → s ≡ get_or states i s
    → AreFollowing tables old new i views states → IsCurrentWith tables old v s
next_following tables old new i views states v s below at_v at_s so_far =
    mixed_next (IsCurrentWith tables new) (IsCurrentWith tables old) i views states v s so_far below at_v at_s

pub more_following :
    (tables : List Table) (old new : Rows) (i : ℕ) (views : List View) (states : List ViewState) (v : View)
    (t : ViewState) → i < length views → v ≡ get_or views i v → IsCurrentWith tables new v t
    → AreFollowing tables old new i views states → AreFollowing tables old new (i + 1) views (slice_set states i t)
more_following tables old new i views states v t below at_v current so_far =
    mixed_more (IsCurrentWith tables new) (IsCurrentWith tables old) i views states v t so_far below at_v current

pub all_following : (tables : List Table) (old new : Rows) (i : ℕ) (views : List View) (states : List ViewState)
    → length views ≤ i → AreFollowing tables old new i views states → AreCurrent tables new views states
all_following tables old new i views states all following =
    current_each tables new (numbered (rows_at new 0)) views states
    (mixed_all (IsCurrentWith tables new) (IsCurrentWith tables old) i views states following all)

each_set : {X Y : Type 0} (P : X → Y → Type 0) (i : ℕ) (xs : List X) (ys : List Y) (x : X) (y : Y) → x ≡ get_or xs i x
    → P x y → Each P xs ys → Each P xs (slice_set ys i y)
each_set P i [] [] x y at here each = each
each_set P i [] (b ∷ ys) x y at here each = absurd each
each_set P i (a ∷ xs) [] x y at here each = absurd each
each_set P zero (a ∷ xs) (b ∷ ys) x y at here each = (subst (λ z. P z y) at here, each.1)
each_set P (suc i) (a ∷ xs) (b ∷ ys) x y at here each = (each.0, each_set P i xs ys x y at here each.1)

-- after an error, where nothing is known of the state of the view that couldn't follow
pub marked_following :
    (tables : List Table) (n i : ℕ) (old new : Rows) (views : List View) (states : List ViewState) (v : View)
    (t : ViewState) → 0 < n → DiffersAt n old new → v ≡ get_or views i v → looks_up v.lookup n ≡ true
    → AreFollowing tables old new i views states
    → AreCurrent tables old views (lookups_stale n views (slice_set states i t))
marked_following tables n i old new views states v t side differs at looks following =
    marked_each tables n old (numbered (rows_at old 0)) views (slice_set states i t)
    (each_set (λ (w : View) (s : ViewState). looks_up w.lookup n ≡ false → IsCurrentWith tables old w s) i views states
    v t at (λ apart. absurd (true≢false (sym looks ∙ apart)))
    (mixed_each (IsCurrentWith tables new) (IsCurrentWith tables old)
    (λ (w : View) (s : ViewState). looks_up w.lookup n ≡ false → IsCurrentWith tables old w s)
    (λ w s current apart. current_before tables n old new w s side differs apart current)
    (λ w s current apart. current) i views states following))

-- without keys: all are as they were but for the marks
pub marked_kept :
    (tables : List Table) (n : ℕ) (old : Rows) (views : List View) (states : List ViewState)
    → AreCurrent tables old views states → AreCurrent tables old views (lookups_stale n views states)
marked_kept tables n old views states current =
    marked_each tables n old (numbered (rows_at old 0)) views states
    (each_weaker (IsCurrentWith tables old)
    (λ (v : View) (s : ViewState). looks_up v.lookup n ≡ false → IsCurrentWith tables old v s)
    (λ v s here apart. here) views states (each_current tables old (numbered (rows_at old 0)) views states current))

-- how many rows refer to keys by one of the views

any_here : (views : List View) (i : ℕ) (v : View) (f : View → Bool) → v ≡ get_or views i v → i < length views
    → f v ≡ true → list_any f views ≡ true
any_here [] i v f at below h = absurd (omega (arith, below))
any_here (w ∷ ws) zero v f at below h = ap (λ b. b || list_any f ws) (ap f (sym at) ∙ h)
any_here (w ∷ ws) (suc i) v f at below h = or_true (f w) (list_any f ws) (any_here ws i v f at (omega (arith, below)) h)
  where
    or_true : (a b : Bool) → b ≡ true → a || b ≡ true
    or_true true b k = refl
    or_true false b k = k

abbrev one_if : Bool → ℕ
one_if b = cond b 1 0

counted_one : (p q : Bool) → (p ≡ true → q ≡ true) → one_if p ≤ one_if q
counted_one true q h = let same : one_if q ≡ one_if true = ap one_if (h refl) in omega (arith, same)
counted_one false q h = omega arith

counted_below : (p q : List Datum → Bool) (rows : List (List Datum))
    → ((row : List Datum) → p row ≡ true → q row ≡ true) → count_by p rows ≤ count_by q rows
counted_below p q [] h = omega arith
counted_below p q (r ∷ rs) h =
    let one = sum_by-cons (λ x. one_if (p x)) r rs in
    let two = sum_by-cons (λ x. one_if (q x)) r rs in
    let rest = counted_below p q rs h in
    let here = counted_one (p r) (q r) (h r) in
    omega (arith, one, two, rest, here)

pub view_counted :
    (width : ℕ) (views : List View) (i : ℕ) (v : View) (n : ℕ) (keys : List Datum) (rows : List (List Datum))
    → v ≡ get_or views i v → i < length views
    → count_by (opened_for width v n keys) rows ≤ count_by (refers width views n keys) rows
view_counted width views i v n keys rows at below =
    counted_below (opened_for width v n keys) (refers width views n keys) rows
    (λ row h. any_here views i v (λ w. opened_for width w n keys row) at below h)

pub opened_more : (old mid new place one all : ℕ) → mid ≤ old + place * all → new ≤ mid + one → one ≤ all
    → new ≤ old + (place + 1) * all
opened_more old mid new place one all so_far opened few =
    omega (arith, so_far, opened, few, distributes place all)
  where
    distributes : (i n : ℕ) → (i + 1) * n ≡ i * n + n
    distributes zero n = omega arith
    distributes (suc i) n = let h = distributes i n in omega (arith, h)

pub opened_all : (place many all : ℕ) → place ≤ many → place * all ≤ many * all
opened_all zero many all few = omega arith
opened_all (suc place) zero all few = absurd (omega (arith, few))
opened_all (suc place) (suc many) all few =
    let rest = opened_all place many all (omega (arith, few)) in omega (arith, rest)

-- stores whose rows were opened

pub many_stores : (stores now : List Store) → tables_in now ≡ tables_in stores → length now ≡ length stores
many_stores stores now tables = sym (tables_length now) ∙ ap length tables ∙ tables_length stores

-- the keys that a change of a table names
abbrev pub named_at : ℕ → TableChange → List Table → Rows → List Datum
named_at n c tables rows = named_keys (table_at tables n) c (rows_at rows n)

-- and how many rows refer to them
abbrev pub referring_at : (List Datum → List Datum → Bool) → ℕ → TableChange → List Table → Rows → ℕ
referring_at refers_to n c tables rows = count_by (refers_to (named_at n c tables rows)) (live (rows_at rows 0))
