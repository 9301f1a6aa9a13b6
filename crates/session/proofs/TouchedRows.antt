-- The rows that the newest change touches, when the oldest record is dropped.
use Rattle.std.proofs.Common.{
  ◌≡◌,
  ℕ,
  zero,
  suc,
  ◌+◌,
  ◌*◌,
  ◌-◌,
  ◌<◌,
  ◌≤◌,
  false,
  List,
  [],
  ◌∷◌,
  ◌++◌,
  arith,
  length,
  map,
  take,
  refl,
  ap,
  subst,
  sym,
  ◌∙◌,
}
use Rattle.std.specs.Prelude.{count_by}
use Rattle.std.specs.List.{range_with_len}
use Rattle.view_lang.specs.Config.{Table, View}
use Rattle.view_lang.specs.Contents.{key_in}
use Rattle.view_lang.specs.Limits.{max_undo_depth}
use Rattle.view_lang.specs.World.{table_at}
use Rattle.row_keys.specs.Slots.{CanRetract, Slot, emptied, keys_at, last_numbers, live, marked, row_of}
use Rattle.row_keys.proofs.Emptied.{
  IsOff,
  Spares,
  length_emptied,
  live_emptied,
  off_false,
  row_emptied,
  there_off,
}
use Rattle.upkeep.specs.StoreLaws.{length_placed}
use Rattle.upkeep.specs.LiveParts.{LiveParts}
use Rattle.upkeep.specs.Stores.{Rows, rows_at, rows_in, tables_in, visits_in}
use Rattle.row_keys.specs.HiddenChanges.{named_keys}
use Rattle.row_keys.specs.TableChanges.{CanGoBack, restores}
use Rattle.upkeep.specs.Stores.{released_at}
use Rattle.upkeep.specs.Touched.{OpensOnce, refers, touched}
use Rattle.upkeep.specs.ViewStates.{width_in}
use Rattle.row_keys.specs.declared.table_change.TableChange.{TableChange}
use Rattle.row_keys.specs.declared.table_change.TableChange.TheVariants.{Appended, Put, Retracted}
use Rattle.session.specs.Released.{NewestTouches}
use Rattle.session.specs.Shows.{CanUndo}
use Rattle.session.specs.Visits.{OpensTouched}
use Rattle.session.specs.declared.undo.UndoRecord.{UndoRecord}
use Rattle.session.proofs.Pasts.{can_held}
use Rattle.session.proofs.ReleasedRecords.{
  Goes,
  at_case,
  can_emptied,
  emptied_at,
  goes_on,
  oldest_goes,
  oldest_there,
  released_none,
  released_one,
  seen_released,
}

keys_spared : (t : Table) (ms : List ℕ) (slots : List Slot) (n : ℕ) → Spares n ms
    → keys_at t ms (emptied slots n) ≡ keys_at t ms slots
keys_spared t [] slots n spares = refl
keys_spared t (m ∷ ms) slots n spares =
    ap (λ r. key_in t r ∷ keys_at t ms (emptied slots n)) (row_emptied slots m n spares.0)
    ∙ ap (λ ds. key_in t (row_of slots m) ∷ ds) (keys_spared t ms slots n spares.1)

live_spares : (ms : List ℕ) (slots : List Slot) (n : ℕ) → CanRetract ms slots → IsOff slots n → Spares n ms
unfolding CanRetract
live_spares [] slots n can off = tt
live_spares (m ∷ ms) slots n can off = (
  λ e. there_off slots m can.0 (subst (λ k. IsOff slots k) (sym e) off),
  live_spares ms (marked false slots m) n can.1 (off_false slots m n off),
)

spares_both : (n : ℕ) (ms ks : List ℕ) → Spares n ms → Spares n ks → Spares n (ms ++ ks)
spares_both n [] ks first second = second
spares_both n (m ∷ ms) ks first second = (first.0, spares_both n ms ks first.1 second)

-- The keys that a change names are what they were, when another row is released.
keys_emptied :
    (t : Table) (c : TableChange) (slots : List Slot) (n : ℕ) → Spares n (restores c) → IsOff slots n
    → CanGoBack t c slots → named_keys t c (emptied slots n) ≡ named_keys t c slots
keys_emptied t (Appended k) slots n spares off can = refl
keys_emptied t (Retracted ns) slots n spares off can = keys_spared t ns.items slots n spares
keys_emptied t (Put k replaced) slots n spares off can =
    ap (λ l. keys_at t (range_with_len (l - k) k ++ replaced.items) (emptied slots n)) (length_emptied slots n)
    ∙ keys_spared t (last_numbers k slots ++ replaced.items) slots n
    (spares_both n (last_numbers k slots) replaced.items (live_spares (last_numbers k slots) slots n can.2 off) spares)

one_named :
    (tables : List Table) (rows : Rows) (r : UndoRecord) (k n : ℕ) → (r.table ≡ k → Spares n (restores r.change))
    → IsOff (rows_at rows k) n → CanUndo tables r rows
    → named_keys (table_at tables r.table) r.change (rows_at (emptied_at k n rows) r.table)
    ≡ named_keys (table_at tables r.table) r.change (rows_at rows r.table)
one_named tables rows r k n spares off can =
    let t : Table = table_at tables r.table in
    let P : List Slot → Type 0 = λ slots.
    named_keys (table_at tables r.table) r.change slots
    ≡ named_keys (table_at tables r.table) r.change (rows_at rows r.table) in
    at_case P rows r.table k (λ slots. emptied slots n) can.0
    (λ e. keys_emptied (table_at tables r.table) r.change (rows_at rows r.table) n (spares e)
    (subst (λ j. IsOff (rows_at rows j) n) (sym e) off) can.2)
    (λ other. refl)

all_named :
    (tables : List Table) (rows : Rows) (r : UndoRecord) (rs : List UndoRecord) (k : ℕ) (ns : List ℕ)
    → k < length rows → Goes k ns rows (r ∷ rs) → CanUndo tables r rows
    → named_keys (table_at tables r.table) r.change (rows_at (released_at k ns rows) r.table)
    ≡ named_keys (table_at tables r.table) r.change (rows_at rows r.table)
all_named tables rows r rs k [] below goes can =
    ap (λ (x : Rows). named_keys (table_at tables r.table) r.change (rows_at x r.table)) (released_none rows k)
all_named tables rows r rs k (n ∷ ns) below goes can =
    let many : length (emptied_at k n rows) ≡ length rows = length_placed rows k (emptied (rows_at rows k) n) in
    sym (ap (λ (x : Rows). named_keys (table_at tables r.table) r.change (rows_at x r.table))
    (released_one rows k n ns))
    ∙ all_named tables (emptied_at k n rows) r rs k ns (omega (arith, many, below))
    (goes_on rows k n ns (r ∷ rs) below goes.1)
    (can_emptied tables rows r k n goes.0.1.0 goes.0.0.1 can)
    ∙ one_named tables rows r k n goes.0.1.0 goes.0.0.1 can

main_live : (old new : Rows) → map live new ≡ map live old → live (rows_at new 0) ≡ live (rows_at old 0)
main_live [] [] same = refl
main_live [] (x ∷ xs) same = absurd (omega (arith, ap length same))
main_live (x ∷ xs) [] same = absurd (omega (arith, ap length same))
main_live (x ∷ xs) (y ∷ ys) same = cc same

-- a side table's change
side_touched :
    (tables : List Table) (views : List View) (old new : Rows) (n : ℕ) (c : TableChange)
    → live (rows_at new 0) ≡ live (rows_at old 0)
    → named_keys (table_at tables n) c (rows_at new n) ≡ named_keys (table_at tables n) c (rows_at old n)
    → touched tables views new n c ≡ touched tables views old n c
side_touched tables views old new zero (Appended k) main named = refl
side_touched tables views old new zero (Retracted ns) main named = refl
side_touched tables views old new zero (Put k replaced) main named = refl
side_touched tables views old new (suc side) c main named =
    ap (λ keys. count_by (refers (width_in tables) views (suc side) keys) (live (rows_at new 0))) named
    ∙ ap (λ rows. count_by (refers (width_in tables) views (suc side)
    (named_keys (table_at tables (suc side)) c (rows_at old (suc side)))) rows) main

pub newest_touches : NewestTouches
newest_touches tables views rows r rs oldest es holds =
    let below : oldest.table < length rows = oldest_there tables rows (r ∷ rs) oldest es holds in
    let goes : Goes oldest.table (restores oldest.change) rows (r ∷ rs) =
    oldest_goes tables rows (r ∷ rs) oldest es holds in
    side_touched tables views rows (released_at oldest.table (restores oldest.change) rows) r.table r.change
    (main_live rows (released_at oldest.table (restores oldest.change) rows)
    (seen_released live live_emptied rows (r ∷ rs) oldest.table (restores oldest.change) below goes))
    (all_named tables rows r rs oldest.table (restores oldest.change) below goes
    (can_held tables rows r (rs ++ oldest ∷ []) es holds))

-- An edit opened what it touches, and nothing was opened since.
pub opens_after :
    (old mid new : LiveParts) (records : List UndoRecord) (r : UndoRecord) (rs : List UndoRecord)
    → records ≡ take max_undo_depth (r ∷ rs)
    → OpensOnce old (touched (tables_in old.stores) old.views (rows_in mid.stores) r.table r.change) mid
    → visits_in new.stores ≡ visits_in mid.stores
    → touched (tables_in old.stores) old.views (rows_in new.stores) r.table r.change
    ≡ touched (tables_in old.stores) old.views (rows_in mid.stores) r.table r.change
    → OpensTouched old (rows_in new.stores) records new
opens_after old mid new records r rs first opens same touches =
    let P : List UndoRecord → Type 0 = λ xs. OpensTouched old (rows_in new.stores) xs new in
    let T : ℕ → Type 0 = λ n. visits_in new.stores ≤ visits_in old.stores + length old.views * n in
    let V : ℕ → Type 0 = λ n.
    n ≤ visits_in old.stores + length old.views * touched (tables_in old.stores) old.views (rows_in mid.stores)
    r.table r.change in
    subst P (sym first) (subst T (sym touches) (subst V (sym same) opens))
