-- Undo records of which the oldest is dropped: the rows that it alone could bring back can be released.
use Rattle.std.proofs.Common.{
  ◌≡◌,
  ◌⊎◌,
  inl,
  inr,
  ℕ,
  zero,
  suc,
  ◌<◌,
  List,
  [],
  ◌∷◌,
  ◌++◌,
  length,
  map,
  refl,
  ap,
  sym,
  subst,
  ◌∙◌,
  arith,
}
use Rattle.std.specs.Prelude.{slice_set}
use Rattle.view_lang.specs.Config.{Table}
use Rattle.view_lang.specs.Edits.{Edit}
use Rattle.view_lang.specs.World.{table_at}
use Rattle.row_keys.specs.Numbered.{numbered}
use Rattle.row_keys.specs.Slots.{AllOut, IsOut, Slot, contents_of, emptied, released}
use Rattle.row_keys.proofs.Emptied.{
  IsOff,
  Spares,
  contents_emptied,
  length_emptied,
  numbered_emptied,
  off_emptied,
}
use Rattle.upkeep.specs.Stores.{Rows, rows_at, world_of}
use Rattle.upkeep.specs.StoreLaws.{length_placed, rows_kept}
use Rattle.row_keys.specs.TableChanges.{CanGoBack, back, restores}
use Rattle.upkeep.specs.Stores.{released_at}
use Rattle.session.specs.Released.{EvictedGo, NothingIsSeen, OldestIsOut}
use Rattle.session.specs.Shows.{CanUndo, HoldsBack, before}
use Rattle.session.specs.declared.undo.UndoRecord.{UndoRecord}
use Rattle.session.proofs.Restored.{back_emptied, can_go_emptied, off_back, out_changed, restored_out}

-- the rows of all tables, when those of table k are changed
abbrev pub at_table : ℕ → (List Slot → List Slot) → Rows → Rows
at_table k f rows = slice_set rows k (f (rows_at rows k))

abbrev pub emptied_at : ℕ → ℕ → Rows → Rows
emptied_at k n rows = at_table k (λ slots. emptied slots n) rows

-- No record brings row n of table k back.
abbrev pub SparedBy : ℕ → ℕ → List UndoRecord → Type 0
SparedBy k n [] = Unit {0}
SparedBy k n (r ∷ rs) = (r.table ≡ k → Spares n (restores r.change)) × SparedBy k n rs

-- These rows of table k aren't live, and no record brings them back.
abbrev pub Goes : ℕ → List ℕ → Rows → List UndoRecord → Type 0
Goes k [] rows rs = Unit {0}
Goes k (n ∷ ns) rows rs = (IsOut (rows_at rows k) n × SparedBy k n rs) × Goes k ns rows rs

same_or : (m n : ℕ) → (m ≡ n) ⊎ (m ≡ n → ⊥)
same_or zero zero = inl refl
same_or zero (suc n) = inr (λ e. omega (arith, e))
same_or (suc m) zero = inr (λ e. omega (arith, e))
same_or (suc m) (suc n) =
    elim (same_or m n) [ inl e ↦ inl (ap suc e) | inr other ↦ inr (λ e. other (omega (arith, e))) ]

-- what holds of the rows of table j, when those of table k are changed
pub at_case :
    (P : List Slot → Type 0) (rows : Rows) (j k : ℕ) (f : List Slot → List Slot) → j < length rows
    → (j ≡ k → P (f (rows_at rows j))) → ((j ≡ k → ⊥) → P (rows_at rows j)) → P (rows_at (at_table k f rows) j)
at_case P [] j k f below same other = absurd (omega (arith, below))
at_case P (x ∷ xs) zero zero f below same other = same refl
at_case P (x ∷ xs) zero (suc k) f below same other = other (λ e. omega (arith, e))
at_case P (x ∷ xs) (suc j) zero f below same other = other (λ e. omega (arith, e))
at_case P (x ∷ xs) (suc j) (suc k) f below same other =
    at_case P xs j k f (omega (arith, below)) (λ e. same (ap suc e)) (λ o. other (λ e. o (omega (arith, e))))

-- two changes, which may be of one table
swap_at :
    (rows : Rows) (j k : ℕ) (f g : List Slot → List Slot)
    → (j ≡ k → f (g (rows_at rows k)) ≡ g (f (rows_at rows k)))
    → at_table j f (at_table k g rows) ≡ at_table k g (at_table j f rows)
swap_at [] j k f g same = refl
swap_at (x ∷ xs) zero zero f g same = ap (λ y. y ∷ xs) (same refl)
swap_at (x ∷ xs) zero (suc k) f g same = refl
swap_at (x ∷ xs) (suc j) zero f g same = refl
swap_at (x ∷ xs) (suc j) (suc k) f g same = ap (λ ys. x ∷ ys) (swap_at xs j k f g (λ e. same (ap suc e)))

twice_at :
    (rows : Rows) (k : ℕ) (f g : List Slot → List Slot)
    → at_table k f (at_table k g rows) ≡ at_table k (λ slots. f (g slots)) rows
twice_at [] k f g = refl
twice_at (x ∷ xs) zero f g = refl
twice_at (x ∷ xs) (suc k) f g = ap (λ ys. x ∷ ys) (twice_at xs k f g)

-- what the other tables, and the live rows of this one, become
mapped_at :
    {X : Type 0} (h : List Slot → X) (rows : Rows) (k : ℕ) (f : List Slot → List Slot)
    → h (f (rows_at rows k)) ≡ h (rows_at rows k) → map h (at_table k f rows) ≡ map h rows
mapped_at h [] k f same = refl
mapped_at h (x ∷ xs) zero f same = ap (λ y. y ∷ map h xs) same
mapped_at h (x ∷ xs) (suc k) f same = ap (λ ys. h x ∷ ys) (mapped_at h xs k f same)

world_emptied : (rows : Rows) (k n : ℕ) → IsOff (rows_at rows k) n → world_of (emptied_at k n rows) ≡ world_of rows
world_emptied rows k n off =
    mapped_at contents_of rows k (λ slots. emptied slots n) (contents_emptied (rows_at rows k) n off)

numbers_emptied : (rows : Rows) (k n : ℕ) → IsOff (rows_at rows k) n
    → map numbered (emptied_at k n rows) ≡ map numbered rows
numbers_emptied rows k n off =
    mapped_at numbered rows k (λ slots. emptied slots n) (numbered_emptied (rows_at rows k) 0 n off)

-- One row that isn't live is released, and no record brings it back: the records lead back as before.

off_before : (rows : Rows) (r : UndoRecord) (k n : ℕ) → k < length rows
    → (r.table ≡ k → Spares n (restores r.change)) → IsOff (rows_at rows k) n → IsOff (rows_at (before r rows) k) n
off_before rows r k n below spares off =
    let P : List Slot → Type 0 = λ slots. IsOff slots n in
    at_case P rows k r.table (back r.change) below
    (λ e. off_back r.change (rows_at rows k) n (spares (sym e)) off)
    (λ other. off)

pub can_emptied : (tables : List Table) (rows : Rows) (r : UndoRecord) (k n : ℕ)
    → (r.table ≡ k → Spares n (restores r.change)) → IsOff (rows_at rows k) n → CanUndo tables r rows
    → CanUndo tables r (emptied_at k n rows)
can_emptied tables rows r k n spares off can =
    let P : List Slot → Type 0 = λ slots. CanGoBack (table_at tables r.table) r.change slots in
    let many : length (emptied_at k n rows) ≡ length rows = length_placed rows k (emptied (rows_at rows k) n) in
    let below = can.0 in (
      omega (arith, many, below),
      can.1,
      at_case P rows r.table k (λ slots. emptied slots n) can.0
          (λ e. can_go_emptied (table_at tables r.table) r.change (rows_at rows r.table) n (spares e)
          (subst (λ j. IsOff (rows_at rows j) n) (sym e) off) can.2)
          (λ other. can.2),
    )

pub holds_emptied :
    (tables : List Table) (rows : Rows) (rs : List UndoRecord) (es : List Edit) (k n : ℕ) → k < length rows
    → IsOff (rows_at rows k) n → SparedBy k n rs → HoldsBack tables rows rs es
    → HoldsBack tables (emptied_at k n rows) rs es
holds_emptied tables rows [] es k n below off spared holds =
    record { same = world_emptied rows k n off ∙ holds.same }
holds_emptied tables rows (r ∷ rs) [] k n below off spared holds = absurd holds
holds_emptied tables rows (r ∷ rs) (e ∷ es) k n below off spared holds =
    let P : Rows → Type 0 = λ x. HoldsBack tables x rs es in
    let many : length (before r rows) ≡ length rows = length_placed rows r.table (back r.change (rows_at rows r.table))
    in
    let swapped : before r (emptied_at k n rows) ≡ emptied_at k n (before r rows) =
    swap_at rows r.table k (back r.change) (λ slots. emptied slots n)
    (λ is. back_emptied r.change (rows_at rows k) n (spared.0 is)) in (
      record { same = world_emptied rows k n off ∙ holds.0.same },
      can_emptied tables rows r k n spared.0 off holds.1,
      subst P (sym swapped)
          (holds_emptied tables (before r rows) rs es k n (omega (arith, many, below))
          (off_before rows r k n below spared.0 off) spared.1 holds.2),
    )

-- Several are released.

pub goes_on : (rows : Rows) (k n : ℕ) (ns : List ℕ) (rs : List UndoRecord) → k < length rows → Goes k ns rows rs
    → Goes k ns (emptied_at k n rows) rs
goes_on rows k n [] rs below goes = tt
goes_on rows k n (m ∷ ms) rs below goes =
    let P : List Slot → Type 0 = λ slots. IsOut slots m in
    let slots : List Slot = rows_at rows k in
    let many : length (emptied (rows_at rows k) n) ≡ length (rows_at rows k) = length_emptied (rows_at rows k) n in
    let there = goes.0.0.0 in (
      (
        at_case P rows k k (λ slots. emptied slots n) below
            (λ e. (omega (arith, many, there), off_emptied (rows_at rows k) m n goes.0.0.1))
            (λ other. absurd (other refl)),
        goes.0.1,
      ),
      goes_on rows k n ms rs below goes.1,
    )

pub released_one : (rows : Rows) (k n : ℕ) (ns : List ℕ)
    → released_at k ns (emptied_at k n rows) ≡ released_at k (n ∷ ns) rows
released_one rows k n ns = twice_at rows k (λ slots. released ns slots) (λ slots. emptied slots n)

pub released_none : (rows : Rows) (k : ℕ) → released_at k [] rows ≡ rows
released_none rows k = rows_kept rows k (rows_at rows k) refl

pub holds_released :
    (tables : List Table) (rows : Rows) (rs : List UndoRecord) (es : List Edit) (k : ℕ) (ns : List ℕ) → k < length rows
    → Goes k ns rows rs → HoldsBack tables rows rs es → HoldsBack tables (released_at k ns rows) rs es
holds_released tables rows rs es k [] below goes holds =
    let P : Rows → Type 0 = λ x. HoldsBack tables x rs es in
    subst P (sym (released_none rows k)) holds
holds_released tables rows rs es k (n ∷ ns) below goes holds =
    let P : Rows → Type 0 = λ x. HoldsBack tables x rs es in
    let many : length (emptied_at k n rows) ≡ length rows = length_placed rows k (emptied (rows_at rows k) n) in
    subst P (released_one rows k n ns)
    (holds_released tables (emptied_at k n rows) rs es k ns (omega (arith, many, below))
    (goes_on rows k n ns rs below goes.1)
    (holds_emptied tables rows rs es k n below goes.0.0.1 goes.0.1 holds))

pub seen_released :
    {X : Type 0} (h : List Slot → X) (same : (slots : List Slot) (n : ℕ) → IsOff slots n → h (emptied slots n) ≡ h slots)
    (rows : Rows) (rs : List UndoRecord) (k : ℕ) (ns : List ℕ) → k < length rows → Goes k ns rows rs
    → map h (released_at k ns rows) ≡ map h rows
seen_released h same rows rs k [] below goes = ap (map h) (released_none rows k)
seen_released h same rows rs k (n ∷ ns) below goes =
    let many : length (emptied_at k n rows) ≡ length rows = length_placed rows k (emptied (rows_at rows k) n) in
    sym (ap (map h) (released_one rows k n ns))
    ∙ seen_released h same (emptied_at k n rows) rs k ns (omega (arith, many, below))
    (goes_on rows k n ns rs below goes.1)
    ∙ mapped_at h rows k (λ slots. emptied slots n) (same (rows_at rows k) n goes.0.0.1)

-- The oldest record alone brings back what it brings back.

holds_front : (tables : List Table) (rows : Rows) (rs : List UndoRecord) (r : UndoRecord) (es : List Edit)
    → HoldsBack tables rows (rs ++ r ∷ []) es → HoldsBack tables rows rs es
holds_front tables rows [] r [] holds = absurd holds
holds_front tables rows [] r (e ∷ es) holds = holds.0
holds_front tables rows (q ∷ rs) r [] holds = absurd holds
holds_front tables rows (q ∷ rs) r (e ∷ es) holds = (
  holds.0,
  holds.1,
  holds_front tables (before q rows) rs r es holds.2,
)

pub oldest_there : (tables : List Table) (rows : Rows) (rs : List UndoRecord) (r : UndoRecord) (es : List Edit)
    → HoldsBack tables rows (rs ++ r ∷ []) es → r.table < length rows
oldest_there tables rows [] r [] holds = absurd holds
oldest_there tables rows [] r (e ∷ es) holds = holds.1.0
oldest_there tables rows (q ∷ rs) r [] holds = absurd holds
oldest_there tables rows (q ∷ rs) r (e ∷ es) holds =
    let many : length (before q rows) ≡ length rows = length_placed rows q.table (back q.change (rows_at rows q.table))
    in
    let below : r.table < length (before q rows) = oldest_there tables (before q rows) rs r es holds.2 in
    omega (arith, many, below)

first_goes : (rows : Rows) (k : ℕ) (ns : List ℕ) → AllOut ns (rows_at rows k) → Goes k ns rows []
first_goes rows k [] out = tt
first_goes rows k (n ∷ ns) out = ((out.0, tt), first_goes rows k ns out.1)

one_goes : (tables : List Table) (rows : Rows) (q : UndoRecord) (k n : ℕ) → k < length rows → CanUndo tables q rows
    → IsOut (rows_at (before q rows) k) n
    → IsOut (rows_at rows k) n × (q.table ≡ k → Spares n (restores q.change))
one_goes tables rows q k n below can =
    let P : List Slot → Type 0 = λ slots. IsOut slots n
    → IsOut (rows_at rows k) n × (q.table ≡ k → Spares n (restores q.change)) in
    let Q : ℕ → Type 0 = λ j. CanGoBack (table_at tables j) q.change (rows_at rows j) in
    at_case P rows k q.table (back q.change) below
    (λ e out.
    let both : IsOut (rows_at rows k) n × Spares n (restores q.change) =
    out_changed (table_at tables k) q.change (rows_at rows k) n (subst Q (sym e) can.2) out in
    (both.0, λ _. both.1))
    (λ other out. (out, λ e. absurd (other (sym e))))

more_goes : (tables : List Table) (rows : Rows) (q : UndoRecord) (rs : List UndoRecord) (k : ℕ) (ns : List ℕ)
    → k < length rows → CanUndo tables q rows → Goes k ns (before q rows) rs → Goes k ns rows (q ∷ rs)
more_goes tables rows q rs k [] below can goes = tt
more_goes tables rows q rs k (n ∷ ns) below can goes =
    let one : IsOut (rows_at rows k) n × (q.table ≡ k → Spares n (restores q.change)) =
    one_goes tables rows q k n below can goes.0.0 in (
      (one.0, (one.1, goes.0.1)),
      more_goes tables rows q rs k ns below can goes.1,
    )

pub oldest_goes : (tables : List Table) (rows : Rows) (rs : List UndoRecord) (r : UndoRecord) (es : List Edit)
    → HoldsBack tables rows (rs ++ r ∷ []) es → Goes r.table (restores r.change) rows rs
oldest_goes tables rows [] r [] holds = absurd holds
oldest_goes tables rows [] r (e ∷ es) holds =
    first_goes rows r.table (restores r.change)
    (restored_out (table_at tables r.table) r.change (rows_at rows r.table) holds.1.2)
oldest_goes tables rows (q ∷ rs) r [] holds = absurd holds
oldest_goes tables rows (q ∷ rs) r (e ∷ es) holds =
    more_goes tables rows q rs r.table (restores r.change) (oldest_there tables rows (q ∷ rs) r (e ∷ es) holds) holds.1
    (oldest_goes tables (before q rows) rs r es holds.2)

pub evicted_go : EvictedGo
evicted_go tables rows rs r es holds =
    holds_released tables rows rs es r.table (restores r.change) (oldest_there tables rows rs r es holds)
    (oldest_goes tables rows rs r es holds) (holds_front tables rows rs r es holds)

pub nothing_is_seen : NothingIsSeen
nothing_is_seen tables rows rs r es holds =
    let below : r.table < length rows = oldest_there tables rows rs r es holds in
    let goes : Goes r.table (restores r.change) rows rs = oldest_goes tables rows rs r es holds in (
      seen_released contents_of contents_emptied rows rs r.table (restores r.change) below goes,
      seen_released numbered (λ slots n off. numbered_emptied slots 0 n off) rows rs r.table (restores r.change) below
          goes,
    )

goes_out : (rows : Rows) (k : ℕ) (ns : List ℕ) (rs : List UndoRecord) → Goes k ns rows rs → AllOut ns (rows_at rows k)
goes_out rows k [] rs goes = tt
goes_out rows k (n ∷ ns) rs goes = (goes.0.0, goes_out rows k ns rs goes.1)

pub oldest_is_out : OldestIsOut
oldest_is_out tables rows rs r es holds = (
  oldest_there tables rows rs r es holds,
  goes_out rows r.table (restores r.change) rs (oldest_goes tables rows rs r es holds),
)
