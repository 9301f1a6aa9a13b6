-- Rows and undo records that hold the effect of edits, before and after an edit.
use Rattle.std.proofs.Common.{
  ◌≡◌,
  ℕ,
  zero,
  suc,
  ◌<◌,
  min,
  None,
  Ok,
  Err,
  List,
  [],
  ◌∷◌,
  Some,
  length,
  length-take,
  take,
  drop,
  refl,
  ap,
  sym,
  subst,
  ◌∙◌,
  arith,
}
use Rattle.std.specs.Prelude.{slice_get, slice_set}
use Rattle.view_lang.specs.Causes.{cause_in, cause_of}
use Rattle.view_lang.specs.Config.{Table}
use Rattle.view_lang.specs.Contents.{applied}
use Rattle.view_lang.specs.Edits.{Edit}
use Rattle.view_lang.specs.Limits.{max_undo_depth}
use Rattle.view_lang.specs.World.{contents_at, edited, table_at, world}
use Rattle.row_keys.specs.Slots.{Slot, contents_of}
use Rattle.row_keys.specs.Store.{Refuses}
use Rattle.row_keys.specs.declared.faults.EditFault.{EditFault}
use Rattle.values.specs.declared.causes.Cause.TheVariants as cause
use Rattle.session.specs.Refusals.{refused}
use Rattle.session.specs.Steps.{Past, UndoBy, Undoes, accepted, undone, undone_by, unfit_in}
use Rattle.upkeep.specs.Stores.{Rows, rows_at, world_of}
use Rattle.row_keys.specs.TableChanges.{CanGoBack, IsChangeOf, Makes, back}
use Rattle.row_keys.specs.declared.table_change.TableChange.{TableChange}
use Rattle.session.specs.Shows.{AreWorld, CanUndo, HoldsBack, ShowsPast, before}
use Rattle.session.specs.declared.undo.UndoRecord.{UndoRecord}
use Rattle.upkeep.specs.StoreLaws.{length_placed, rows_kept, rows_located, rows_restored, set_mapped}

pub holds_world :
    (tables : List Table) (rows : Rows) (rs : List UndoRecord) (es : List Edit) → HoldsBack tables rows rs es
    → AreWorld tables rows es
holds_world tables rows [] es h = h
holds_world tables rows (r ∷ rs) [] h = absurd h
holds_world tables rows (r ∷ rs) (e ∷ es) h = h.0

holds_take :
    (tables : List Table) (n : ℕ) (rows : Rows) (rs : List UndoRecord) (es : List Edit) → HoldsBack tables rows rs es
    → HoldsBack tables rows (take n rs) es
holds_take tables zero rows rs es h = holds_world tables rows rs es h
holds_take tables (suc n) rows [] es h = h
holds_take tables (suc n) rows (r ∷ rs) [] h = absurd h
holds_take tables (suc n) rows (r ∷ rs) (e ∷ es) h = (h.0, h.1, holds_take tables n (before r rows) rs es h.2)

pub can_held :
    (tables : List Table) (rows : Rows) (r : UndoRecord) (rs : List UndoRecord) (es : List Edit)
    → HoldsBack tables rows (r ∷ rs) es → CanUndo tables r rows
can_held tables rows r rs [] h = absurd h
can_held tables rows r rs (e ∷ es) h = h.1

rest_held :
    (tables : List Table) (rows : Rows) (r : UndoRecord) (rs : List UndoRecord) (es : List Edit)
    → HoldsBack tables rows (r ∷ rs) es
    → HoldsBack tables (before r rows) rs (drop 1 es)
rest_held tables rows r rs [] h = absurd h
rest_held tables rows r rs (e ∷ es) h = h.2

-- an edit on top of others
edit_held :
    (tables : List Table) (old new : Rows) (rs : List UndoRecord) (past : Past) (r : UndoRecord) (e : Edit)
    → ShowsPast tables old rs past
    → AreWorld tables new (e ∷ past.edits) → CanUndo tables r new → before r new ≡ old
    → HoldsBack tables new (r ∷ rs) (e ∷ past.edits)
edit_held tables old new rs past r e shown world can is =
    let below : HoldsBack tables (before r new) rs past.edits =
    subst (λ (rows : Rows). HoldsBack tables rows rs past.edits) (sym is) shown.holds in
    (world, can, below)

-- of which the latest can be undone, as many as the limit allows
pub edit_shown :
    (tables : List Table) (rows : Rows) (rs kept : List UndoRecord) (past : Past) (r : UndoRecord) (e : Edit)
    → past.depth ≡ length rs → kept ≡ take max_undo_depth (r ∷ rs) → HoldsBack tables rows kept (e ∷ past.edits)
    → ShowsPast tables rows kept (accepted past e)
edit_shown tables rows rs kept past r e deep first holds = record {
  holds = holds;
  depth = ap (λ n. min max_undo_depth (suc n)) deep ∙ sym (length-take max_undo_depth (r ∷ rs)) ∙ ap length (sym first);
}

-- the record that is in front
front_is : {X : Type 0} (xs : List X) (x : X) → slice_get xs 0 ≡ Some x → xs ≡ x ∷ drop 1 xs
front_is [] x e = absurd (cc)
front_is (y ∷ ys) x e = cc

-- the records can be undone
pub can_undo :
    (tables : List Table) (rows : Rows) (rs : List UndoRecord) (r : UndoRecord) (past : Past) → slice_get rs 0 ≡ Some r
    → ShowsPast tables rows rs past → CanUndo tables r rows
can_undo tables rows rs r past front shown =
    let whole : HoldsBack tables rows (r ∷ drop 1 rs) past.edits =
    subst (λ (xs : List UndoRecord). HoldsBack tables rows xs past.edits) (front_is rs r front) shown.holds in
    can_held tables rows r (drop 1 rs) past.edits whole

-- and lead to the edits before the last
pub undo_shown :
    (tables : List Table) (old new : Rows) (rs : List UndoRecord) (r : UndoRecord) (past : Past) → slice_get rs 0 ≡
    Some r
    → new ≡ before r old
    → ShowsPast tables old rs past → (next : Past) × Undoes past (Ok tt) next × ShowsPast tables new (drop 1 rs) next
unfolding undone
undo_shown tables old new rs r past front is shown = by_depth past.depth refl where
  whole : HoldsBack tables old (r ∷ drop 1 rs) past.edits
  whole = subst (λ (xs : List UndoRecord). HoldsBack tables old xs past.edits) (front_is rs r front) shown.holds

  many : length rs ≡ suc (length (drop 1 rs))
  many = ap length (front_is rs r front)

  rest : HoldsBack tables new (drop 1 rs) (drop 1 past.edits)
  rest = subst (λ (rows : Rows). HoldsBack tables rows (drop 1 rs) (drop 1 past.edits)) (sym is)
      (rest_held tables old r (drop 1 rs) past.edits whole)

  by_depth :
      (d : ℕ) → past.depth ≡ d → (next : Past) × UndoBy d past (Ok tt) next × ShowsPast tables new (drop 1 rs) next
  by_depth zero e = absurd (omega (arith, e, shown.depth, many))
  by_depth (suc d) e = (
    undone past,
    refl,
    subst (λ (n : ℕ). ShowsPast tables new (drop 1 rs) (undone_by n past)) (sym e)
        (record { holds = rest; depth = omega (arith, e, shown.depth, many) }),
  )

-- where memory is refused, nothing is reverted
pub undo_refused :
    (tables : List Table) (old new : Rows) (rs : List UndoRecord) (r : UndoRecord) (past : Past) → slice_get rs 0 ≡
    Some r
    → new ≡ old → ShowsPast tables old rs past
    → (next : Past) × Undoes past (Err (refused cause.Memory)) next × ShowsPast tables new rs next
undo_refused tables old new rs r past front same shown = by_depth past.depth refl where
  many : length rs ≡ suc (length (drop 1 rs))
  many = ap length (front_is rs r front)

  rest : ShowsPast tables new rs past
  rest = subst (λ (rows : Rows). ShowsPast tables rows rs past) (sym same) shown

  by_depth :
      (d : ℕ) → past.depth ≡ d
      → (next : Past) × UndoBy d past (Err (refused cause.Memory)) next × ShowsPast tables new rs next
  by_depth zero e = absurd (omega (arith, e, shown.depth, many))
  by_depth (suc d) e = (past, (refl, refl), rest)

-- an edit that is refused, and one that is applied

pub contents_there : (rows : Rows) (n : ℕ) → n < length rows → contents_at (world_of rows) n ≡ contents_of (rows_at
    rows n)
contents_there [] n below = absurd (omega (arith, below))
contents_there (r ∷ rs) zero below = refl
contents_there (r ∷ rs) (suc n) below = contents_there rs n (omega (arith, below))

unfit_there :
    (tables : List Table) (e : Edit) (old : Rows) (past : Past) → AreWorld tables old past.edits
    → e.table < length old
    → cause_of (table_at tables e.table) (contents_of (rows_at old e.table)) e.change ≡ unfit_in tables past e
unfit_there tables e old past held below =
    ap (λ c. cause_of (table_at tables e.table) c e.change) (sym (contents_there old e.table below))
    ∙ ap (λ w. cause_in tables w e) held.same

pub edit_refused :
    (tables : List Table) (e : Edit) (old : Rows) (new : List Slot) (rs : List UndoRecord) (past : Past) (f : EditFault)
    → e.table < length old
    → Makes (table_at tables e.table) e.change (rows_at old e.table) new (Err f)
    → ShowsPast tables old rs past
    → Refuses (unfit_in tables past e) f × ShowsPast tables (slice_set old e.table new) rs past
edit_refused tables e old new rs past f below made shown =
    let held : AreWorld tables old past.edits = holds_world tables old rs past.edits shown.holds in (
      subst (λ o. Refuses o f) (unfit_there tables e old past held below) made.0,
      subst (λ (rows : Rows). ShowsPast tables rows rs past) (sym (rows_kept old e.table new made.1)) shown,
    )

world_edited :
    (tables : List Table) (e : Edit) (old : Rows) (new : List Slot) (es : List Edit) → AreWorld tables old es
    → e.table < length old
    → contents_of new ≡ applied (table_at tables e.table) e.change (contents_of (rows_at old e.table))
    → AreWorld tables (slice_set old e.table new) (e ∷ es)
unfolding world
world_edited tables e old new es held below made =
    let t : Table = table_at tables e.table in
    record {
      same = set_mapped contents_of old e.table new
          ∙ ap (slice_set (world_of old) e.table)
          (made ∙ ap (applied t e.change) (sym (contents_there old e.table below)))
          ∙ ap (edited tables e) held.same;
    }

pub edit_made :
    (tables : List Table) (e : Edit) (old : Rows) (new : List Slot) (rs : List UndoRecord) (past : Past) (c :
    TableChange)
    → e.table < length old
    → Makes (table_at tables e.table) e.change (rows_at old e.table) new (Ok c) → IsChangeOf e.table c
    → ShowsPast tables old rs past
    → (unfit_in tables past e ≡ None)
    × HoldsBack tables (slice_set old e.table new) (record { table = e.table; change = c } ∷ rs) (e ∷ past.edits)
edit_made tables e old new rs past c below made kind shown =
    let held : AreWorld tables old past.edits = holds_world tables old rs past.edits shown.holds in
    let there : rows_at (slice_set old e.table new) e.table ≡ new = rows_located old e.table new below in
    let many : length (slice_set old e.table new) ≡ length old = length_placed old e.table new in
    let can : CanGoBack (table_at tables e.table) c (rows_at (slice_set old e.table new) e.table) =
    subst (λ (slots : List Slot). CanGoBack (table_at tables e.table) c slots) (sym there) made.2 in (
      sym (unfit_there tables e old past held below) ∙ made.0,
      edit_held tables old (slice_set old e.table new) rs past (record { table = e.table; change = c }) e shown
          (world_edited tables e old new past.edits held below made.1)
          (omega (arith, many, below), kind, can)
          (rows_restored old e.table new (back c) made.3),
    )

-- the same of the rows that an edit leaves
pub edit_whole :
    (tables same : List Table) (e : Edit) (old new : Rows) (n : ℕ) (rs : List UndoRecord) (past : Past)
    (c : TableChange) → e.table < length old
    → Makes (table_at tables e.table) e.change (rows_at old e.table) (rows_at new e.table) (Ok c)
    → IsChangeOf e.table c → new ≡ slice_set old e.table (rows_at new e.table) → same ≡ tables → n ≡ e.table
    → ShowsPast tables old rs past
    → (unfit_in tables past e ≡ None)
    × HoldsBack same new (record { table = n; change = c } ∷ rs) (e ∷ past.edits)
edit_whole tables same e old new n rs past c below made kind others is at shown =
    let held = edit_made tables e old (rows_at new e.table) rs past c below made kind shown in
    let P : Rows → Type 0 = λ rows. HoldsBack tables rows (record { table = e.table; change = c } ∷ rs)
    (e ∷ past.edits) in
    let Q : ℕ → Type 0 = λ k. HoldsBack tables new (record { table = k; change = c } ∷ rs) (e ∷ past.edits) in
    let R : List Table → Type 0 = λ ts. HoldsBack ts new (record { table = n; change = c } ∷ rs) (e ∷ past.edits) in
    (held.0, subst R (sym is) (subst Q (sym at) (subst P (sym others) held.1)))
