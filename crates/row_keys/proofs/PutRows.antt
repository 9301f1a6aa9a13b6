-- The rows of a batch that is put, once their keys are numbered, and the rows that are stored.
use Rattle.std.proofs.Common.{◌≡◌, ℕ, ◌+◌, ◌-◌, false, All, None, List, ◌++◌, length, map, refl, ap, sym, subst, ◌∙◌, arith}
use Rattle.std.proofs.lemmas.List.{length-map}
use Rattle.values.specs.Datum.{Datum}
use Rattle.values.specs.Keys.{datum_of_key}
use Rattle.arrays.specs.Checked.{CheckedColumn}
use Rattle.view_lang.specs.Causes.{any_heavy, cause_of}
use Rattle.view_lang.specs.Config.{Table}
use Rattle.view_lang.specs.Contents.{applied, key_in, keys_in, with_rows, without}
use Rattle.view_lang.specs.Edits.{append, put, retract}
use Rattle.row_keys.specs.declared.faults.EditFault.{EditFault}
use Rattle.row_keys.specs.Batches.{HoldsCells, IsBatch, batch_rows, layouts_in}
use Rattle.row_keys.specs.Numbers.{AreDistinct, Numbered, live_count, turned_off}
use Rattle.row_keys.specs.PutKeys.{PutsKeys}
use Rattle.row_keys.specs.RefusedRows.{RefusesRows, are_many}
use Rattle.row_keys.specs.Slots.{
  CanPutBack,
  CanRetract,
  CanUndoPut,
  Slot,
  contents_of,
  keys_at,
  live,
  new_slot,
  put_back,
  put_undone,
  retracted,
}
use Rattle.row_keys.specs.Store.{Refuses, Store, with_slots}
use Rattle.row_keys.specs.Stored.{IsStored, joined}
use Rattle.row_keys.proofs.AppendedBatches.{
  appended_back,
  batch_counted,
  batch_fits,
  count_added,
  rows_unfit,
  slots_appended,
  stored_appended,
}
use Rattle.row_keys.proofs.HiddenRows.{can_hide_new}
use Rattle.row_keys.proofs.JoinedNumbers.{world_added}
use Rattle.row_keys.proofs.PutKeys.{off_long}
use Rattle.row_keys.proofs.ReplacedRows.{put_refusal, replaced_can, replaced_gone}
use Rattle.row_keys.proofs.StoreStates.{off_back, off_can, off_world, stored_off}
use Rattle.row_keys.proofs.TurnedRows.{joined_off}

-- what is known where a batch of n rows is added to stored rows by a put
pub record Put (t : Table) (stored : List (List Datum)) (old new : List Numbered) (columns : List CheckedColumn) (n : ℕ)
    (ns : List ℕ) : Type 0 where
  pub right : IsStored t stored old
  pub distinct : AreDistinct old
  pub batch : IsBatch t n columns
  pub keys : PutsKeys (keys_in t (batch_rows n columns)) old ns new

pub put_known :
    (t : Table) (stored : List (List Datum)) (old new : List Numbered) (columns slice : List CheckedColumn) (n : ℕ)
    (ns : List ℕ) (u : Table) → IsStored t stored old → AreDistinct old → t ≡ u → IsBatch u n columns → slice ≡ columns
    → PutsKeys (keys_in t (batch_rows n slice)) old ns new → Put t stored old new columns n ns
put_known t stored old new columns slice n ns u is distinct same batch all keys = record {
  right = is;
  distinct = distinct;
  batch = (let P : Table → Type 0 = λ v. IsBatch v n columns in subst P (sym same) batch);
  keys = (let P : List CheckedColumn → Type 0 = λ cs. PutsKeys (keys_in t (batch_rows n cs)) old ns new in
      subst P all keys);
}

module _ (t : Table) (stored : List (List Datum)) (old new : List Numbered) (columns : List CheckedColumn) (n : ℕ)
    (ns : List ℕ) (is : Put t stored old new columns n ns) where
  abbrev rows : List (List Datum)
  rows = batch_rows n columns

  abbrev off : List Numbered
  off = turned_off ns old

  abbrev slots : List Slot
  slots = joined stored old

  -- the rows that are replaced are retracted
  gone : IsStored t stored off
  gone = stored_off t stored old ns is.right is.keys.live

  pub put_can : CanRetract ns slots
  put_can = replaced_can t stored old (keys_in t rows) ns is.right is.keys.found is.keys.pushed.single

  pub put_slots : joined (stored ++ rows) new ≡ retracted ns slots ++ map new_slot rows
  put_slots = slots_appended gone is.batch is.keys.pushed
      ∙ ap (λ ss. ss ++ map new_slot rows) (joined_off stored ns old)

  -- how many rows are live before those of the batch are added
  pub put_counted : live_count new ≡ live_count off + n
  put_counted =
      let counted : live_count new ≡ live_count off + length is.keys.pushed.keys =
      ap live_count is.keys.pushed.pushed ∙ count_added off is.keys.pushed.keys in
      let named : length is.keys.pushed.keys ≡ length (keys_in t rows) =
      sym (length-map is.keys.pushed.keys datum_of_key) ∙ ap length is.keys.pushed.are in
      let keyed : length (keys_in t rows) ≡ length rows = length-map rows (key_in t) in
      let many = batch_counted columns n in
      omega (arith, counted, named, keyed, many)

  -- the live rows to which those of the batch are added
  others : (all : ℕ) → all ≡ live_count new → all - n ≡ live_count off
  others all counted = omega (arith, counted, put_counted)

  pub put_few : (all before : ℕ) → all ≡ live_count new → before ≡ length old
      → are_many t.max_rows (all - n) before n ≡ false
      → are_many t.max_rows (live_count off) (length old) n ≡ false
  put_few all before counted start few =
      let P : ℕ → Type 0 = λ m. are_many t.max_rows m before n ≡ false in
      let Q : ℕ → Type 0 = λ m. are_many t.max_rows (live_count off) m n ≡ false in
      subst Q start (subst P (others all counted) few)

  pub put_stored : are_many t.max_rows (live_count off) (length old) n ≡ false
      → any_heavy (layouts_in columns) rows ≡ false → All HoldsCells columns → IsStored t (stored ++ rows) new
  put_stored few light holds =
      stored_appended gone is.batch is.keys.pushed (length old) few light holds

  world_gone : contents_of (joined stored off) ≡ applied t (retract (keys_at t ns slots)) (contents_of slots)
  world_gone = off_world t stored old off ns is.right is.distinct put_can refl

  same_gone : without t (keys_at t ns slots) (live slots) ≡ without t (keys_in t rows) (live slots)
  same_gone = replaced_gone t stored old (keys_in t rows) ns is.right is.keys.found

  pub put_contents : contents_of (joined (stored ++ rows) new) ≡ applied t (put rows) (contents_of slots)
  put_contents =
      ap contents_of put_slots ∙ world_added t (retracted ns slots) rows
      ∙ ap (λ ss. applied t (append rows) (contents_of ss)) (sym (joined_off stored ns old))
      ∙ ap (λ w. applied t (append rows) w) world_gone
      ∙ ap (λ xs. with_rows rows (record { live = xs; appended = length slots })) same_gone

  put_cause : cause_of t (contents_of slots) (put rows) ≡ cause_of t (contents_of (joined stored off)) (append rows)
  put_cause =
      let before : Store = record { table = t; slots = slots; visits = 0 } in
      let here : Store = with_slots before (retracted ns slots) in
      put_refusal before here rows ns ns refl (ap contents_of (sym (joined_off stored ns old)) ∙ world_gone) refl same_gone
      ∙ ap (λ ss. cause_of t (contents_of ss) (append rows)) (sym (joined_off stored ns old))

  pub put_fits : are_many t.max_rows (live_count off) (length old) n ≡ false
      → any_heavy (layouts_in columns) rows ≡ false → cause_of t (contents_of slots) (put rows) ≡ None
  put_fits few light =
      let P : ℕ → Type 0 = λ m. are_many t.max_rows (live_count off) m n ≡ false in
      put_cause ∙ batch_fits gone is.batch is.keys.pushed
      (subst P (sym (off_long ns old)) few) light

  pub put_unfit : (all before : ℕ) (e : EditFault) → all ≡ live_count new → before ≡ length old
      → RefusesRows t.max_rows (all - n) before n columns e
      → Refuses (cause_of t (contents_of slots) (put rows)) e
  put_unfit all before e counted start refuses =
      let P : ℕ → Type 0 = λ m. RefusesRows t.max_rows m before n columns e in
      let Q : ℕ → Type 0 = λ m. RefusesRows t.max_rows (live_count off) m n columns e in
      subst (λ o. Refuses o e) (sym put_cause)
      (rows_unfit gone is.batch is.keys.pushed e
      (subst Q (start ∙ sym (off_long ns old)) (subst P (others all counted) refuses)))

  pub put_can_undo : CanUndoPut t n ns (joined (stored ++ rows) new)
  put_can_undo =
      let back = appended_back (retracted ns slots) (joined (stored ++ rows) new) columns n put_slots in
      let P : List Slot → Type 0 = λ ss. CanPutBack t ns ss in (
        back.0,
        subst P (joined_off stored ns old ∙ sym back.1) (off_can t stored old off ns is.right is.distinct put_can refl),
        can_hide_new (retracted ns slots) (joined (stored ++ rows) new) columns n put_slots,
      )

  pub put_is_undone : put_undone n ns (joined (stored ++ rows) new) ≡ slots
  put_is_undone =
      let back = appended_back (retracted ns slots) (joined (stored ++ rows) new) columns n put_slots in
      ap (λ ss. put_back ns ss) (back.1 ∙ sym (joined_off stored ns old)) ∙ off_back stored old off ns put_can refl
