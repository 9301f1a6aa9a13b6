use Rattle.std.proofs.Common.{◌≡◌, ℕ, false, List, ◌++◌, None, ap, length, map, subst, sym, ◌∙◌}
use Rattle.values.specs.Datum.{Datum}
use Rattle.arrays.specs.Checked.{CheckedColumn}
use Rattle.view_lang.specs.Causes.{cause_of}
use Rattle.view_lang.specs.Contents.{applied, keys_in}
use Rattle.view_lang.specs.Edits.{append}
use Rattle.row_keys.specs.Batches.{IsBatch, batch_rows}
use Rattle.row_keys.specs.RefusedRows.{RefusesRows, are_many}
use Rattle.row_keys.specs.KeyColumns.{PushesKeys, RefusesKeys}
use Rattle.row_keys.specs.Numbers.{live_count}
use Rattle.row_keys.specs.Slots.{Slot, contents_of, new_slot}
use Rattle.row_keys.specs.Store.{Refuses, Store}
use Rattle.row_keys.specs.Stored.{joined}
use Rattle.row_keys.proofs.AppendedBatches.{
  appended_back,
  batch_fits,
  keys_unfit,
  rows_unfit,
  slots_appended,
  stored_appended,
}
use Rattle.row_keys.proofs.JoinedNumbers.{world_added}
use Rattle.row_keys.proofs.store.RowStore.add_batch.Goals as goal
use Rattle.row_keys.proofs.store.RowStore.add_batch.Goals.{After-keep_rows}

-- The keys of a batch are refused.
pub returns-in-Err-clause-refused : goal.returns-in-Err-clause-refused
returns-in-Err-clause-refused c =
    let rows : List (List Datum) = batch_rows c.args.rows c.args.columns.items in
    subst (λ (s : Store). Refuses (cause_of s.table (contents_of s.slots) (append rows)) c.in-Err.fault) c.self.view_is
    (keys_unfit c.self.inside.table c.self.inside.rows c.self.inside.numbers rows c.in-Err.fault c.self.invariant
    (subst (λ (cs : List CheckedColumn). RefusesKeys (keys_in c.self.inside.table (batch_rows c.args.rows cs))
    c.self.inside.numbers c.in-Err.fault) c.deref.ensures.value c.in-Err.ensures.refused))

-- The keys are pushed, and the rows are given to `keep_rows`.
module _ (c : After-keep_rows) where
  abbrev rows : List (List Datum)
  rows = batch_rows c.args.rows c.args.columns.items

  abbrev slots_before : List Slot
  slots_before = joined c.self.inside.rows c.self.inside.numbers

  batch : IsBatch c.self.inside.table c.args.rows c.args.columns.items
  batch = subst (λ (s : Store). IsBatch s.table c.args.rows c.args.columns.items) (sym c.self.view_is) c.requires

  pushed : PushesKeys (keys_in c.self.inside.table rows) c.self.inside.numbers c.push_batch.new.numbers
  pushed =
      subst (λ (cs : List CheckedColumn). PushesKeys (keys_in c.self.inside.table (batch_rows c.args.rows cs))
      c.self.inside.numbers c.push_batch.new.numbers) c.deref.ensures.value c.in-Ok.ensures.pushed

  -- what holds of the numbers as they were counted
  counted : (P : ℕ → ℕ → Type 0) → P c.live-live.result c.len-before.result
      → P (live_count c.self.inside.numbers) (length c.self.inside.numbers)
  counted P given =
      subst (P (live_count c.self.inside.numbers)) c.len-before.ensures.value
      (subst (λ n. P n c.len-before.result) c.live-live.ensures given)

-- The rows are accepted.
module _ (c : goal.In-Ok-keep_rows) where
  abbrev given : After-keep_rows
  given = (goal.at.invariant_of-self-in-Ok-keep_rows c).After-keep_rows

  few : are_many c.self.inside.table.max_rows (live_count c.self.inside.numbers) (length c.self.inside.numbers)
      c.args.rows ≡ false
  few =
      counted given (λ live many. are_many c.self.inside.table.max_rows live many c.args.rows ≡ false)
      c.in-Ok-keep_rows.ensures.few

  slots : joined c.keep_rows.new.kept c.push_batch.new.numbers ≡ slots_before given ++ map new_slot (rows given)
  slots =
      ap (λ kept. joined kept c.push_batch.new.numbers) c.in-Ok-keep_rows.ensures.kept
      ∙ slots_appended c.self.invariant (batch given) (pushed given)

pub invariant_of-self-in-Ok-keep_rows : goal.invariant_of-self-in-Ok-keep_rows
invariant_of-self-in-Ok-keep_rows c =
    rw c.in-Ok-keep_rows.ensures.kept
    (stored_appended c.self.invariant (batch (given c)) (pushed (given c)) (length c.self.inside.numbers) (few c)
    c.in-Ok-keep_rows.ensures.light c.in-Ok-keep_rows.ensures.held)

pub returns-in-Ok-keep_rows-clause-contents : goal.returns-in-Ok-keep_rows-clause-contents
returns-in-Ok-keep_rows-clause-contents c =
    ap contents_of (slots c)
    ∙ world_added c.self.inside.table (slots_before (given c)) (rows (given c))
    ∙ ap (λ (s : Store). applied s.table (append (rows (given c))) (contents_of s.slots)) c.self.view_is

pub returns-in-Ok-keep_rows-clause-fits : goal.returns-in-Ok-keep_rows-clause-fits
returns-in-Ok-keep_rows-clause-fits c =
    subst (λ (s : Store). cause_of s.table (contents_of s.slots) (append (rows (given c))) ≡ None) c.self.view_is
    (batch_fits c.self.invariant (batch (given c)) (pushed (given c)) (few c) c.in-Ok-keep_rows.ensures.light)

pub returns-in-Ok-keep_rows-clause-can_go_back : goal.returns-in-Ok-keep_rows-clause-can_go_back
returns-in-Ok-keep_rows-clause-can_go_back c =
    (appended_back (slots_before (given c)) _ c.args.columns.items c.args.rows (slots c)).0

pub returns-in-Ok-keep_rows-clause-back : goal.returns-in-Ok-keep_rows-clause-back
returns-in-Ok-keep_rows-clause-back c =
    (appended_back (slots_before (given c)) _ c.args.columns.items c.args.rows (slots c)).1
    ∙ ap (λ (s : Store). s.slots) c.self.view_is

pub returns-in-Ok-keep_rows-clause-slots : goal.returns-in-Ok-keep_rows-clause-slots
returns-in-Ok-keep_rows-clause-slots c =
    slots c ∙ ap (λ (s : Store). s.slots ++ map new_slot (rows (given c))) c.self.view_is

-- The rows are refused.
pub returns-in-Err-keep_rows-clause-refused : goal.returns-in-Err-keep_rows-clause-refused
returns-in-Err-keep_rows-clause-refused c =
    let given = (goal.at.returns-in-Err-keep_rows-clause-refused c).After-keep_rows in
    subst (λ (s : Store). Refuses (cause_of s.table (contents_of s.slots) (append (rows given)))
    c.in-Err-keep_rows.fault) c.self.view_is
    (rows_unfit c.self.invariant (batch given) (pushed given) c.in-Err-keep_rows.fault
    (counted given (λ live many. RefusesRows c.self.inside.table.max_rows live many c.args.rows c.args.columns.items
    c.in-Err-keep_rows.fault) c.in-Err-keep_rows.ensures.refused))
