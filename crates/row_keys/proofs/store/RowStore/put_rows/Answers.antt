use Rattle.std.proofs.Common.{◌≡◌, List, [], None, ◌++◌, ap, arith, map, subst, take, ◌∙◌}
use Rattle.std.proofs.lemmas.Result.{err_from_is_err_and}
use Rattle.arrays.specs.Checked.{CheckedColumn}
use Rattle.view_lang.specs.Causes.{cause_of}
use Rattle.view_lang.specs.Contents.{applied, keys_in}
use Rattle.view_lang.specs.Edits.{put}
use Rattle.row_keys.specs.Batches.{batch_rows}
use Rattle.row_keys.specs.KeyColumns.{RefusesKeys}
use Rattle.row_keys.specs.Numbers.{revived}
use Rattle.row_keys.specs.Slots.{CanRetract, CanUndoPut, contents_of, new_slot, retracted}
use Rattle.row_keys.specs.Store.{Refuses, Store}
use Rattle.row_keys.specs.Stored.{joined}
use Rattle.row_keys.proofs.PutKeys.{puts_can_revive, puts_revived}
use Rattle.row_keys.proofs.PutRows.{
  Put,
  put_can,
  put_can_undo,
  put_contents,
  put_counted,
  put_few,
  put_fits,
  put_is_undone,
  put_known,
  put_slots,
  put_stored,
  put_unfit,
}
use Rattle.row_keys.proofs.ReplacedRows.{put_refused}
use Rattle.row_keys.proofs.store.RowStore.put_rows.Goals as goal

pub overflow_sub-live : goal.overflow_sub-live
overflow_sub-live c =
    let known =
    put_known c.self.inside.table c.self.inside.rows c.self.inside.numbers c.put_batch.new.numbers c.args.columns.items
    c.deref.result.now c.args.rows c.in_ok-replaced.replaced.items c.args.self.now.table c.self.invariant
    c.distinct_law.ensures (ap (λ (s : Store). s.table) c.self.view_is) c.requires c.deref.ensures.value
    c.in_ok-replaced.ensures.put in
    let counted =
    put_counted c.self.inside.table c.self.inside.rows c.self.inside.numbers c.put_batch.new.numbers c.args.columns.items c.args.rows
    c.in_ok-replaced.replaced.items known in
    omega (arith, counted, c.live-all.ensures)

known : (c : goal.In-Ok)
    → Put c.self.inside.table c.self.inside.rows c.self.inside.numbers c.put_batch.new.numbers c.args.columns.items
    c.args.rows c.in_ok-replaced.replaced.items
known c =
    put_known c.self.inside.table c.self.inside.rows c.self.inside.numbers c.put_batch.new.numbers c.args.columns.items
    c.deref.result.now c.args.rows c.in_ok-replaced.replaced.items c.args.self.now.table c.self.invariant
    c.distinct_law.ensures (ap (λ (s : Store). s.table) c.self.view_is) c.requires c.deref.ensures.value
    c.in_ok-replaced.ensures.put

pub invariant_of-self-in-Ok : goal.invariant_of-self-in-Ok
invariant_of-self-in-Ok c =
    let few =
    put_few c.self.inside.table c.self.inside.rows c.self.inside.numbers c.put_batch.new.numbers c.args.columns.items c.args.rows
    c.in_ok-replaced.replaced.items
    (known c) c.live-all.result c.len-before.result c.live-all.ensures c.len-before.ensures.value c.in-Ok.ensures.few in
    rw c.in-Ok.ensures.kept
    (put_stored c.self.inside.table c.self.inside.rows c.self.inside.numbers c.put_batch.new.numbers c.args.columns.items c.args.rows
    c.in_ok-replaced.replaced.items
    (known c) few c.in-Ok.ensures.light c.in-Ok.ensures.held)

pub returns-in-Ok-clause-contents : goal.returns-in-Ok-clause-contents
returns-in-Ok-clause-contents c =
    rw c.in-Ok.ensures.kept
    (put_contents c.self.inside.table c.self.inside.rows c.self.inside.numbers c.put_batch.new.numbers c.args.columns.items c.args.rows
    c.in_ok-replaced.replaced.items
    (known c)
    ∙ ap (λ (s : Store). applied s.table (put (batch_rows c.args.rows c.args.columns.items)) (contents_of s.slots))
    c.self.view_is)

pub returns-in-Ok-clause-fits : goal.returns-in-Ok-clause-fits
returns-in-Ok-clause-fits c =
    let few =
    put_few c.self.inside.table c.self.inside.rows c.self.inside.numbers c.put_batch.new.numbers c.args.columns.items c.args.rows
    c.in_ok-replaced.replaced.items
    (known c) c.live-all.result c.len-before.result c.live-all.ensures c.len-before.ensures.value c.in-Ok.ensures.few in
    let P : Store → Type 0 =
    λ s. cause_of s.table (contents_of s.slots) (put (batch_rows c.args.rows c.args.columns.items)) ≡ None in
    subst P c.self.view_is
    (put_fits c.self.inside.table c.self.inside.rows c.self.inside.numbers c.put_batch.new.numbers c.args.columns.items c.args.rows
    c.in_ok-replaced.replaced.items
    (known c) few c.in-Ok.ensures.light)

pub returns-in-Ok-clause-can_go_back : goal.returns-in-Ok-clause-can_go_back
returns-in-Ok-clause-can_go_back c =
    let P : Store → Type 0 = λ s.
    CanUndoPut s.table c.args.rows c.in_ok-replaced.replaced.items
    (joined (c.self.inside.rows ++ batch_rows c.args.rows c.args.columns.items) c.put_batch.new.numbers) in
    rw c.in-Ok.ensures.kept
    (subst P c.self.view_is
    (put_can_undo c.self.inside.table c.self.inside.rows c.self.inside.numbers c.put_batch.new.numbers c.args.columns.items c.args.rows
    c.in_ok-replaced.replaced.items
    (known c)))

pub returns-in-Ok-clause-back : goal.returns-in-Ok-clause-back
returns-in-Ok-clause-back c =
    rw c.in-Ok.ensures.kept
    (put_is_undone c.self.inside.table c.self.inside.rows c.self.inside.numbers c.put_batch.new.numbers c.args.columns.items c.args.rows
    c.in_ok-replaced.replaced.items
    (known c) ∙ ap (λ (s : Store). s.slots) c.self.view_is)

pub returns-in-Ok-clause-can_retract : goal.returns-in-Ok-clause-can_retract
returns-in-Ok-clause-can_retract c =
    let P : Store → Type 0 = λ s. CanRetract c.in_ok-replaced.replaced.items s.slots in
    subst P c.self.view_is
    (put_can c.self.inside.table c.self.inside.rows c.self.inside.numbers c.put_batch.new.numbers c.args.columns.items c.args.rows
    c.in_ok-replaced.replaced.items
    (known c))

pub returns-in-Ok-clause-slots : goal.returns-in-Ok-clause-slots
returns-in-Ok-clause-slots c =
    rw c.in-Ok.ensures.kept
    (put_slots c.self.inside.table c.self.inside.rows c.self.inside.numbers c.put_batch.new.numbers c.args.columns.items c.args.rows
    c.in_ok-replaced.replaced.items
    (known c)
    ∙ ap (λ (s : Store). retracted c.in_ok-replaced.replaced.items s.slots
    ++ map new_slot (batch_rows c.args.rows c.args.columns.items)) c.self.view_is)

pub returns-in_err-replaced-clause-refused : goal.returns-in_err-replaced-clause-refused
returns-in_err-replaced-clause-refused c =
    let failed = err_from_is_err_and c.from_residual.result c.from_residual.ensures.1 in
    let K : List CheckedColumn → Type 0 =
    λ cs. RefusesKeys (keys_in c.self.inside.table (batch_rows c.args.rows cs)) [] c.in_err-replaced.field-0.0 in
    let P : Store → Type 0 = λ s.
    Refuses (cause_of s.table (contents_of s.slots) (put (batch_rows c.args.rows c.args.columns.items)))
    c.in_err-replaced.field-0.0 in
    rw (failed.1, failed.2)
    (subst P c.self.view_is
    (put_refused c.self.inside.table (contents_of (joined c.self.inside.rows c.self.inside.numbers))
    (batch_rows c.args.rows c.args.columns.items) c.in_err-replaced.field-0.0
    (subst K c.deref.ensures.value c.in_err-replaced.ensures.refused)))

-- the numbers are as they were
back : (c : goal.After-drop-replaced) → c.take_back_put.new.numbers ≡ c.self.inside.numbers
back c =
    let known =
    put_known c.self.inside.table c.self.inside.rows c.self.inside.numbers c.put_batch.new.numbers c.args.columns.items
    c.deref.result.now c.args.rows c.in_ok-replaced.replaced.items c.args.self.now.table c.self.invariant
    c.distinct_law.ensures (ap (λ (s : Store). s.table) c.self.view_is) c.requires c.deref.ensures.value
    c.in_ok-replaced.ensures.put in
    c.take_back_put.ensures
    ∙ ap (λ ns. revived ns (take c.len-before.result c.put_batch.new.numbers)) c.deref-in-Err.ensures.value
    ∙ puts_revived (keys_in c.self.inside.table (batch_rows c.args.rows c.args.columns.items)) c.self.inside.numbers
    c.put_batch.new.numbers c.in_ok-replaced.replaced.items c.len-before.result c.len-before.ensures.value known.keys
    c.distinct_law.ensures c.self.invariant.given

pub invariant_of-self-in-Err-1 : goal.invariant_of-self-in-Err-1
invariant_of-self-in-Err-1 c = rw (c.in-Err.ensures.same, back c) c.self.invariant

pub take_back_put-requires : goal.take_back_put-requires
take_back_put-requires c =
    let known =
    put_known c.self.inside.table c.self.inside.rows c.self.inside.numbers c.put_batch.new.numbers c.args.columns.items
    c.deref.result.now c.args.rows c.in_ok-replaced.replaced.items c.args.self.now.table c.self.invariant
    c.distinct_law.ensures (ap (λ (s : Store). s.table) c.self.view_is) c.requires c.deref.ensures.value
    c.in_ok-replaced.ensures.put in
    rw c.deref-in-Err.ensures.value
    (puts_can_revive (keys_in c.self.inside.table (batch_rows c.args.rows c.args.columns.items)) c.self.inside.numbers
    c.put_batch.new.numbers c.in_ok-replaced.replaced.items c.len-before.result c.len-before.ensures.value known.keys
    c.distinct_law.ensures c.self.invariant.given)

pub returns-in-Err-clause-refused : goal.returns-in-Err-clause-refused
returns-in-Err-clause-refused c =
    let known =
    put_known c.self.inside.table c.self.inside.rows c.self.inside.numbers c.put_batch.new.numbers c.args.columns.items
    c.deref.result.now c.args.rows c.in_ok-replaced.replaced.items c.args.self.now.table c.self.invariant
    c.distinct_law.ensures (ap (λ (s : Store). s.table) c.self.view_is) c.requires c.deref.ensures.value
    c.in_ok-replaced.ensures.put in
    let P : Store → Type 0 = λ s.
    Refuses (cause_of s.table (contents_of s.slots) (put (batch_rows c.args.rows c.args.columns.items))) c.in-Err.fault in
    subst P c.self.view_is
    (put_unfit c.self.inside.table c.self.inside.rows c.self.inside.numbers c.put_batch.new.numbers c.args.columns.items c.args.rows
    c.in_ok-replaced.replaced.items
    known c.live-all.result c.len-before.result c.in-Err.fault c.live-all.ensures c.len-before.ensures.value
    c.in-Err.ensures.refused)

pub returns-in-Err-clause-unchanged : goal.returns-in-Err-clause-unchanged
returns-in-Err-clause-unchanged c = rw (c.in-Err.ensures.same, back c) (ap (λ (s : Store). s.slots) c.self.view_is)
