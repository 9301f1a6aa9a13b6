use Rattle.std.proofs.Common.{◌≡◌, ◌<◌, Some, ap, length, slice_get, sym, true≢false, ◌∙◌}
use Rattle.std.proofs.lemmas.Option.{slice_get-get_or}
use Rattle.row_keys.proofs.RetainedEntries.{held_here, held_not}
use Rattle.row_keys.proofs.numbers.holder.Goals as goal
use Rattle.row_keys.proofs.numbers.holder.Goals.{
  else-entry-place-via-else-entry-place,
  else-entry-place-via-then-entry-place+else-entry,
}

pub returns-then-entry : goal.returns-then-entry
returns-then-entry c = λ len order.
    held_here c.args.kept.now len c.in_ok-number.field-0.now c.args.place c.entry_at-entry.result order
    c.entry_at-entry.ensures c.if-entry-place.true c.if-entry.true

pub returns-else-entry-place : goal.returns-else-entry-place
returns-else-entry-place c = λ len order.
    let found = c.in_ok-number.ensures.lookup in
    let within : c.args.place < length c.args.holders.now = found.3.0 in
    let there : slice_get c.args.holders.now c.args.place ≡ Some c.in_ok-number.field-0.now =
    slice_get-get_or c.args.holders.now c.args.place c.in_ok-number.field-0.now within ∙ ap Some (sym found.1) in
    held_not c.args.holders.now c.args.kept.now len c.in_ok-number.field-0.now c.args.place c.entry_at-entry.result order
    there c.entry_at-entry.ensures
    (elim c.else-entry-place.branch [
      | else-entry-place-via-then-entry-place+else-entry w ↦ λ same lives. true≢false (sym lives ∙ w.if-entry.false)
      | else-entry-place-via-else-entry-place w ↦ λ same lives. w.if-entry-place.false same
    ])
