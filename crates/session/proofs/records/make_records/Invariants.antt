use Rattle.std.proofs.Common.{◌≡◌, ◌++◌}
use Rattle.view_lang.specs.Limits.{max_undo_depth}
use Rattle.session.proofs.records.make_records.Given as goal

abbrev pub invariant-loop-record : goal.invariant-loop-record
invariant-loop-record l =
    (l.made.items ++ l.record-iterator.rest.items ≡ l.fn.records.items) × (l.made.capacity ≡ max_undo_depth)
