use Rattle.std.proofs.Common.{◌≡◌, ◌+◌, drop}
use Rattle.values.specs.Rose.{kids_of, roses_size}
use Rattle.view_config.specs.Scope.{fields_of}
use Rattle.view_config.specs.Outputs.{all_groups}
use Rattle.view_lang.specs.ViewColumns.{output_fields}
use Rattle.view_config.proofs.shown.room_after_group_outputs.Given as goal

-- what is left, and the fields of all outputs, are the room and those still to be counted
abbrev pub invariant-loop-output : goal.invariant-loop-output
invariant-loop-output l =
    l.left + roses_size (kids_of (output_fields (fields_of l.scope) (all_groups l.by l.outputs)))
    ≡ l.fn.room
    + roses_size (kids_of (output_fields (fields_of l.scope) (all_groups l.by (drop l.output-index l.outputs))))
