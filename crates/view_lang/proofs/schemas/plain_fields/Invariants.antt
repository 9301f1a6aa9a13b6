use Rattle.std.proofs.Common.{◌≡◌, ◌++◌, map, take}
use Rattle.view_lang.specs.ViewColumns.{output_field}
use Rattle.view_lang.proofs.schemas.plain_fields.Given as goal

abbrev pub invariant-loop-output : goal.invariant-loop-output
invariant-loop-output l = l.fields.items ≡ map (output_field (l.main ++ l.side)) (take l.output-index l.outputs)
