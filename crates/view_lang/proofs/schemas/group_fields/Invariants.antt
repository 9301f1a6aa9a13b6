use Rattle.std.proofs.Common.{◌≡◌, ◌++◌, map, take}
use Rattle.view_lang.specs.Aggregates.{aggregate_field}
use Rattle.view_lang.proofs.schemas.group_fields.Given as goal

abbrev pub invariant-loop-output : goal.invariant-loop-output
invariant-loop-output l = l.fields.items ≡ map (λ o. aggregate_field (l.main ++ l.side) l.by o.name o.aggregate) (take
    l.output-index l.outputs)
