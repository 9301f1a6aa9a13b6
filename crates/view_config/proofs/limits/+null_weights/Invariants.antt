use Rattle.std.proofs.Common.{◌≡◌, ◌+◌, ◌*◌, ◌≤◌, drop}
use Rattle.values.specs.Limits.{max_null_weight}
use Rattle.values.specs.Rose.{kids_of, rose_size, roses_size}
use Rattle.values.specs.Layouts.{null_weights}
use Rattle.values.specs.Logical.{trees_of}
use Rattle.view_config.specs.Limits.{null_weights_fit}
use Rattle.view_config.proofs.limits.+null_weights.Given as goal

abbrev pub decreases-null_weight_of : goal.decreases-null_weight_of
decreases-null_weight_of l = 2 * rose_size l.field.now

abbrev pub decreases-null_weights_of : goal.decreases-null_weights_of
decreases-null_weights_of l = 2 * roses_size (kids_of l.fields.now) + 1

abbrev pub invariant-null_weights_of-loop-field : goal.invariant-null_weights_of-loop-field
invariant-null_weights_of-loop-field l =
    (null_weights_fit (trees_of (kids_of (drop l.field-index l.fields))) ≡ null_weights_fit (trees_of (kids_of l.fields)))
    × (l.null_weights + null_weights (trees_of (kids_of (drop l.field-index l.fields))) ≡ null_weights (trees_of (kids_of l.fields)))
    × (l.null_weights + max_null_weight * roses_size (kids_of (drop l.field-index l.fields)) ≤ max_null_weight * roses_size
    (kids_of l.fields))
