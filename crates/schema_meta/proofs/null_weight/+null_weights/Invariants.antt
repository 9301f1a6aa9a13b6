use Rattle.std.proofs.Common.{◌≡◌, ◌+◌, ◌*◌, ◌≤◌, drop}
use Rattle.values.specs.Limits.{max_null_weight}
use Rattle.values.specs.Rose.{kids_of, rose_size, roses_size}
use Rattle.values.specs.Layouts.{null_weights}
use Rattle.schema_meta.specs.FieldLayouts.{null_weights_fit, layouts_below}
use Rattle.schema_meta.proofs.null_weight.+null_weights.Given as goal

abbrev pub decreases-null_weight_of : goal.decreases-null_weight_of
decreases-null_weight_of l = 2 * rose_size l.field.now

abbrev pub decreases-null_weights_of : goal.decreases-null_weights_of
decreases-null_weights_of l = 2 * roses_size (kids_of l.fields.now) + 1

abbrev pub invariant-null_weights_of-loop-field : goal.invariant-null_weights_of-loop-field
invariant-null_weights_of-loop-field l =
    (null_weights_fit (layouts_below (kids_of (drop l.field-index l.fields))) ≡ null_weights_fit
    (layouts_below (kids_of l.fields)))
    × (l.null_weights + null_weights (layouts_below (kids_of (drop l.field-index l.fields))) ≡ null_weights
    (layouts_below (kids_of l.fields)))
    × (l.null_weights + max_null_weight * roses_size (kids_of (drop l.field-index l.fields)) ≤ max_null_weight * roses_size
    (kids_of l.fields))
