use Rattle.std.proofs.Common.{◌≡◌, ◌+◌, drop}
use Rattle.values.specs.Rose.{kids_of, roses_size}
use Rattle.schema_meta.specs.FieldLayouts.{slot_layouts_below}
use Rattle.schema_meta.proofs.shape.+nodes_of.Given as goal

abbrev pub decreases-nodes_of : goal.decreases-nodes_of
decreases-nodes_of l = roses_size (kids_of l.fields.now)

abbrev pub invariant-loop-field : goal.invariant-loop-field
invariant-loop-field l =
    l.nodes + roses_size (slot_layouts_below (kids_of (drop l.field-index l.fields))) ≡ roses_size
    (slot_layouts_below (kids_of l.fields))
