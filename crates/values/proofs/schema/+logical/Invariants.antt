use Rattle.std.proofs.Common.{◌≡◌, map}
use Rattle.values.specs.Rose.{kids_of}
use Rattle.values.specs.Logical.{AreLogical, logical_in}
use Rattle.values.proofs.schema.+logical.Given as goal

abbrev pub invariant-logical_below-loop-field : goal.invariant-logical_below-loop-field
invariant-logical_below-loop-field l =
    (l.logical.items ≡ map (logical_in l.parent) l.yielded) × AreLogical l.parent (kids_of l.logical.items)
