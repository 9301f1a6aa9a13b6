use Rattle.std.proofs.Common.{All, drop}
use Rattle.values.specs.Rose.{node, kids_of}
use Rattle.body_writer.specs.Segments.{LiesAs}
use Rattle.body_writer.proofs.from_columns.kinds.all_lie_as.Given as goal

abbrev pub invariant-loop-segment : goal.invariant-loop-segment
invariant-loop-segment l =
    All (LiesAs l.layout (node l.model.own.now (kids_of l.model.children.now))) (drop l.segment-index l.segments)
    → All (LiesAs l.layout (node l.model.own.now (kids_of l.model.children.now))) l.segments
