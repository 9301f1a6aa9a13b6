use Rattle.std.proofs.Common.{◌+◌, ◌*◌, drop}
use Rattle.values.specs.Rose.{rose_size, roses_size, kids_of}
use Rattle.body_writer.proofs.Ahead.{AheadOf}
use Rattle.body_writer.specs.Segments.{segments_cells}
use Rattle.body_writer.proofs.from_columns.write.+column.Given as goal

abbrev pub decreases-write_segments : goal.decreases-write_segments
decreases-write_segments l = 2 * rose_size l.layout.now

abbrev pub decreases-write_children : goal.decreases-write_children
decreases-write_children l = 2 * roses_size (kids_of l.children.now) + 1

abbrev pub invariant-write_children-loop-j : goal.invariant-write_children-loop-j
invariant-write_children-loop-j l =
    AheadOf l.layout l.j (kids_of (drop l.j l.children)) (segments_cells l.segments) l.body l.fn.body (kids_of l.children)
