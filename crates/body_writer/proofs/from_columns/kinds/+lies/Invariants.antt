use Rattle.std.proofs.Common.{◌+◌, ◌*◌}
use Rattle.values.specs.Rose.{node, rose_size, roses_size, kids_of}
use Rattle.body_writer.proofs.from_columns.kinds.+lies.Given as goal

abbrev pub decreases-lies : goal.decreases-lies
decreases-lies l = 2 * rose_size (node l.layout (kids_of l.kids.now))

abbrev pub decreases-all_lie : goal.decreases-all_lie
decreases-all_lie l = 2 * roses_size (kids_of l.layouts.now) + 1
