use Rattle.std.proofs.Common.{◌+◌, ◌*◌}
use Rattle.view_lang.specs.Filter.{filter_size, parts_size, parts_of}
use Rattle.column_truths.proofs.FirstCells.{LeftWithin}
use Rattle.column_truths.proofs.within.+is_within.Given as goal

abbrev pub decreases-is_within : goal.decreases-is_within
decreases-is_within l = 2 * filter_size l.filter.now

abbrev pub decreases-are_within : goal.decreases-are_within
decreases-are_within l = 2 * parts_size (parts_of l.parts.now) + 1

abbrev pub invariant-are_within-loop-part : goal.invariant-are_within-loop-part
invariant-are_within-loop-part l = LeftWithin l.columns l.parts l.part-index
