use Rattle.std.proofs.Common.{◌+◌, ◌*◌}
use Rattle.view_lang.specs.Filter.{filter_size, parts_size, parts_of}
use Rattle.column_truths.proofs.RowLemmas.{AllKnown, OneKnown}
use Rattle.column_truths.proofs.filter.+truths.Given as goal

abbrev pub decreases-truths : goal.decreases-truths
decreases-truths l = 2 * filter_size l.filter.now

abbrev pub decreases-truths_of_all : goal.decreases-truths_of_all
decreases-truths_of_all l = 2 * parts_size (parts_of l.parts.now) + 1

abbrev pub decreases-truths_of_any : goal.decreases-truths_of_any
decreases-truths_of_any l = 2 * parts_size (parts_of l.parts.now) + 1

abbrev pub invariant-truths_of_all-loop-part : goal.invariant-truths_of_all-loop-part
invariant-truths_of_all-loop-part l = AllKnown l.rows l.columns l.parts l.part-index l.known

abbrev pub invariant-truths_of_any-loop-part : goal.invariant-truths_of_any-loop-part
invariant-truths_of_any-loop-part l = OneKnown l.rows l.columns l.parts l.part-index l.known
