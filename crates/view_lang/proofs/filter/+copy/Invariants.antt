use Rattle.std.proofs.Common.{◌≡◌, ◌+◌, ◌*◌, take}
use Rattle.view_lang.specs.Filter.{filter_size, parts_size, parts_of}
use Rattle.view_lang.proofs.filter.+copy.Given as goal

abbrev pub decreases-Filter::copy : goal.decreases-Filter::copy
decreases-Filter::copy l = 2 * filter_size l.self.now

abbrev pub decreases-copy_parts : goal.decreases-copy_parts
decreases-copy_parts l = 2 * parts_size (parts_of l.parts.now) + 1

abbrev pub invariant-copy_parts-loop-part : goal.invariant-copy_parts-loop-part
invariant-copy_parts-loop-part l = l.copies.items ≡ take l.part-index l.parts
