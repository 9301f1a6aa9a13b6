-- The size of a filter bounds its depth, by which walking it terminates.
use Rattle.std.specs.Prelude.{◌≤◌}
use Rattle.std.proofs.Common.{arith}
use Rattle.view_lang.specs.Filter.{filter_size, most_le-parts_size}
use Rattle.view_lang.specs.FilterSeen.{filter_of}
use Rattle.view_lang.specs.declared.filter.Test.{Test}
use Rattle.view_lang.specs.declared.filter.Test.TheVariants.{Compare, IsNull, Not, And, Or}
use Rattle.view_lang.specs.declared.filter.Filter.TheDeep.{deep-Test}

pub deep_le-filter_size : (t : Test) → deep-Test t ≤ filter_size (filter_of t)
deep_le-filter_size (Compare c k o) = omega arith
deep_le-filter_size (IsNull k) = omega arith
deep_le-filter_size (Not f) = omega arith
deep_le-filter_size (And fs) = omega (arith, most_le-parts_size fs.items)
deep_le-filter_size (Or fs) = omega (arith, most_le-parts_size fs.items)
