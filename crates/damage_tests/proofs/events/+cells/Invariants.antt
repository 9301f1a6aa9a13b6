use Rattle.std.proofs.Common.{◌+◌, ◌*◌}
use Rattle.values.specs.Datum.{datum_size, items_size, items_of}
use Rattle.damage_tests.proofs.events.+cells.Given as goal

abbrev pub decreases-same_value : goal.decreases-same_value
decreases-same_value l = 2 * datum_size l.a.now

abbrev pub decreases-same_values : goal.decreases-same_values
decreases-same_values l = 2 * items_size (items_of l.a.now) + 1
