use Rattle.std.proofs.Common.{to_z-of_z}
use Rattle.row_keys.proofs.NumberTables.{number_found}
use Rattle.row_keys.proofs.number_keys.place_of.Goals as goal

pub returns-in-Some : goal.returns-in-Some
returns-in-Some c =
    number_found c.args.numbers.now.keys c.args.number c.in-Some.index
    (rw (to_z-of_z c.ranges.number) at c.in-Some.ensures.index)
