use Rattle.std.proofs.Common.{to_z-of_z}
use Rattle.row_keys.proofs.NumberTables.{number_inserted, numbers_inserted}
use Rattle.row_keys.proofs.number_keys.insert_number.Goals as goal

pub returns-clause-kept : goal.returns-clause-kept
returns-clause-kept c = λ are.
    let is = rw (to_z-of_z c.ranges.number) at c.in_ok-index.ensures.keys in
    let stored = rw (to_z-of_z c.ranges.number) at c.in_ok-index.ensures.stored in
    numbers_inserted c.key_law.ensures.equal c.args.numbers.now.keys c.insert_full.new.self.keys c.args.number
    c.in_ok-index.index is stored c.ranges.number are

pub returns-clause-place : goal.returns-clause-place
returns-clause-place c =
    let is = rw (to_z-of_z c.ranges.number) at c.in_ok-index.ensures.keys in
    let stored = rw (to_z-of_z c.ranges.number) at c.in_ok-index.ensures.stored in
    number_inserted c.key_law.ensures.equal c.args.numbers.now.keys c.insert_full.new.self.keys c.args.number
    c.in_ok-index.index is stored
