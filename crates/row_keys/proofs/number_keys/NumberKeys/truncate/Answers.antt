use Rattle.std.proofs.Common.{◌-◌, subst, sym}
use Rattle.row_keys.specs.NumberKeys.{AreNumberKeys}
use Rattle.row_keys.proofs.NumberTables.{numbers_kept}
use Rattle.row_keys.proofs.number_keys.NumberKeys.truncate.Goals as goal

pub invariant_of-self : goal.invariant_of-self
invariant_of-self c =
    subst AreNumberKeys (sym c.truncate.ensures.keys)
    (numbers_kept c.self.inside.numbers.keys (c.args.len - 1) c.self.invariant)
