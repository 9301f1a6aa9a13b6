use Rattle.std.proofs.Common.{◌≤◌, ◌+◌, subst}
use Rattle.upkeep.specs.Stores.{visits_in}
use Rattle.upkeep.proofs.reading.show_numbers.Goals as goal

pub returns-clause-visits : goal.returns-clause-visits
returns-clause-visits c =
    subst (λ n. visits_in c.show_columns.new.stores.items ≤ visits_in c.args.stores.now.items + n)
    c.requires.shown.many c.show_columns.ensures.visits
