use Rattle.std.proofs.Common.{List, length, subst, sym, ℕ}
use Rattle.upkeep.specs.Arrivals.{EachDescribes, rows_of_numbers}
use Rattle.upkeep.specs.Stores.{rows_at, rows_in, visits_in}
use Rattle.row_keys.proofs.NumberRanges.{last_there}
use Rattle.upkeep.proofs.LastRows.{last_many, last_opened}
use Rattle.upkeep.proofs.all_views.follow_these.Goals as goal

pub follow_all-requires-clause-there : goal.follow_all-requires-clause-there
follow_all-requires-clause-there c =
    last_there c.args.count (rows_at (rows_in c.args.stores.now.items) 0) c.args.numbers.now c.requires.there
    c.requires.last

pub follow_all-requires-clause-known : goal.follow_all-requires-clause-known
follow_all-requires-clause-known c =
    subst (λ (ns : List ℕ). EachDescribes c.args.views.now
    (rows_of_numbers (rows_at (rows_in c.args.stores.now.items) 0) ns) c.args.arrivals.now)
    (sym c.requires.last) c.requires.known

pub returns-clause-visits : goal.returns-clause-visits
returns-clause-visits c =
    last_opened (visits_in c.args.stores.now.items) (visits_in c.follow_all.new.stores.items)
    (length c.args.views.now) c.args.count (length c.args.numbers.now)
    (last_many c.args.count (rows_at (rows_in c.args.stores.now.items) 0) c.args.numbers.now c.requires.last)
    c.follow_all.ensures.visits
