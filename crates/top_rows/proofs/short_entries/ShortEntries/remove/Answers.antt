use Rattle.std.proofs.Common.{ap}
use Rattle.std.specs.Ordering.{nat_cmp}
use Rattle.top_rows.proofs.ShortEntries.{remove-pair}
use Rattle.top_rows.specs.Places.{place_of}
use Rattle.top_rows.proofs.short_entries.ShortEntries.remove.Goals as goal

pub returns-clause-done : goal.returns-clause-done
returns-clause-done g c = λ _.
    remove-pair g.K.Ord.cmp nat_cmp g.K.ShortKeys.sort_keys g.met.K.ShortKeys.ordered c.self.inside.pairs.keys c.args.self.now
    c.self.view_is c.remove-there.new.self.keys
    (place_of c.args.order.now c.args.number (g.R.RowView.cells c.args.row.now)) (c.in-Some.keys, c.args.number)
    (ap (λ keys. (keys, c.args.number)) c.in-Some.ensures) c.remove-there.ensures.keys
