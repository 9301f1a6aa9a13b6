use Rattle.row_keys.proofs.NumberRanges.{range_more}
use Rattle.row_keys.proofs.hidden_changes.numbers_from.Goals as goal

pub loop-index-preserved : goal.loop-index-preserved
loop-index-preserved c =
    range_more c.args.first c.loop-index.index c.loop-index.numbers.items c.push.new.self.items c.loop-index.invariant
    c.in_ok-push.ensures.items
