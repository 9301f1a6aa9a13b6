use Rattle.std.proofs.Common.{◌∙◌}
use Rattle.row_keys.proofs.StoreStates.{left_first, left_next, left_none, out_next}
use Rattle.row_keys.proofs.store.RowStore.release.Goals as goal

pub loop-number-init : goal.loop-number-init
loop-number-init c = left_first c.args.self.now c.args.numbers.now c.requires

pub release_row-requires : goal.release_row-requires
release_row-requires c =
    out_next c.args.self.now c.loop-number.self c.args.numbers.now c.loop-number.number-index c.loop-number.invariant
    c.loop-number-test.true

pub loop-number-preserved : goal.loop-number-preserved
loop-number-preserved c =
    left_next c.args.self.now c.loop-number.self c.release_row.new.self c.args.numbers.now c.loop-number.number-index
    c.loop-number.invariant c.loop-number-test.true c.release_row.ensures

pub returns : goal.returns
returns c =
    c.tidy.ensures ∙ c.renew_all.ensures
    ∙ left_none c.args.self.now c.loop-number.self c.args.numbers.now c.loop-number.number-index
    c.loop-number.invariant c.loop-number-test.false
