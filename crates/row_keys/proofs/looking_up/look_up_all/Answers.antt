use Rattle.row_keys.proofs.SideLookups.{range_looked, ranges_over}
use Rattle.row_keys.proofs.looking_up.look_up_all.Goals as goal

pub loop-range-preserved : goal.loop-range-preserved
loop-range-preserved c =
    let l = c.loop-range in
    record {
      rows = range_looked c.args.side.now c.args.on c.args.ranges.now l.range-index c.range-item.result
          l.numbers.items
          c.push_numbers.new.numbers.items _ c.loop-range-test.true c.range-item.is
          c.in_ok-push_numbers.ensures.rows l.invariant.rows;
      live = c.in_ok-push_numbers.ensures.live l.invariant.live;
      found = c.in_ok-push_numbers.ensures.found;
    }

pub returns-clause-rows : goal.returns-clause-rows
returns-clause-rows c =
    ranges_over c.args.side.now c.args.on c.args.ranges.now c.loop-range.range-index c.loop-range.numbers.items _
    c.loop-range-test.false c.loop-range.invariant.rows
