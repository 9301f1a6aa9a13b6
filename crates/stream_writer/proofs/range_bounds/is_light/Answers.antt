use Rattle.std.proofs.Common.{◌<◌, arith, get_or, length, refl}
use Rattle.values.specs.Rose.{kids_of}
use Rattle.stream_writer.proofs.RangeBoundLemmas.{light-end, light-first, light-more}
use Rattle.stream_writer.proofs.range_bounds.is_light.Goals as goal

pub loop-j-init : goal.loop-j-init
loop-j-init c = record {
  light = light-first c.args.layouts.now c.requires.range.0 c.args.columns.now c.args.range.now c.requires.range.1
      c.requires.held;
  small = omega arith;
}

pub loop-j-preserved : goal.loop-j-preserved
loop-j-preserved c =
    let r = c.args.range.now in
    let js = c.args.columns.now in
    let i = c.loop-j.j in
    let picks : i < length js = omega (arith, c.loop-j-test.true, c.requires.many) in
    let below = c.requires.range.2 i 0 picks in
    let many = c.requires.range.1.sized.columns in
    let under = c.if-sum-gt-MAX_LIGHT_ROW.false in
    record {
      light = light-more c.args.layouts.now js i c.index-layouts-j.result (get_or js i 0) r.batch.now.columns.items r.from
          r.to c.loop-j.sum c.in-Some.most (kids_of c.args.layouts.now) js c.index-column.result.now c.loop-j-test.true picks
          c.index-layouts-j.is refl (omega (arith, below, many)) c.index-column.ensures c.in-Some.ensures
          c.loop-j.invariant.light;
      small = omega (arith, under);
    }

pub returns : goal.returns
returns c = λ yes.
    light-end c.args.layouts.now c.requires.range.0 c.args.columns.now c.args.range.now c.loop-j.j c.loop-j.sum
    c.requires.range.1 c.loop-j-test.false c.loop-j.invariant.small c.loop-j.invariant.light
