use Rattle.std.proofs.Common.{◌≡◌, ◌+◌, arith, get_or, subst}
use Rattle.stream_writer.specs.JoinedRows.{half, joined_rows, place_of}
use Rattle.stream_writer.proofs.PlaceBoundLemmas.{AreLightSoFar, bound-as, light-end, light-first, light-more}
use Rattle.stream_writer.proofs.location_bounds.are_light_joined.Goals as goal

pub loop-j-init : goal.loop-j-init
loop-j-init c = record {
  light = light-first c.args.layouts.now c.args.columns.now (joined_rows c.args.rows.now) c.requires.held;
  small = omega arith;
}

pub loop-j-preserved : goal.loop-j-preserved
loop-j-preserved c =
    let ls = c.args.layouts.now in
    let js = c.args.columns.now in
    let rows = joined_rows c.args.rows.now in
    let j = c.loop-j.j in
    let under = c.if-sum-gt-MAX_LIGHT_ROW.false in
    let grown : c.loop-j.sum + c.in-Some.most ≡ c.saturating_add-sum.result =
    omega (arith, c.saturating_add-sum.ensures, under) in
    let t = c.index-layouts-j.result in
    let k = get_or js j 0 in
    let bound = bound-as t c.place_of.result (place_of c.args.rows.now k) c.in-Some.most c.half.result.now
    (half c.args.rows.now k) c.half.ensures c.place_of.ensures c.in-Some.ensures in
    record {
      light = subst (AreLightSoFar ls js rows (j + 1)) grown
          (light-more ls js c.args.rows.now j c.loop-j.sum c.in-Some.most t c.requires.have c.loop-j-test.true
          c.requires.many c.index-layouts-j.is bound c.loop-j.invariant.light);
      small = omega (arith, under);
    }

pub returns : goal.returns
returns c = λ yes.
    light-end c.args.layouts.now c.args.columns.now (joined_rows c.args.rows.now) c.loop-j.j c.loop-j.sum
    c.loop-j-test.false c.loop-j.invariant.small c.loop-j.invariant.light
