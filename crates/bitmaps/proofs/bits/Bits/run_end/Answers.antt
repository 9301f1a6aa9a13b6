use Rattle.std.proofs.Common.{◌∙◌, arith}
use Rattle.bitmaps.proofs.FirstBits.{run-begins, run-longer}
use Rattle.bitmaps.proofs.bits.Bits.run_end.Goals as goal

pub loop-end-init : goal.loop-end-init
loop-end-init c = record {
  past = omega arith;
  within = omega (arith, c.requires);
  same = run-begins c.args.self.now c.at-first.result c.args.from c.at-first.ensures;
}

pub loop-end-preserved : goal.loop-end-preserved
loop-end-preserved c = record {
  past = omega (arith, c.loop-end.invariant.past);
  within = c.count_alike-alike.ensures.within;
  same = run-longer c.args.self.now c.at-first.result c.args.from c.loop-end.end c.count_alike-alike.result
      c.loop-end.invariant.same c.count_alike-alike.ensures.same;
}

pub returns-then-alike-eq0-clause-same : goal.returns-then-alike-eq0-clause-same
returns-then-alike-eq0-clause-same c = λ k above below. c.loop-end.invariant.same k above below ∙ c.at-first.ensures

pub returns-clause-same : goal.returns-clause-same
returns-clause-same c = λ k above below. c.loop-end.invariant.same k above below ∙ c.at-first.ensures
