use Rattle.std.proofs.Common.{ap, arith, get_or}
use Rattle.stream_writer.proofs.BatchRowLemmas.{first-is, place-step}
use Rattle.stream_writer.proofs.TableWriterLemmas.{within-step}
use Rattle.stream_writer.proofs.batch_rows.find_row.Goals as goal

pub loop-i-preserved : goal.loop-i-preserved
loop-i-preserved c =
    let batches = c.args.batches.now in
    record {
      rows = place-step batches c.loop-i.i (get_or batches c.loop-i.i c.index-batches-i.result) c.loop-i.start _
          c.loop-i-test.true
          (ap (get_or batches c.loop-i.i) c.index-batches-i.is) (omega arith) c.loop-i.invariant.rows;
      bound = omega (arith, c.loop-i.invariant.bound);
      place = λ h. within-step batches c.loop-i.i (get_or batches c.loop-i.i c.index-batches-i.result) c.loop-i.start
          c.loop-i-test.true
          (ap (get_or batches c.loop-i.i) c.index-batches-i.is) (omega arith) (c.loop-i.invariant.place h);
    }

pub returns-then-start-rows-clause-first : goal.returns-then-start-rows-clause-first
returns-then-start-rows-clause-first c =
    let batches = c.args.batches.now in
    first-is batches c.loop-i.i (get_or batches c.loop-i.i c.index-batches-i.result) c.loop-i.start
    c.loop-i-test.true (ap (get_or batches c.loop-i.i) c.index-batches-i.is) (omega arith)
