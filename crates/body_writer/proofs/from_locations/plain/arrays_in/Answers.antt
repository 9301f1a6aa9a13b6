use Rattle.std.proofs.Common.{◌∷◌, [], ap, arith, length, length-append}
use Rattle.body_writer.proofs.LocatedColumns.{all-so, one-more}
use Rattle.body_writer.proofs.from_locations.plain.arrays_in.Goals as goal

pub loop-batch-preserved : goal.loop-batch-preserved
loop-batch-preserved c =
    let inv = c.loop-batch.invariant in
    let pushed = c.in_ok-push.ensures.items in
    let grown = ap length pushed in
    let more = length-append c.loop-batch.arrays.items (c.in-Some.array ∷ []) in
    record {
      many = omega (arith, grown, more, inv.many);
      few = omega (arith, grown, more, inv.many, c.loop-batch-test.true);
      each = one-more c.args.layout c.args.j c.args.batches.now c.loop-batch.arrays.items c.push.new.self.items
          c.in-Some.array c.loop-batch.batch-index c.batch-item.result pushed inv.many c.batch-item.is inv.each
          c.in-Some.ensures;
    }

pub returns-clause-plain : goal.returns-clause-plain
returns-clause-plain c =
    all-so c.args.layout c.args.j c.args.batches.now c.loop-batch.arrays.items c.loop-batch.batch-index
    c.loop-batch-test.false c.loop-batch.invariant.each
