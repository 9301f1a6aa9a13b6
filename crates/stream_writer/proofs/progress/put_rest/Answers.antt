use Rattle.std.proofs.Common.{◌∙◌, ◌++◌, [], length, ap, take, drop, arith, length-drop, refl}
use Rattle.values.specs.Rose.{kids_of}
use Rattle.stream_writer.specs.Stream.{batch_len, batch_messages, batches, end_mark, trees}
use Rattle.stream_writer.proofs.Cut.{batch-of, batch-some, light-of}
use Rattle.stream_writer.proofs.ProgressLemmas.{held-rest}
use Rattle.stream_writer.proofs.Whole.{batch-comes, end-comes, from-err, last-put, none-left, some-left}
use Rattle.stream_writer.proofs.WrittenLemmas.{WrittenSoFar-memory}
use Rattle.stream_writer.proofs.progress.put_rest.Goals as goal

pub loop-alloc-init : goal.loop-alloc-init
loop-alloc-init g c = record {
  coded = refl;
  fits = c.requires.fits;
  held = λ fs all h. h;
  goes = λ start fs all whole h so_far. so_far;
}

pub is_empty-requires : goal.is_empty-requires
is_empty-requires g c = (c.args.layouts.now, c.loop-alloc.invariant.fits)

pub len_of_batch-count-requires-clause-light : goal.len_of_batch-count-requires-clause-light
len_of_batch-count-requires-clause-light g c =
    let h = c.loop-alloc.invariant.held c.requires.held.0 c.requires.held.1 c.requires.held.2 in
    light-of c.requires.held.0 (kids_of c.args.layouts.now) (g.R.RowSource.rows c.loop-alloc.left) h.layouts h.sound

pub encode_batch-requires-clause-batch : goal.encode_batch-requires-clause-batch
encode_batch-requires-clause-batch g c =
    let h = c.loop-alloc.invariant.held c.requires.held.0 c.requires.held.1 c.requires.held.2 in
    batch-of c.requires.held.0 (kids_of c.args.layouts.now) (g.R.RowSource.rows c.loop-alloc.left)
    c.len_of_batch-count.result h.layouts h.columns h.known h.sound c.len_of_batch-count.ensures.value

pub returns-in_default : goal.returns-in_default
returns-in_default g c = λ start fs all whole h0 so_far.
    let coded = g.R.RowSource.coded c.args.rows in
    let left = g.R.RowSource.rows c.loop-alloc.left in
    WrittenSoFar-memory start (g.S.Sink.sunk c.loop-alloc.sink) c.loop-alloc.written whole
    (batches coded (trees fs) (length left) left ++ end_mark) (c.loop-alloc.invariant.goes start fs all whole h0 so_far)

pub put_after-requires : goal.put_after-requires
put_after-requires g c =
    let left = g.R.RowSource.rows c.loop-alloc.left in
    let h = c.loop-alloc.invariant.held c.requires.held.0 c.requires.held.1 c.requires.held.2 in
    let some = some-left c.is_empty.result (length left) c.is_empty.ensures c.loop-alloc-test.true in
    let size = c.in-Ok.ensures.size in
    let short = h.short in
    let few = h.few in
    omega (arith, some, size, short, few)

pub returns-in_err-written : goal.returns-in_err-written
returns-in_err-written g c = λ start fs all whole h0 so_far.
    let coded = g.R.RowSource.coded c.args.rows in
    let left = g.R.RowSource.rows c.loop-alloc.left in
    let n = c.len_of_batch-count.result in
    let h = c.loop-alloc.invariant.held fs all h0 in
    let some = some-left c.is_empty.result (length left) c.is_empty.ensures c.loop-alloc-test.true in
    let value = c.len_of_batch-count.ensures.value ∙ ap (λ us. batch_len us left) h.layouts in
    let bytes = c.in-Ok.ensures.bytes
    ∙ ap (λ ks. batch_messages ks (kids_of c.args.layouts.now) (take n left)) c.loop-alloc.invariant.coded
    ∙ ap (λ us. batch_messages coded us (take n left)) h.layouts in
    let comes =
    batch-comes start (g.S.Sink.sunk c.loop-alloc.sink) c.loop-alloc.written whole fs coded left (drop n left) n
    c.in-Ok.message (c.loop-alloc.invariant.goes start fs all whole h0 so_far) some h.sound value bytes refl in
    from-err start (g.S.Sink.sunk c.put_after.new.sink) c.from_residual.result
    c.in_err-written.field-0.0 whole c.from_residual.ensures.1
    (c.in_err-written.ensures.goes start whole (batches coded (trees fs) (length (drop n left)) (drop n left) ++ end_mark)
    comes)

pub skip-requires-clause-fits : goal.skip-requires-clause-fits
skip-requires-clause-fits g c = (c.args.layouts.now, c.loop-alloc.invariant.fits)

pub loop-alloc-smaller : goal.loop-alloc-smaller
loop-alloc-smaller g c =
    let left = g.R.RowSource.rows c.loop-alloc.left in
    let n = c.len_of_batch-count.result in
    let fs = c.requires.held.0 in
    let h = c.loop-alloc.invariant.held fs c.requires.held.1 c.requires.held.2 in
    let some = some-left c.is_empty.result (length left) c.is_empty.ensures c.loop-alloc-test.true in
    let value = c.len_of_batch-count.ensures.value ∙ ap (λ us. batch_len us left) h.layouts in
    let one = batch-some fs left some h.sound in
    let behind = ap length c.skip.ensures.rows in
    let rest = length-drop n left in
    omega (arith, some, one, value, behind, rest)

pub loop-alloc-preserved : goal.loop-alloc-preserved
loop-alloc-preserved g c =
    let coded = g.R.RowSource.coded c.args.rows in
    let left = g.R.RowSource.rows c.loop-alloc.left in
    let behind = g.R.RowSource.rows c.skip.new.self in
    let n = c.len_of_batch-count.result in
    let inv = c.loop-alloc.invariant in
    let ls = c.args.layouts.now in
    let some = some-left c.is_empty.result (length left) c.is_empty.ensures c.loop-alloc-test.true in
    let size = c.in-Ok.ensures.size in
    record {
      coded = c.skip.ensures.coded ∙ inv.coded;
      fits = c.skip.ensures.fits ls inv.fits;
      held = λ fs all h0.
          held-rest fs ls all left behind c.loop-alloc.written (length c.in-Ok.message) n c.in_ok-written.written
          (inv.held fs all h0) some c.len_of_batch-count.ensures.value c.skip.ensures.rows (omega (arith, size))
          c.in_ok-written.ensures.counted;
      goes = λ start fs all whole h0 so_far.
          let h = inv.held fs all h0 in
          let value = c.len_of_batch-count.ensures.value ∙ ap (λ us. batch_len us left) h.layouts in
          let bytes = c.in-Ok.ensures.bytes
          ∙ ap (λ ks. batch_messages ks (kids_of ls) (take n left)) inv.coded
          ∙ ap (λ us. batch_messages coded us (take n left)) h.layouts in
          c.in_ok-written.ensures.goes start whole (batches coded (trees fs) (length behind) behind ++ end_mark)
          (batch-comes start (g.S.Sink.sunk c.loop-alloc.sink) c.loop-alloc.written whole fs coded left behind n
          c.in-Ok.message (inv.goes start fs all whole h0 so_far) some h.sound value bytes c.skip.ensures.rows);
    }

pub returns : goal.returns
returns g c = λ start fs all whole h0 so_far.
    let coded = g.R.RowSource.coded c.args.rows in
    let left = g.R.RowSource.rows c.loop-alloc.left in
    let none = none-left c.is_empty.result (length left) c.is_empty.ensures c.loop-alloc-test.false in
    let comes =
    end-comes start (g.S.Sink.sunk c.loop-alloc.sink) c.loop-alloc.written whole coded (trees fs) left
    (c.loop-alloc.invariant.goes start fs all whole h0 so_far) none in
    last-put start (g.S.Sink.sunk c.put_after-2.new.sink) c.put_after-2.result whole
    (c.put_after-2.ensures.goes start whole [] comes)
