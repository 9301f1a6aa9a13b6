use Rattle.std.proofs.Common.{◌∙◌, ◌++◌, List, length, ap, take, drop, arith, length-drop, refl, subst}
use Rattle.values.specs.Datum.{Datum}
use Rattle.values.specs.Rose.{kids_of}
use Rattle.stream_writer.specs.Progress.{HasPut, IsHeld, last_rows}
use Rattle.stream_writer.specs.Stream.{batch_len, batch_messages, batches, coded_canon, end_mark, trees}
use Rattle.stream_writer.proofs.Cut.{batch-of, batch-some, batch_len-within, light-of, sound-left}
use Rattle.stream_writer.proofs.ClosedBatchLemmas.{closed-some}
use Rattle.stream_writer.proofs.ProgressLemmas.{
  closed-comes,
  closed-is,
  gone-more,
  gone-none,
  held-after,
  last-as,
  last-few,
  open-is,
  stops-err,
  stops-memory,
}
use Rattle.stream_writer.proofs.progress.put_closed.Goals as goal

pub loop-alloc-init : goal.loop-alloc-init
loop-alloc-init g c = record {
  coded = refl;
  fits = c.requires.fits;
  counted = c.len_of_batch-count.ensures.value;
  held = λ fs rows h. h;
  last = gone-none (g.R.RowSource.rows c.args.rows);
  goes = λ start fs rows h put. put;
}

pub len-requires : goal.len-requires
len-requires g c = (c.args.layouts.now, c.loop-alloc.invariant.fits)

pub encode_batch-requires-clause-fits : goal.encode_batch-requires-clause-fits
encode_batch-requires-clause-fits g c = c.loop-alloc.invariant.fits

pub encode_batch-requires-clause-within : goal.encode_batch-requires-clause-within
encode_batch-requires-clause-within g c =
    let counted = c.loop-alloc.invariant.counted in
    let within = (batch_len-within (kids_of c.args.layouts.now) (g.R.RowSource.rows c.loop-alloc.left)).0 in
    omega (arith, counted, within)

pub encode_batch-requires-clause-batch : goal.encode_batch-requires-clause-batch
encode_batch-requires-clause-batch g c =
    let fs = c.requires.held.0 in
    let h = c.loop-alloc.invariant.held fs c.requires.held.1 c.requires.held.2 in
    batch-of fs (kids_of c.args.layouts.now) (g.R.RowSource.rows c.loop-alloc.left) c.loop-alloc.count h.layouts
    h.columns h.known h.sound c.loop-alloc.invariant.counted

pub returns-in_default-clause-goes : goal.returns-in_default-clause-goes
returns-in_default-clause-goes g c = λ start fs rows h put.
    stops-memory start (g.S.Sink.sunk c.loop-alloc.sink) c.loop-alloc.written fs
    (g.R.RowSource.coded c.args.rows) rows (g.R.RowSource.rows c.loop-alloc.left) (c.loop-alloc.invariant.goes start fs rows h put)

pub put_after-requires : goal.put_after-requires
put_after-requires g c =
    let fs = c.requires.held.0 in
    let left = g.R.RowSource.rows c.loop-alloc.left in
    let h = c.loop-alloc.invariant.held fs c.requires.held.1 c.requires.held.2 in
    let closed = closed-is fs (kids_of c.args.layouts.now) left c.loop-alloc.count c.len.result c.is_closed.result
    h.layouts c.loop-alloc.invariant.counted c.len.ensures c.is_closed.ensures c.loop-alloc-test.true in
    let some = closed-some (trees fs) left closed in
    let size = c.in-Ok.ensures.size in
    let short = h.short in
    omega (arith, some, size, short)

pub returns-in_err-written-clause-goes : goal.returns-in_err-written-clause-goes
returns-in_err-written-clause-goes g c = λ start fs rows h0 put.
    let coded = g.R.RowSource.coded c.args.rows in
    let left = g.R.RowSource.rows c.loop-alloc.left in
    let inv = c.loop-alloc.invariant in
    let h = inv.held fs rows h0 in
    let n = c.loop-alloc.count in
    let now = g.S.Sink.sunk c.loop-alloc.sink in
    let new = g.S.Sink.sunk c.put_after.new.sink in
    let closed = closed-is fs (kids_of c.args.layouts.now) left n c.len.result c.is_closed.result
    h.layouts inv.counted c.len.ensures c.is_closed.ensures c.loop-alloc-test.true in
    let value = inv.counted ∙ ap (λ us. batch_len us left) h.layouts in
    let bytes = c.in-Ok.ensures.bytes
    ∙ ap (λ ks. batch_messages ks (kids_of c.args.layouts.now) (take n left)) inv.coded
    ∙ ap (λ us. batch_messages coded us (take n left)) h.layouts in
    stops-err c.from_residual.result c.in_err-written.field-0.0
    (λ p. HasPut start new p.written fs coded rows (last_rows p.left (g.R.RowSource.rows c.args.rows))) start new fs
    coded rows
    c.from_residual.ensures.1
    (λ more later. c.in_err-written.ensures.goes start (coded_canon fs coded (rows ++ more))
    (batches coded (trees fs) (length (drop n left ++ more)) (drop n left ++ more) ++ end_mark)
    (closed-comes start now c.loop-alloc.written fs coded rows left (drop n left) n c.in-Ok.message
    (inv.goes start fs rows h0 put) closed h.sound value bytes refl more later))

pub skip-requires-clause-fits : goal.skip-requires-clause-fits
skip-requires-clause-fits g c = (c.args.layouts.now, c.loop-alloc.invariant.fits)

pub skip-requires-clause-within : goal.skip-requires-clause-within
skip-requires-clause-within g c =
    let counted = c.loop-alloc.invariant.counted in
    let within = (batch_len-within (kids_of c.args.layouts.now) (g.R.RowSource.rows c.loop-alloc.left)).0 in
    omega (arith, counted, within)

pub len_of_batch-count-requires-in-loop-alloc-clause-fits : goal.len_of_batch-count-requires-in-loop-alloc-clause-fits
len_of_batch-count-requires-in-loop-alloc-clause-fits g c =
    c.skip.ensures.fits c.args.layouts.now c.loop-alloc.invariant.fits

pub len_of_batch-count-requires-in-loop-alloc-clause-light : goal.len_of_batch-count-requires-in-loop-alloc-clause-light
len_of_batch-count-requires-in-loop-alloc-clause-light g c =
    let fs = c.requires.held.0 in
    let left = g.R.RowSource.rows c.loop-alloc.left in
    let behind = g.R.RowSource.rows c.skip.new.self in
    let h = c.loop-alloc.invariant.held fs c.requires.held.1 c.requires.held.2 in
    light-of fs (kids_of c.args.layouts.now) behind h.layouts
    (sound-left fs left behind c.loop-alloc.count c.skip.ensures.rows h.sound)

pub loop-alloc-smaller : goal.loop-alloc-smaller
loop-alloc-smaller g c =
    let fs = c.requires.held.0 in
    let left = g.R.RowSource.rows c.loop-alloc.left in
    let inv = c.loop-alloc.invariant in
    let h = inv.held fs c.requires.held.1 c.requires.held.2 in
    let n = c.loop-alloc.count in
    let closed = closed-is fs (kids_of c.args.layouts.now) left n c.len.result c.is_closed.result
    h.layouts inv.counted c.len.ensures c.is_closed.ensures c.loop-alloc-test.true in
    let some = closed-some (trees fs) left closed in
    let one = batch-some fs left some h.sound in
    let value = inv.counted ∙ ap (λ us. batch_len us left) h.layouts in
    let behind = ap length c.skip.ensures.rows in
    let rest = length-drop n left in
    omega (arith, some, one, value, behind, rest)

pub loop-alloc-preserved : goal.loop-alloc-preserved
loop-alloc-preserved g c =
    let coded = g.R.RowSource.coded c.args.rows in
    let left = g.R.RowSource.rows c.loop-alloc.left in
    let behind = g.R.RowSource.rows c.skip.new.self in
    let inv = c.loop-alloc.invariant in
    let n = c.loop-alloc.count in
    let now = g.S.Sink.sunk c.loop-alloc.sink in
    let ls = c.args.layouts.now in
    let size = c.in-Ok.ensures.size in
    record {
      coded = c.skip.ensures.coded ∙ inv.coded;
      fits = c.skip.ensures.fits ls inv.fits;
      counted = c.len_of_batch-count-in-loop-alloc.ensures.value;
      held = λ fs rows h0.
          let h = inv.held fs rows h0 in
          let closed = closed-is fs (kids_of ls) left n c.len.result c.is_closed.result h.layouts inv.counted
          c.len.ensures c.is_closed.ensures c.loop-alloc-test.true in
          held-after fs ls rows left behind c.loop-alloc.written (length c.in-Ok.message) n c.in_ok-written.written h
          closed inv.counted c.skip.ensures.rows (omega (arith, size)) c.in_ok-written.ensures.counted;
      last = gone-more (g.R.RowSource.rows c.args.rows) left behind n inv.last c.skip.ensures.rows
          (let counted = inv.counted in let within = (batch_len-within (kids_of ls) left).0 in
          omega (arith, counted, within));
      goes = λ start fs rows h0 put more later.
          let h = inv.held fs rows h0 in
          let closed = closed-is fs (kids_of ls) left n c.len.result c.is_closed.result h.layouts inv.counted
          c.len.ensures c.is_closed.ensures c.loop-alloc-test.true in
          let value = inv.counted ∙ ap (λ us. batch_len us left) h.layouts in
          let bytes = c.in-Ok.ensures.bytes
          ∙ ap (λ ks. batch_messages ks (kids_of c.args.layouts.now) (take n left)) inv.coded
          ∙ ap (λ us. batch_messages coded us (take n left)) h.layouts in
          c.in_ok-written.ensures.goes start (coded_canon fs coded (rows ++ more))
          (batches coded (trees fs) (length (behind ++ more)) (behind ++ more) ++ end_mark)
          (closed-comes start now c.loop-alloc.written fs coded rows left behind n c.in-Ok.message
          (inv.goes start fs rows h0 put) closed h.sound value bytes c.skip.ensures.rows more later);
    }

pub len-requires-2 : goal.len-requires-2
len-requires-2 g c = (c.args.layouts.now, c.loop-alloc.invariant.fits)

pub returns-clause-few : goal.returns-clause-few
returns-clause-few g c =
    let few =
    open-is (kids_of c.args.layouts.now) (g.R.RowSource.rows c.loop-alloc.left) c.loop-alloc.count c.len.result
    c.is_closed.result c.loop-alloc.invariant.counted c.len.ensures c.is_closed.ensures c.loop-alloc-test.false in
    let size = c.len-2.ensures in
    omega (arith, few, size)

pub returns-clause-within : goal.returns-clause-within
returns-clause-within g c =
    let few = last-few (g.R.RowSource.rows c.args.rows) (g.R.RowSource.rows c.loop-alloc.left) c.loop-alloc.invariant.last in
    let size = c.len-2.ensures in
    omega (arith, few, size)

pub returns-clause-held : goal.returns-clause-held
returns-clause-held g c = λ fs rows h.
    let P : List (List Datum) → Type 0 = λ rs. IsHeld fs c.args.layouts.now rows rs c.loop-alloc.written in
    subst P (last-as (g.R.RowSource.rows c.args.rows) (g.R.RowSource.rows c.loop-alloc.left) c.len-2.result
    c.loop-alloc.invariant.last c.len-2.ensures) (c.loop-alloc.invariant.held fs rows h)

pub returns-clause-goes : goal.returns-clause-goes
returns-clause-goes g c = λ start fs rows h put.
    let P : List (List Datum) → Type 0 =
    λ rs. HasPut start (g.S.Sink.sunk c.loop-alloc.sink) c.loop-alloc.written fs (g.R.RowSource.coded c.args.rows) rows rs in
    subst P (last-as (g.R.RowSource.rows c.args.rows) (g.R.RowSource.rows c.loop-alloc.left) c.len-2.result
    c.loop-alloc.invariant.last c.len-2.ensures) (c.loop-alloc.invariant.goes start fs rows h put)
