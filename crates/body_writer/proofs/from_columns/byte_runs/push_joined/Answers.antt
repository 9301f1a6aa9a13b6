use Rattle.std.proofs.Common.{◌≤◌, length, arith, rules, sym, ◌∙◌, ap, append-nil}
use Rattle.values.specs.Rose.{node, kids_of}
use Rattle.array_layout.specs.Cells.{cell}
use Rattle.body_writer.specs.Columns.{joined}
use Rattle.body_writer.specs.Slots.{bytes_in}
use Rattle.body_writer.proofs.RunLemmas.{run-step, run-over, range-long}
use Rattle.body_writer.proofs.ByteLemmas.{texts-null, texts-valid, fit-of, offsets-rise, offsets-end}
use Rattle.body_writer.proofs.from_columns.byte_runs.push_joined.Goals as goal

pub bytes_between-requires-clause-order : goal.bytes_between-requires-clause-order
bytes_between-requires-clause-order c =
    let run = c.run_end-end.ensures in
    let p = c.args.range.now.parts.own.now in
    let fit = fit-of c.args.range.now.parts.body.now c.buffer-offsets.result.now p (kids_of
    c.args.range.now.parts.children.now) c.args.range.now.offsets c.buffer-offsets.ensures c.requires.layout
    c.requires.checked.sound (omega (arith, run.past, run.within, c.requires.checked.within)) in
    offsets-rise c.args.range.now.offsets c.buffer-offsets.result.now p.len p.values.len c.loop-at.at
    c.run_end-end.result fit (omega (arith, run.past)) (omega (arith, run.within, c.requires.checked.within))

pub bytes_between-requires-clause-within : goal.bytes_between-requires-clause-within
bytes_between-requires-clause-within c =
    let run = c.run_end-end.ensures in
    let p = c.args.range.now.parts.own.now in
    let fit = fit-of c.args.range.now.parts.body.now c.buffer-offsets.result.now p (kids_of
    c.args.range.now.parts.children.now) c.args.range.now.offsets c.buffer-offsets.ensures c.requires.layout
    c.requires.checked.sound (omega (arith, run.past, run.within, c.requires.checked.within)) in
    let below = offsets-end c.args.range.now.offsets c.buffer-offsets.result.now p.len p.values.len
    c.run_end-end.result fit (omega (arith, run.past)) (omega (arith, run.within, c.requires.checked.within)) in
    let long = ap length c.buffer-values.ensures ∙ range-long c.args.range.now.parts.body.now p.values
    c.requires.checked.sound.0.own.values in
    omega (arith, below, long)

pub loop-at-preserved-in_ok-extend_from_slice : goal.loop-at-preserved-in_ok-extend_from_slice
unfolding joined
loop-at-preserved-in_ok-extend_from_slice c =
    let inv = c.loop-at.invariant in
    let run = c.run_end-end.ensures in
    let p = c.args.range.now.parts.own.now in
    let kids = kids_of c.args.range.now.parts.children.now in
    let up : c.loop-at.at ≤ c.run_end-end.result = omega (arith, run.past) in
    let chunk = texts-valid c.args.range.now.parts.body.now c.buffer-bits.result.now c.buffer-offsets.result.now
    c.buffer-values.result.now p kids c.args.range.now.offsets c.loop-at.at c.run_end-end.result
    c.buffer-bits.ensures c.buffer-offsets.ensures c.buffer-values.ensures up (omega (
      arith,
      run.within,
      c.requires.checked.within,
    )) c.requires.layout c.requires.plain c.requires.checked.sound (λ k lo hi.
    c.requires.checked.valid k (omega (arith, inv.past, lo)) (omega (arith, hi, run.within)))
    (omega (arith, run.past, run.within, c.requires.checked.within)) (search rules) run.same in
    record {
      past = omega (arith, inv.past, run.past);
      order = run.within;
      bytes = run-step bytes_in (cell c.args.range.now.parts.body.now (node p kids)) c.loop-at.at c.run_end-end.result
          c.args.range.now.to
          c.loop-at.out.items c.extend_from_slice.new.self.items _ _ up run.within chunk (search rules) inv.bytes;
    }

pub loop-at-preserved : goal.loop-at-preserved
unfolding joined
loop-at-preserved c =
    let inv = c.loop-at.invariant in
    let run = c.run_end-end.ensures in
    let p = c.args.range.now.parts.own.now in
    let kids = kids_of c.args.range.now.parts.children.now in
    let up : c.loop-at.at ≤ c.run_end-end.result = omega (arith, run.past) in
    let chunk = texts-null c.args.range.now.parts.body.now c.buffer-bits.result.now p kids c.loop-at.at
    c.run_end-end.result c.buffer-bits.ensures up (search rules) run.same in
    record {
      past = omega (arith, inv.past, run.past);
      order = run.within;
      bytes = run-step bytes_in (cell c.args.range.now.parts.body.now (node p kids)) c.loop-at.at c.run_end-end.result
          c.args.range.now.to
          c.loop-at.out.items c.loop-at.out.items _ _ up run.within chunk (sym (append-nil c.loop-at.out.items))
          inv.bytes;
    }

pub returns : goal.returns
unfolding joined
returns c =
    run-over bytes_in (cell c.args.range.now.parts.body.now (node c.args.range.now.parts.own.now (kids_of
    c.args.range.now.parts.children.now))) c.loop-at.at c.args.range.now.to
    c.loop-at.out.items _ c.loop-at-test.false c.loop-at.invariant.bytes
