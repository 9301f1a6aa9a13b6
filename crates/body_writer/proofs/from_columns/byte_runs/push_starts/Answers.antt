use Rattle.std.proofs.Common.{arith}
use Rattle.values.specs.Rose.{node, kids_of}
use Rattle.array_layout.specs.Cells.{cell}
use Rattle.body_writer.proofs.ByteLemmas.{stands-of, text-length, starts-step, end-step, starts-over, end-over}
use Rattle.body_writer.proofs.from_columns.byte_runs.push_starts.Goals as goal

pub slot_len-requires-clause-room : goal.slot_len-requires-clause-room
slot_len-requires-clause-room c =
    (stands-of c.args.range.now.parts.body.now c.buffer-offsets.result.now c.args.range.now.parts.own.now (kids_of
    c.args.range.now.parts.children.now)
    c.args.range.now.offsets c.loop-i.i c.buffer-offsets.ensures c.requires.layout c.requires.checked.sound
    (omega (arith, c.loop-i-test.true, c.requires.checked.within))).room

pub slot_len-requires-clause-rising : goal.slot_len-requires-clause-rising
slot_len-requires-clause-rising c =
    (stands-of c.args.range.now.parts.body.now c.buffer-offsets.result.now c.args.range.now.parts.own.now (kids_of
    c.args.range.now.parts.children.now)
    c.args.range.now.offsets c.loop-i.i c.buffer-offsets.ensures c.requires.layout c.requires.checked.sound
    (omega (arith, c.loop-i-test.true, c.requires.checked.within))).rising

pub loop-i-preserved : goal.loop-i-preserved
loop-i-preserved c =
    let p = c.args.range.now.parts.own.now in
    let kids = kids_of c.args.range.now.parts.children.now in
    let at = cell c.args.range.now.parts.body.now (node p kids) in
    let len = text-length c.args.range.now.parts.body.now c.buffer-bits.result.now c.buffer-offsets.result.now p kids
    c.args.range.now.offsets c.loop-i.i c.slot_len.result
    c.buffer-bits.ensures c.buffer-offsets.ensures c.requires.layout c.requires.plain c.requires.checked.sound
    (c.requires.checked.valid c.loop-i.i c.loop-i.invariant.past c.loop-i-test.true) (omega (
      arith,
      c.loop-i-test.true,
      c.requires.checked.within,
    )) c.slot_len.ensures in
    record {
      past = omega (arith, c.loop-i.invariant.past);
      end = end-step at c.loop-i.i c.args.range.now.to c.loop-i.end c.slot_len.result _ c.loop-i-test.true len
          c.loop-i.invariant.end;
      bytes = λ rest. starts-step c.args.wanted at c.loop-i.i c.args.range.now.to c.loop-i.end c.slot_len.result
          c.loop-i.out.items c.push_offset.new.out.items _ rest c.loop-i-test.true len c.in_ok-push_offset.ensures
          (c.loop-i.invariant.bytes rest);
    }

pub returns-clause-end : goal.returns-clause-end
returns-clause-end c =
    end-over (cell c.args.range.now.parts.body.now (node c.args.range.now.parts.own.now (kids_of
    c.args.range.now.parts.children.now))) c.loop-i.i c.args.range.now.to c.loop-i.end _ c.loop-i-test.false
    c.loop-i.invariant.end

pub returns-clause-bytes : goal.returns-clause-bytes
returns-clause-bytes c =
    λ rest. starts-over c.args.wanted (cell c.args.range.now.parts.body.now (node c.args.range.now.parts.own.now
    (kids_of c.args.range.now.parts.children.now))) c.loop-i.i c.args.range.now.to c.loop-i.end c.loop-i.out.items
    _ rest c.loop-i-test.false (c.loop-i.invariant.bytes rest)
