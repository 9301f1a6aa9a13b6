use Rattle.std.proofs.Common.{◌≤◌, ◌*◌, ◌-◌, arith, refl, rules, sym, ◌∙◌}
use Rattle.std.proofs.Math.Nat.{mul-le-mul_left}
use Rattle.values.specs.Rose.{node, kids_of}
use Rattle.array_layout.specs.Cells.{cell}
use Rattle.array_layout.specs.Placing.{bytes_of}
use Rattle.body_writer.specs.Runs.{slot_bytes}
use Rattle.body_writer.proofs.CopiedSlots.{IsCleared, cleared-kept, cleared-next, copied-end, copied-kept, copied-next, run-size}
use Rattle.body_writer.proofs.RunLemmas.{run-step, run-over}
use Rattle.body_writer.proofs.SlotLemmas.{slots-null, slots-valid, slots-room}
use Rattle.body_writer.proofs.from_columns.slot_runs.push_slots.Goals as goal
use Rattle.body_writer.proofs.from_columns.slot_runs.push_slots.Goals.{then-is_null_at, else-is_null_at}

pub clear-requires : goal.clear-requires
clear-requires c =
    let inv = c.loop-at.invariant in
    let run = c.run_end-end.ensures in
    let w = c.slot_width-width.result in
    let p = c.args.range.now.parts in
    let up : c.loop-at.at ≤ c.run_end-end.result = omega (arith, run.past) in
    let room =
    slots-room p.body.now (bytes_of p.body.now p.own.now.values) p.own.now (kids_of p.children.now) w c.args.range.now.to
    refl c.slot_width-width.ensures c.requires.checked.sound c.requires.checked.within in
    (copied-next _ c.loop-at.out.items c.loop-at.place (w * c.loop-at.at) (w * c.run_end-end.result)
    (w * c.args.range.now.to) _ (mul-le-mul_left w up) (mul-le-mul_left w run.within) room
    (run-size w c.loop-at.at c.run_end-end.result up) inv.copied).within

pub loop-at-preserved : goal.loop-at-preserved
loop-at-preserved c =
    let inv = c.loop-at.invariant in
    let run = c.run_end-end.ensures in
    let parts = c.args.range.now.parts in
    let kids = kids_of parts.children.now in
    let w = c.slot_width-width.result in
    let xs = bytes_of parts.body.now parts.own.now.values in
    let cells = cell parts.body.now (node parts.own.now kids) in
    let up : c.loop-at.at ≤ c.run_end-end.result = omega (arith, run.past) in
    let inside : c.run_end-end.result ≤ parts.own.now.len = omega (arith, run.within, c.requires.checked.within) in
    let room =
    slots-room parts.body.now xs parts.own.now kids w c.args.range.now.to refl c.slot_width-width.ensures
    c.requires.checked.sound c.requires.checked.within in
    let low = mul-le-mul_left w up in
    let high = mul-le-mul_left w run.within in
    let size = run-size w c.loop-at.at c.run_end-end.result up in
    elim c.if-is_null_at.branch [
      | then-is_null_at t ↦
          let new = t.clear.new.bytes.items in
          let cleared : IsCleared c.loop-at.out.items new c.loop-at.place (w * (c.run_end-end.result - c.loop-at.at)) =
          record {
            within = (copied-next xs c.loop-at.out.items c.loop-at.place (w * c.loop-at.at)
                (w * c.run_end-end.result) (w * c.args.range.now.to) _ low high room size inv.copied).within;
            bytes = t.clear.ensures;
          } in
          let chunk =
          slots-null parts.body.now c.buffer-bits.result.now parts.own.now kids w c.loop-at.at c.run_end-end.result
          c.buffer-bits.ensures c.slot_width-width.ensures up (sym c.is_null_at.ensures ∙ t.if-is_null_at.true) run.same in
          rw t.out-is (record {
            past = omega (arith, inv.past, run.past);
            order = run.within;
            copied = cleared-next xs c.loop-at.out.items new c.loop-at.place (w * c.loop-at.at)
                (w * c.run_end-end.result) (w * c.args.range.now.to) _ low high room size inv.copied cleared;
            bytes = run-step (slot_bytes parts.own.now.layout) cells c.loop-at.at c.run_end-end.result
                c.args.range.now.to _ _ _ _ up run.within chunk
                (cleared-kept c.loop-at.out.items new c.loop-at.place _ cleared) inv.bytes;
          })
      | else-is_null_at e ↦
          let long = slots-room parts.body.now xs parts.own.now kids w c.run_end-end.result refl
          c.slot_width-width.ensures c.requires.checked.sound inside in
          let chunk =
          slots-valid parts.body.now c.buffer-bits.result.now xs parts.own.now kids w c.loop-at.at
          c.run_end-end.result c.buffer-bits.ensures refl c.slot_width-width.ensures up inside c.requires.plain
          (λ k lo hi. c.requires.checked.valid k (omega (arith, inv.past, lo)) (omega (arith, hi, run.within)))
          (search rules) long (sym c.is_null_at.ensures ∙ e.if-is_null_at.false) run.same in
          rw e.out-is (record {
            past = omega (arith, inv.past, run.past);
            order = run.within;
            copied = copied-next xs c.loop-at.out.items c.loop-at.place (w * c.loop-at.at) (w * c.run_end-end.result)
                (w * c.args.range.now.to) _ low high room size inv.copied;
            bytes = run-step (slot_bytes parts.own.now.layout) cells c.loop-at.at c.run_end-end.result
                c.args.range.now.to _ _ _ _ up run.within chunk
                (copied-kept xs c.loop-at.out.items c.loop-at.place (w * c.loop-at.at) (w * c.run_end-end.result)
                (w * c.args.range.now.to) _ low high size inv.copied) inv.bytes;
          })
    ]

pub returns : goal.returns
returns c =
    let inv = c.loop-at.invariant in
    let parts = c.args.range.now.parts in
    let w = c.slot_width-width.result in
    let xs = bytes_of parts.body.now parts.own.now.values in
    let room =
    slots-room parts.body.now xs parts.own.now (kids_of parts.children.now) w c.args.range.now.to refl
    c.slot_width-width.ensures c.requires.checked.sound c.requires.checked.within in
    sym (copied-end xs c.loop-at.out.items c.loop-at.place (w * c.loop-at.at) (w * c.args.range.now.to)
    (mul-le-mul_left w c.loop-at-test.false) room inv.copied)
    ∙ run-over (slot_bytes parts.own.now.layout) (cell parts.body.now (node parts.own.now (kids_of parts.children.now)))
    c.loop-at.at c.args.range.now.to _ _ c.loop-at-test.false inv.bytes
