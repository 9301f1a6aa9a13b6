use Rattle.std.proofs.Common.{rules, ap, sym, ◌∙◌, arith}
use Rattle.values.specs.Rose.{kids_of}
use Rattle.array_layout.specs.Buffers.{is_null}
use Rattle.body_writer.proofs.ChildLemmas.{part-run, null-parts}
use Rattle.body_writer.proofs.from_columns.children.run_part.Goals as goal

pub returns-then-is_null_at-clause-cells : goal.returns-then-is_null_at-clause-cells
returns-then-is_null_at-clause-cells c =
    let parts = c.args.range.now.parts in
    null-parts c.args.j parts.body.now parts.own.now (kids_of parts.children.now) c.args.at c.args.end (omega (
      arith,
      c.requires.order,
    ))
    (ap (λ ys. is_null ys c.args.at) (sym c.buffer.ensures) ∙ search rules) c.requires.alike

pub array_slots-requires-clause-sound : goal.array_slots-requires-clause-sound
array_slots-requires-clause-sound c =
    let run =
    part-run c.args.range.now c.args.j c.child_at.result.now c.args.at c.args.end c.buffer.result.now
    c.requires.structs c.requires.start
    c.requires.order c.requires.within c.buffer.ensures (search rules) c.requires.alike c.child_at.ensures in
    run.sound

pub array_slots-requires-clause-valid : goal.array_slots-requires-clause-valid
array_slots-requires-clause-valid c = λ k lo hi.
    let run =
    part-run c.args.range.now c.args.j c.child_at.result.now c.args.at c.args.end c.buffer.result.now
    c.requires.structs c.requires.start
    c.requires.order c.requires.within c.buffer.ensures (search rules) c.requires.alike c.child_at.ensures in
    run.valid k lo hi

pub array_slots-requires-clause-within : goal.array_slots-requires-clause-within
array_slots-requires-clause-within c =
    let run =
    part-run c.args.range.now c.args.j c.child_at.result.now c.args.at c.args.end c.buffer.result.now
    c.requires.structs c.requires.start
    c.requires.order c.requires.within c.buffer.ensures (search rules) c.requires.alike c.child_at.ensures in
    run.within

pub returns-clause-cells : goal.returns-clause-cells
returns-clause-cells c =
    let run =
    part-run c.args.range.now c.args.j c.child_at.result.now c.args.at c.args.end c.buffer.result.now
    c.requires.structs c.requires.start
    c.requires.order c.requires.within c.buffer.ensures (search rules) c.requires.alike c.child_at.ensures in
    c.array_slots.ensures.cells
    ∙ run.cells

pub returns-clause-lies : goal.returns-clause-lies
returns-clause-lies c = λ t m lies. c.array_slots.ensures.lies t m (lies c.child_at.result.now c.child_at.ensures)
