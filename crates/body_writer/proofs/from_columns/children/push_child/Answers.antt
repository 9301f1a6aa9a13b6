use Rattle.std.proofs.Common.{OnOk, All, sym, subst}
use Rattle.std.proofs.lemmas.Result.{on_ok_weaker}
use Rattle.values.specs.Rose.{Rose}
use Rattle.values.specs.declared.layout.Layout.{Layout}
use Rattle.array_layout.specs.declared.array.ArrayData.{ArrayData}
use Rattle.body_writer.specs.Segments.{ChildLies, LiesAs, OfSlots}
use Rattle.body_writer.specs.declared.from_columns.segment.Segment.{Segment}
use Rattle.body_writer.proofs.from_columns.children.push_child.Goals as goal

pub returns-in-Slots-clause-lies : goal.returns-in-Slots-clause-lies
returns-in-Slots-clause-lies c =
    let P : Segment → Type 0 = λ p. OnOk c.push_below.result
    ((t : Rose Layout) (m : Rose ArrayData) → OfSlots (ChildLies t m c.args.j) p → All (LiesAs t m) c.args.all.now.items
    → All (LiesAs t m) c.push_below.new.all.items) in
    subst P (sym c.in-Slots.is) c.push_below.ensures.lies

pub returns-in-Nulls-clause-lies : goal.returns-in-Nulls-clause-lies
returns-in-Nulls-clause-lies c =
    on_ok_weaker c.push_below_nulls.result
    (λ (same : (t : Rose Layout) (m : Rose ArrayData) → All (LiesAs t m) c.args.all.now.items
    → All (LiesAs t m) c.push_below_nulls.new.all.items).
    λ t m below old. same t m old)
    c.push_below_nulls.ensures.lies
