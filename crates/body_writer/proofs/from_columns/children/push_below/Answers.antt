use Rattle.std.proofs.Common.{◌≡◌, ◌++◌, ℕ, OnOk, All, sym, subst}
use Rattle.values.specs.Rose.{Rose}
use Rattle.values.specs.declared.layout.Layout.{Layout}
use Rattle.array_layout.specs.declared.array.ArrayData.{ArrayData}
use Rattle.body_writer.specs.Columns.{items, child_cells}
use Rattle.body_writer.specs.Segments.{ChildLies, LiesAs, range_cells, segments_cells}
use Rattle.body_writer.proofs.ChildLemmas.{first-only}
use Rattle.body_writer.proofs.from_columns.children.push_below.Goals as goal

pub returns-in-List-clause-cells : goal.returns-in-List-clause-cells
unfolding items
returns-in-List-clause-cells c =
    let P : Layout → Type 0 = λ l. OnOk c.push_items.result
    (segments_cells c.push_items.new.all.items ≡ segments_cells c.args.all.now.items ++ child_cells l c.args.j (range_cells
    c.args.range.now)) in
    subst P (sym c.in-List.is) c.push_items.ensures.cells

pub returns-in-List-clause-lies : goal.returns-in-List-clause-lies
returns-in-List-clause-lies c =
    let P : ℕ → Type 0 = λ j. OnOk c.push_items.result
    ((t : Rose Layout) (m : Rose ArrayData) → ChildLies t m j c.args.range.now → All (LiesAs t m) c.args.all.now.items
    → All (LiesAs t m) c.push_items.new.all.items) in
    subst P (first-only c.args.layout c.in-List.offsets c.args.j c.args.range.now c.requires c.in-List.is)
    c.push_items.ensures.lies
