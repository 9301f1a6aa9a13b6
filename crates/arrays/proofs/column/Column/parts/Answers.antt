use Rattle.std.proofs.Common.{◌∙◌, ap}
use Rattle.arrays.proofs.ColumnCells.{parts-sound, parts-cells}
use Rattle.arrays.proofs.column.Column.parts.Goals as goal

pub returns-clause-sound : goal.returns-clause-sound
returns-clause-sound c =
    parts-sound _ _ c.self.inside.root _ (c.parts_of.ensures.body ∙ c.deref-2.ensures.value
    ∙ ap (λ v. v.items) c.deref.ensures) c.parts_of.ensures.array c.self.invariant.0

pub returns-clause-cells : goal.returns-clause-cells
returns-clause-cells c =
    parts-cells _ _ c.self.inside.root _ _ (c.parts_of.ensures.body ∙ c.deref-2.ensures.value
    ∙ ap (λ v. v.items) c.deref.ensures) c.parts_of.ensures.array (ap (λ x. x.cells) c.self.view_is)
    c.self.invariant.1
