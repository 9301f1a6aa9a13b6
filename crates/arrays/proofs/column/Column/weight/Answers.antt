use Rattle.std.proofs.Common.{◌∙◌, ap}
use Rattle.arrays.proofs.ColumnCells.{cell-weighed}
use Rattle.arrays.proofs.column.Column.weight.Goals as goal

pub returns : goal.returns
returns c =
    cell-weighed c.weigh.result _ _ c.self.inside.root c.args.self.now.layouts c.args.self.now.cells c.args.i
    (c.deref-2.ensures.value ∙ ap (λ v. v.items) c.deref.ensures) (ap (λ x. x.layouts) c.self.view_is)
    (ap (λ x. x.cells) c.self.view_is)
    c.self.invariant.0 c.self.invariant.1 c.requires c.weigh.ensures.value
