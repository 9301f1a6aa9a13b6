use Rattle.std.proofs.Common.{◌∙◌, ap}
use Rattle.arrays.proofs.BoundLemmas.{column_bounded}
use Rattle.arrays.proofs.column.Column.weight_bound.Goals as goal

pub returns-clause-each : goal.returns-clause-each
returns-clause-each c = λ small.
    column_bounded c.weight_bound.result _ _ c.self.inside.root c.args.self.now.layouts c.args.self.now.cells
    (c.deref-2.ensures.value ∙ ap (λ v. v.items) c.deref.ensures) (ap (λ x. x.layouts) c.self.view_is)
    (ap (λ x. x.cells) c.self.view_is) c.self.invariant.0 c.self.invariant.1 c.weight_bound.ensures.value small
