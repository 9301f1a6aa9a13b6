use Rattle.std.proofs.Common.{ap, sym, subst, ◌∙◌}
use Rattle.std.proofs.lemmas.Result.{IfOk-weaker}
use Rattle.array_layout.specs.Placing.{layout_of}
use Rattle.array_layout.specs.Typed.{IsTyped}
use Rattle.feed.proofs.cells.check_values.Goals as goal

pub check-requires-clause-dictionary : goal.check-requires-clause-dictionary
check-requires-clause-dictionary c =
    subst IsTyped (sym c.place_values-array.ensures)
    (c.place_law.ensures.values c.args.stored.now c.args.body.items c.args.header.now c.requires).1

pub returns-clause-typed : goal.returns-clause-typed
returns-clause-typed c =
    IfOk-weaker c.check.result _ _
    (λ column lies. lies ∙ ap layout_of c.place_values-array.ensures
    ∙ (c.place_law.ensures.values c.args.stored.now c.args.body.items c.args.header.now c.requires).3)
    c.check.ensures.typed
