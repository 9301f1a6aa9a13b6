use Rattle.std.proofs.Common.{arith, ap, sym, ◌++◌, ◌∙◌, ◌∷◌, [], take}
use Rattle.std.proofs.lemmas.List.{take_more}
use Rattle.std.proofs.lemmas.Option.{get_or_from_slice_get}
use Rattle.values.specs.Datum.{null}
use Rattle.upkeep.proofs.arrivals.cells_of.Goals as goal

pub loop-i-preserved : goal.loop-i-preserved
loop-i-preserved c =
    c.in_ok-push.ensures.items ∙ ap (λ ds. ds ++ c.in_ok-cell.cell ∷ []) c.loop-i.invariant
    ∙ ap (λ d. take c.loop-i.i c.args.column.now.cells ++ d ∷ [])
    (sym (get_or_from_slice_get c.args.column.now.cells c.loop-i.i c.in_ok-cell.cell null c.in_ok-cell.ensures.value))
    ∙ sym (take_more c.args.column.now.cells c.loop-i.i null
    (omega (arith, c.loop-i-test.true, c.len-i-end.ensures)))
