use Rattle.std.proofs.Common.{ap, is_eq, ◌∙◌}
use Rattle.values.specs.CellViews.{viewed}
use Rattle.upkeep.proofs.SameCells.{plain_cell}
use Rattle.upkeep.proofs.alike.is_same_cell.Goals as goal

pub returns-in_default : goal.returns-in_default
returns-in_default c =
    c.is_eq.ensures ∙ ap is_eq c.cmp_cells.ensures
    ∙ plain_cell c.args.a (viewed c.args.b) c.in_default.not-List c.in_default.not-Struct
