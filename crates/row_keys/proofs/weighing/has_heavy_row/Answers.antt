use Rattle.row_keys.specs.Batches.{cells_in, layouts_in}
use Rattle.row_keys.proofs.HeavyRows.{none_heavy, some_heavy}
use Rattle.row_keys.proofs.weighing.has_heavy_row.Goals as goal

pub returns-in-Some : goal.returns-in-Some
returns-in-Some c =
    none_heavy (layouts_in c.args.columns.now) (cells_in c.args.columns.now) c.args.rows c.in-Some._most
    c.in-Some.ensures.light

pub returns-in-None : goal.returns-in-None
returns-in-None c =
    some_heavy (layouts_in c.args.columns.now) (cells_in c.args.columns.now) c.args.rows
    (c.heaviest_row.ensures.heavy c.in-None.is)
