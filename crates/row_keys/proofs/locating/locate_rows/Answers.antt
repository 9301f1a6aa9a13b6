use Rattle.row_keys.proofs.LocatedRows.{all_placed, rows_located}
use Rattle.row_keys.proofs.locating.locate_rows.Goals as goal

pub returns-clause-rows : goal.returns-clause-rows
returns-clause-rows c =
    rows_located c.args.chunks.now c.in_ok-batches.batches.items c.args.numbers.now c.in_ok-locations.locations.items
    c.in_ok-batches.ensures c.in_ok-locations.ensures c.requires.kept

pub returns-clause-placed : goal.returns-clause-placed
returns-clause-placed c = λ w wide.
    all_placed c.args.chunks.now c.in_ok-batches.batches.items c.args.numbers.now c.in_ok-locations.locations.items w
    c.in_ok-batches.ensures c.in_ok-locations.ensures c.requires.kept wide
