use Rattle.std.proofs.Common.{arith}
use Rattle.arrays.proofs.HeldCells.{cells_held}
use Rattle.arrays.proofs.column.cells_law.Goals as goal

pub returns : goal.returns
returns c =
    cells_held c.args.body.now c.args.array.now c.requires.dictionary
    (λ i. let byte = c.type_inv.body i in omega (arith, byte)) c.requires.sound c.requires.valid
