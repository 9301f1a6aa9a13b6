use Rattle.std.proofs.Common.{arith}
use Rattle.arrays.proofs.TypeLemmas.{read_holds}
use Rattle.arrays.proofs.column.read_cell.Goals as goal

pub returns-clause-typed : goal.returns-clause-typed
returns-clause-typed c =
    read_holds c.read.result c.args.body.now c.args.array.now c.args.i c.requires.dictionary
    (λ i. let byte = c.type_inv.body i in omega (arith, byte)) c.requires.sound c.requires.below
    c.read.ensures
