use Rattle.std.proofs.Common.{◌+◌, refl}
use Rattle.group_state.proofs.Moves.{total-in}
use Rattle.group_state.proofs.total.Total.take_in.Goals as goal

pub returns : goal.returns
returns c = λ rest moved k l.
    total-in c.args.self.now c.args.other.now
    (record { filled = c.args.self.now.filled + c.args.other.now.filled; total = c.raise.new.total }) rest moved refl c.raise.ensures k l
