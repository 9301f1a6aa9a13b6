use Rattle.group_state.proofs.Moves.{total-out}
use Rattle.group_state.proofs.total.Total.give_up.Goals as goal

pub returns : goal.returns
returns c = λ rest moved k l.
    total-out c.args.self.now c.args.other.now
    (record { filled = c.saturating_sub-self.result; total = c.lower.new.total }) rest moved c.saturating_sub-self.ensures c.lower.ensures k l
