use Rattle.std.proofs.Common.{arith, sym, ◌∙◌}
use Rattle.array_layout.proofs.OffsetLemmas.{are_fit, room_by}
use Rattle.array_layout.proofs.check.check_offsets.Goals as goal

pub returns-then-last-limit-clause-fit : goal.returns-then-last-limit-clause-fit
returns-then-last-limit-clause-fit c =
    λ some. are_fit _ _ _ _ (room_by _ _ _ _ c.bytes-bytes.ensures (omega (arith, c.if-offsets-bytes.false)))
    (sym c.rises.ensures ∙ c.if-rises.true) (omega (arith, c.offset-last.ensures, c.if-last-limit.true))
