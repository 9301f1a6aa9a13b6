use Rattle.std.proofs.Common.{◌≡◌, ◌+◌, ◌-◌, ap, arith, drop, ◌∙◌, sym}
use Rattle.std.proofs.lemmas.Option.{get_or_from_slice_get, slice_get-get_or}
use Rattle.row_keys.specs.Numbers.{revived}
use Rattle.row_keys.proofs.TurnedRows.{revive_next}
use Rattle.row_keys.proofs.turning.revive_all.Goals as goal

pub revive-requires : goal.revive-requires
revive-requires c =
    let one : c.loop-left.left ≡ (c.loop-left.left - 1) + 1 = omega (arith, c.loop-left-test.true) in
    revive_next c.args.numbers.now (c.loop-left.left - 1) _ c.loop-left.rows c.args.rows.now
    (sym (get_or_from_slice_get c.args.numbers.now (c.loop-left.left - 1) _ _
    (slice_get-get_or c.args.numbers.now (c.loop-left.left - 1) 0
    (omega (arith, c.loop-left-test.true, c.loop-left.invariant.1)))))
    (omega (arith, c.loop-left-test.true, c.loop-left.invariant.1))
    (c.loop-left.invariant.0 ∙ ap (λ n. revived (drop n c.args.numbers.now) c.args.rows.now) one)
    c.loop-left.invariant.2
