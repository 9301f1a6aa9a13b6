use Rattle.std.proofs.Common.{◌≡◌, ◌+◌, ◌-◌, ap, arith, length, ◌∙◌}
use Rattle.row_keys.specs.Numbers.{revived}
use Rattle.row_keys.proofs.LastRows.{from, revive_this, revived_none, revived_this}
use Rattle.row_keys.proofs.turning.revive_from.Goals as goal

pub revive-requires : goal.revive-requires
revive-requires c =
    let one : c.loop-left.left ≡ (c.loop-left.left - 1) + 1 = omega (arith, c.loop-left-test.true) in
    revive_this c.args.first (c.loop-left.left - 1) (length c.args.rows.now) c.loop-left.rows c.args.rows.now
    (omega (arith, c.loop-left-test.true)) (omega (arith, c.loop-left-test.true, c.loop-left.invariant.1))
    (c.loop-left.invariant.0 ∙ ap (λ k. revived (from k (length c.args.rows.now)) c.args.rows.now) one)
    c.loop-left.invariant.3

pub loop-left-init : goal.loop-left-init
loop-left-init c = rw c.len-left.ensures.value (
  revived_none (length c.args.rows.now) c.args.rows.now,
  omega arith,
  c.requires.within,
  c.requires.retracted,
)

pub loop-left-preserved : goal.loop-left-preserved
loop-left-preserved c =
    let one : c.loop-left.left ≡ (c.loop-left.left - 1) + 1 = omega (arith, c.loop-left-test.true) in (
      revived_this (c.loop-left.left - 1) (length c.args.rows.now) c.loop-left.rows c.revive.new.self c.args.rows.now
          (omega (arith, c.loop-left-test.true, c.loop-left.invariant.1))
          (c.loop-left.invariant.0 ∙ ap (λ k. revived (from k (length c.args.rows.now)) c.args.rows.now) one)
          c.revive.ensures,
      omega (arith, c.loop-left-test.true, c.loop-left.invariant.1),
      omega (arith, c.loop-left-test.true),
      c.loop-left.invariant.3,
    )

pub returns : goal.returns
returns c =
    let same : c.loop-left.left ≡ c.args.first = omega (arith, c.loop-left-test.false, c.loop-left.invariant.2) in
    c.loop-left.invariant.0 ∙ ap (λ k. revived (from k (length c.args.rows.now)) c.args.rows.now) same
