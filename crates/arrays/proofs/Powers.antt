-- 38 digits fit in 128 bits.
use Rattle.std.proofs.Common.{ℕ, ◌^◌, ◌≤◌, ◌<◌, arith}
use Rattle.std.proofs.Math.Nat.{pow-le-pow_right}
use Rattle.values.specs.Limits.{max_precision}

pub ten_fits : (p : ℕ) → p ≤ max_precision → 10 ^ p < 2 ^ 128
ten_fits p small =
    let most : 10 ^ p ≤ 10 ^ max_precision = pow-le-pow_right (omega arith) small in
    omega (arith, most)

pub ruleset powers = (ten_fits)
