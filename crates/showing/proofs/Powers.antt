-- Powers of ten that exceed 128 bits.
use Rattle.std.proofs.Common.{◌≡◌, ℕ, ◌^◌, ◌/◌, ◌<◌, ◌≤◌, arith, sym}
use Rattle.std.proofs.Math.Nat.{div-eq_of_lt, pow-le-pow_right}

pub shifted_out : (n p : ℕ) → n < 2 ^ 128 → 2 ^ 128 ≤ 10 ^ p → 0 ≡ n / 10 ^ p
shifted_out n p few many =
    let less : n < 10 ^ p = omega (arith, few, many) in sym (div-eq_of_lt less)

pub ten_some : (p : ℕ) → 0 < 10 ^ p
ten_some p =
    let some : 0 ≤ p = omega arith in
    let most : 10 ^ 0 ≤ 10 ^ p = pow-le-pow_right (omega arith) some in
    omega (arith, most)

pub ruleset shifts = (shifted_out, ten_some)
