-- The count of fields, in the form that a loop shows.
use Rattle.std.proofs.Common.{◌≡◌, ℕ, zero, suc, ◌+◌, ◌-◌, ◌<◌, ◌≤◌, refl, arith}
use Rattle.flatbuf.specs.Layout.{Vector}
use Rattle.schema_meta.specs.Totals.{sum_from, total, total_at}

pub sum_step : (f : ℕ → ℕ) (i n : ℕ) → i < n → sum_from f i (n - i) ≡ f i + sum_from f (i + 1) (n - (i + 1))
unfolding sum_from
sum_step f i n h = let k : n - i ≡ suc (n - (i + 1)) = omega arith in rw k refl

pub sum_end : (f : ℕ → ℕ) (i n : ℕ) → n ≤ i → sum_from f i (n - i) ≡ 0
unfolding sum_from
sum_end f i n h = let k : n - i ≡ 0 = omega arith in rw k refl

pub total_step :
    (depth : ℕ) (v : Vector) → 0 < depth
    → total depth v ≡ v.count + sum_from (total_at (total (depth - 1)) v) 0 (v.count - 0)
unfolding total
total_step zero v h = absurd (omega arith)
total_step (suc depth) v h =
    let k : suc depth - 1 ≡ depth = omega arith in let j : v.count - 0 ≡ v.count = omega arith in rw (k, j) refl

pub total_end : (depth : ℕ) (v : Vector) → depth ≡ 0 → total depth v ≡ 0
unfolding total
total_end depth v h = rw h refl

pub ruleset sums = (sum_step, sum_end, total_step, total_end)
