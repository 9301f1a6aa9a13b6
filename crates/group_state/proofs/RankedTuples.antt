-- A tuple of a lower rank comes before one of a higher.
use Rattle.std.proofs.Common.{◌≡◌, ℕ, ◌<◌, List, arith, refl}
use Rattle.std.specs.Cmp.{ranks}
use Rattle.std.specs.Ordering.{MatchOrdering, nat_cmp}
use Rattle.std.specs.declared.cmp.Ordering.{Ordering}
use Rattle.std.specs.declared.cmp.Ordering.TheVariants.{Equal, Greater, Less}
use Rattle.values.specs.declared.key.Key.{Key}
use Rattle.group_state.specs.Keys.{tuple_cmp}
use Rattle.group_state.specs.TupleKeys.{IsTupleRank}
use Rattle.group_state.proofs.TupleRanks.{unlike_tuples}

less-of : (r s : ℕ) → r < s → Less ≡ nat_cmp r s
less-of r s h = by (nat_cmp r s) (ranks r s)
  where
    by : (v : Ordering) → MatchOrdering v (r < s) (r ≡ s) (s < r) → Less ≡ v
    by Less l = refl
    by Equal l = absurd (omega (arith, h, l))
    by Greater l = absurd (omega (arith, h, l))

greater-of : (r s : ℕ) → s < r → Greater ≡ nat_cmp r s
greater-of r s h = by (nat_cmp r s) (ranks r s)
  where
    by : (v : Ordering) → MatchOrdering v (r < s) (r ≡ s) (s < r) → Greater ≡ v
    by Less l = absurd (omega (arith, h, l))
    by Equal l = absurd (omega (arith, h, l))
    by Greater l = refl

not-equal-if-less : Less ≡ Equal → ⊥
not-equal-if-less e = cc

not-equal-if-greater : Greater ≡ Equal → ⊥
not-equal-if-greater e = cc

pub before_by_rank : (xs ys : List Key) (r s : ℕ) → IsTupleRank xs r → IsTupleRank ys s → r < s
    → Less ≡ tuple_cmp xs ys
before_by_rank xs ys r s p q h = unlike_tuples xs ys r s Less p q (less-of r s h) not-equal-if-less

pub after_by_rank : (xs ys : List Key) (r s : ℕ) → IsTupleRank xs r → IsTupleRank ys s → s < r
    → Greater ≡ tuple_cmp xs ys
after_by_rank xs ys r s p q h = unlike_tuples xs ys r s Greater p q (greater-of r s h) not-equal-if-greater
