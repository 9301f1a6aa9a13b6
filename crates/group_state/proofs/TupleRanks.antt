-- Tuples of different ranks are ordered by their ranks.
use Rattle.std.proofs.Common.{◌≡◌, ℕ, ◌<◌, List, [], ◌∷◌, ap, ap₂, ◌∙◌, arith}
use Rattle.std.specs.Cmp.{ranks}
use Rattle.std.specs.Ordering.{MatchOrdering, nat_cmp, ordering_then}
use Rattle.std.specs.Cmp.Lexicographic.{slice_cmp}
use Rattle.std.specs.declared.cmp.Ordering.{Ordering}
use Rattle.std.specs.declared.cmp.Ordering.TheVariants.{Equal, Greater, Less}
use Rattle.values.specs.declared.key.Key.{Key}
use Rattle.key_ranks.proofs.RankLemmas.{unlike_ranked}
use Rattle.group_state.specs.Keys.{key_cmp, tuple_cmp}
use Rattle.group_state.specs.TupleKeys.{IsTupleRank}

none-before : (s : ℕ) (o : Ordering) → o ≡ nat_cmp 0 s → (o ≡ Equal → ⊥) → o ≡ Less
none-before s o is unlike = by (nat_cmp 0 s) (ranks 0 s) is
  where
    by : (v : Ordering) → MatchOrdering v (0 < s) (0 ≡ s) (s < 0) → o ≡ v → o ≡ Less
    by Less l e = e
    by Equal l e = absurd (unlike e)
    by Greater l e = absurd (omega (arith, l))

none-after : (r : ℕ) (o : Ordering) → o ≡ nat_cmp r 0 → (o ≡ Equal → ⊥) → o ≡ Greater
none-after r o is unlike = by (nat_cmp r 0) (ranks r 0) is
  where
    by : (v : Ordering) → MatchOrdering v (r < 0) (r ≡ 0) (0 < r) → o ≡ v → o ≡ Greater
    by Less l e = absurd (omega (arith, l))
    by Equal l e = absurd (unlike e)
    by Greater l e = e

first-decides : (first o rest : Ordering) → o ≡ first → (o ≡ Equal → ⊥) → o ≡ ordering_then first rest
first-decides Less o rest is unlike = is
first-decides Equal o rest is unlike = absurd (unlike is)
first-decides Greater o rest is unlike = is

pub unlike_tuples : (xs ys : List Key) (r s : ℕ) (o : Ordering) → IsTupleRank xs r → IsTupleRank ys s
    → o ≡ nat_cmp r s → (o ≡ Equal → ⊥) → o ≡ tuple_cmp xs ys
unlike_tuples [] [] r s o p q is unlike = absurd (unlike (is ∙ ap₂ nat_cmp p q))
unlike_tuples [] (y ∷ ys) r s o p q is unlike = none-before s o (is ∙ ap (λ n. nat_cmp n s) p) unlike
unlike_tuples (x ∷ xs) [] r s o p q is unlike = none-after r o (is ∙ ap (nat_cmp r) q) unlike
unlike_tuples (x ∷ xs) (y ∷ ys) r s o p q is unlike =
    first-decides (key_cmp x y) o (slice_cmp key_cmp xs ys) (unlike_ranked x y r s o p q is unlike) unlike
