use Rattle.std.proofs.Common.{List, ℕ, subst}
use Rattle.std.specs.List.Sorted.{IsStrictlyIncreasing}
use Rattle.std.specs.Ordering.{eq_by_cmp, nat_cmp}
use Rattle.std.proofs.lemmas.Cmp.{eq_by_cmp_equiv, nat_cmp_total}
use Rattle.std.proofs.lemmas.List.Sorted.{IsPermutation-sym}
use Rattle.std.proofs.lemmas.Map.Keys.{
  IsDistinct-IsPermutation,
  IsDistinct-from_sorted,
  sorted_from_strictly_increasing,
}
use Rattle.row_keys.proofs.key_columns.are_distinct.Goals as goal

pub returns-then-are_ascending : goal.returns-then-are_ascending
returns-then-are_ascending c = λ yes.
    IsDistinct-from_sorted nat_cmp c.args.numbers.now
    (sorted_from_strictly_increasing c.args.numbers.now (c.are_ascending.ensures c.if-are_ascending.true))

pub returns : goal.returns
returns c = λ yes.
    let sorted : List ℕ = c.sort_unstable.new.self.items in
    let rises : IsStrictlyIncreasing sorted =
    subst IsStrictlyIncreasing c.deref.ensures.value (c.are_ascending-2.ensures yes) in
    IsDistinct-IsPermutation (eq_by_cmp nat_cmp) (eq_by_cmp_equiv nat_cmp_total).symm sorted c.args.numbers.now
    (rw c.in_ok-sorted.ensures.items at (IsPermutation-sym _ _ c.sort_unstable.ensures.permutation))
    (IsDistinct-from_sorted nat_cmp sorted (sorted_from_strictly_increasing sorted rises))
