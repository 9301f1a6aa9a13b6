use Rattle.std.proofs.Common.{List, ℕ, subst}
use Rattle.std.specs.List.{IsDistinct}
use Rattle.std.specs.Ordering.{eq_by_cmp, nat_cmp}
use Rattle.row_keys.proofs.FoundRows.{stands_found}
use Rattle.row_keys.proofs.key_columns.find_distinct.Goals as goal

pub returns-then-branch-clause-alone : goal.returns-then-branch-clause-alone
returns-then-branch-clause-alone c = λ some.
    let P : List ℕ → Type 0 = λ ns. IsDistinct (eq_by_cmp nat_cmp) ns in
    stands_found c.args.column.now.cells c.args.numbers.now c.in-Some.found.items
    (rw c.in-Some.is at c.in_ok-found.ensures.found) c.requires.given c.distinct_law.ensures
    (subst P c.deref.ensures.value (c.in_ok-are_distinct.ensures c.if-branch.true))
