use Rattle.std.proofs.Common.{subst}
use Rattle.std.specs.List.Sorted.{IsStrictlySortedBy}
use Rattle.std.specs.Map.{keys_of}
use Rattle.group_state.specs.Keys.{key_cmp}
use Rattle.group_state.proofs.FewValues.{Entries}
use Rattle.group_state.proofs.Numbers.{sorted-numbered}
use Rattle.group_state.proofs.many_numbers.ManyNumbers.len.Goals as goal

pub returns-clause-ordered : goal.returns-clause-ordered
returns-clause-ordered c =
    subst (λ (es : Entries). IsStrictlySortedBy key_cmp (keys_of es)) c.self.view_is
    (sorted-numbered c.self.inside.counts.entries c.len.ensures.ordered)
