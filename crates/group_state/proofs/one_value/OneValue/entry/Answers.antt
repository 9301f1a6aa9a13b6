use Rattle.std.proofs.Common.{subst}
use Rattle.std.specs.List.Sorted.{IsStrictlySortedBy}
use Rattle.std.specs.Map.{keys_of}
use Rattle.group_state.specs.Keys.{key_cmp}
use Rattle.group_state.proofs.FewValues.{Entries}
use Rattle.group_state.proofs.OneValue.{few_once}
use Rattle.group_state.proofs.one_value.OneValue.entry.Goals as goal

pub returns-then-self-eq0-clause-ordered : goal.returns-then-self-eq0-clause-ordered
returns-then-self-eq0-clause-ordered c =
    subst (λ (es : Entries). IsStrictlySortedBy key_cmp (keys_of es)) c.self.view_is
    (few_once c.self.inside.key c.self.inside.count).0

pub returns-else-self-eq0-clause-ordered : goal.returns-else-self-eq0-clause-ordered
returns-else-self-eq0-clause-ordered c =
    subst (λ (es : Entries). IsStrictlySortedBy key_cmp (keys_of es)) c.self.view_is
    (few_once c.self.inside.key c.self.inside.count).0
