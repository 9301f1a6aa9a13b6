use Rattle.std.proofs.Common.{ap, subst, sym, ◌∙◌}
use Rattle.std.specs.Option.{option_copied}
use Rattle.values.specs.Keys.{key_of}
use Rattle.values.proofs.ShallowLemmas.{key_of-shallow}
use Rattle.row_keys.specs.Store.{IsUnknown, Store}
use Rattle.row_keys.proofs.LookedUpRows.{unknown_kind}
use Rattle.row_keys.proofs.store.RowStore.number_with_key.Goals as goal

pub returns-in-None : goal.returns-in-None
returns-in-None c = λ d same.
    let P : Store → Type 0 = λ s. IsUnknown s d in
    subst P c.self.view_is
    (unknown_kind c.self.inside.table c.self.inside.rows
    c.self.inside.numbers c.self.inside.visits d c.self.invariant.keyed
    (sym (key_of-shallow d) ∙ ap key_of (sym same) ∙ sym c.in_ok-key.ensures ∙ ap option_copied c.in-None.is))
