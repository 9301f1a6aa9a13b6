use Rattle.std.proofs.Common.{◌∷◌, [], ap, ap₂, sym, ◌∙◌}
use Rattle.std.specs.Ordering.{ordering_reverse}
use Rattle.group_state.specs.Keys.{tuple_cmp, tuple_total}
use Rattle.group_state.specs.TupleKeys.{keys_in}
use Rattle.group_state.proofs.tuple.cmp_keys.Goals as goal

pub returns-in-Many-One : goal.returns-in-Many-One
returns-in-Many-One c =
    c.reverse.ensures ∙ ap ordering_reverse c.cmp_one-in-Many-One.ensures
    ∙ sym (tuple_total.antisymm _ (c.in-Many-One.other ∷ []))
    ∙ ap₂ tuple_cmp (c.deref-in-Many-One.ensures.value ∙ ap keys_in (sym c.in-Many-One.is-0))
    (ap keys_in (sym c.in-Many-One.is-1))
