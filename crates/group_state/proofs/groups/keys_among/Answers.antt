use Rattle.std.proofs.Common.{ap, ◌∙◌}
use Rattle.std.specs.Option.{unwrap_or}
use Rattle.values.specs.declared.key.Key.TheVariants.{Null}
use Rattle.group_state.proofs.Under.{key-more}
use Rattle.group_state.proofs.groups.keys_among.Goals as goal

pub loop-value-preserved : goal.loop-value-preserved
loop-value-preserved c = λ k.
    key-more c.args.values.now c.loop-value.value-index c.value-item.result k c.unwrap_or.result _ _
    c.loop-value-test.true c.value-item.is
    (c.unwrap_or.ensures ∙ ap (λ o. unwrap_or o Null) c.in_ok-of.ensures) (c.loop-value.invariant k)
    (c.in_ok-insert.ensures.updates.0 k)
