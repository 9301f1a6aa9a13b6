use Rattle.group_state.proofs.Taken.{made-next}
use Rattle.group_state.proofs.many_values.ManyValues.from_parts.Goals as goal
use Rattle.group_state.specs.GroupParts.{count_with}
use Rattle.group_state.specs.Keys.{key_cmp, key_total}
use Rattle.std.proofs.Common.{◌≡◌, ◌∙◌, ◌∷◌, ap, rules, refl}
use Rattle.std.specs.BTreeMap.{insert_entry}
use Rattle.values.specs.declared.key.Key.{Key}

pub loop-value-preserved : goal.loop-value-preserved
loop-value-preserved c =
    let x = c.in-Some.field-0 in
    let left : c.loop-value.value-iterator.rest.items ≡ x ∷ c.next.new.self.rest.items = search rules in
    made-next key_cmp key_total count_with c.loop-value.made.entries c.insert.new.self.entries x.value x.count x
    c.loop-value.value-iterator.rest.items c.next.new.self.rest.items c.args.parts.counts.items left refl
    (c.in_ok-insert.ensures.entries
    ∙ ap (λ (k : Key). insert_entry key_cmp c.loop-value.made.entries k x.count) c.new.ensures)
    c.loop-value.invariant c.requires.ascending
