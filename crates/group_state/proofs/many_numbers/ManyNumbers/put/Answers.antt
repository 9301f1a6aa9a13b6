use Rattle.std.proofs.Common.{◌∙◌, ap, subst, sym, to_z-of_z}
use Rattle.std.specs.BTreeMap.{insert_entry}
use Rattle.values.specs.declared.key.Key.TheVariants.{Int}
use Rattle.group_state.specs.Keys.{key_cmp}
use Rattle.group_state.specs.Numbers.{AreNumbers, numbered}
use Rattle.group_state.proofs.FewValues.{Entries}
use Rattle.group_state.proofs.Numbers.{insert-numbered, numbers-insert}
use Rattle.group_state.proofs.many_numbers.ManyNumbers.put.Goals as goal

pub invariant_of-self-2 : goal.invariant_of-self-2
invariant_of-self-2 c =
    let put = rw (to_z-of_z c.ranges.number) at c.in_ok-insert.ensures.entries in
    subst AreNumbers
    (insert-numbered c.args.number c.args.count c.self.inside.counts.entries ∙ ap numbered (sym put))
    (numbers-insert (Int c.args.number) c.args.count (numbered c.self.inside.counts.entries) c.ranges.number c.requires
    c.self.invariant)

pub returns-clause-ok : goal.returns-clause-ok
returns-clause-ok c =
    let put = rw (to_z-of_z c.ranges.number) at c.in_ok-insert.ensures.entries in
    ap numbered put
    ∙ sym (insert-numbered c.args.number c.args.count c.self.inside.counts.entries)
    ∙ ap (λ (es : Entries). insert_entry key_cmp es (Int c.args.number) c.args.count) c.self.view_is
