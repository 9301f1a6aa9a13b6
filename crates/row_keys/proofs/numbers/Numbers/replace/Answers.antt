use Rattle.std.proofs.Common.{false, true, ◌∙◌, ap, arith}
use Rattle.row_keys.specs.Entries.{AreInOrder, entry_in}
use Rattle.row_keys.proofs.IndexChanges.{new_entry}
use Rattle.row_keys.proofs.RetainedIndex.{all_pushed, at_below, kept_keyed, kept_replaced, order_pushed}
use Rattle.row_keys.proofs.numbers.Numbers.replace.Goals as goal

pub set_live-requires-clause-order : goal.set_live-requires-clause-order
set_live-requires-clause-order c = (
  c.in_ok-len.len,
  order_pushed c.self.inside.kept.items c.push.new.self.items c.self.inside.len c.in_ok-len.len
      (new_entry c.entry_at-place.result.key false) c.self.invariant.order c.in_ok-push.ensures.items
      c.in_ok-len.ensures.0,
)

pub index_mut-requires : goal.index_mut-requires
index_mut-requires c =
    let keyed =
    kept_keyed c.self.inside.keys c.self.inside.holders.items c.self.inside.kept.items c.deref.result.now
    c.self.inside.len c.self.inside.live c.args.replaced c.entry_at-place.result c.args.self.now c.self.invariant
    c.self.view_is (at_below c.args.self.now c.args.replaced c.requires.0 true c.requires.1)
    c.entry_at-place.ensures c.deref.ensures.value in
    let many = c.self.invariant.index.as_many in
    omega (arith, keyed, many)

order : (c : goal.After-self-2-1) → AreInOrder 0 c.push.new.self.items c.in_ok-len.len
order c =
    order_pushed c.self.inside.kept.items c.push.new.self.items c.self.inside.len c.in_ok-len.len
    (new_entry c.entry_at-place.result.key false) c.self.invariant.order c.in_ok-push.ensures.items
    c.in_ok-len.ensures.0

pub invariant_of-self-2 : goal.invariant_of-self-2
invariant_of-self-2 c =
    (kept_replaced c.self.inside.keys c.self.inside.holders.items c.self.inside.kept.items c.push.new.self.items
    c.set_live.new.kept.items c.self.inside.len c.in_ok-len.len c.self.inside.live c.args.replaced c.requires.0
    c.entry_at-place.result c.args.self.now c.self.invariant c.self.view_is
    (c.entry_at-place.ensures ∙ ap (λ ks. entry_in ks c.args.replaced) c.deref.ensures.value) c.requires.1
    (all_pushed c.self.inside.kept.items c.push.new.self.items c.self.inside.len c.in_ok-len.len
    (new_entry c.entry_at-place.result.key false) c.self.invariant.order c.in_ok-push.ensures.items
    c.in_ok-len.ensures.0)
    (c.set_live.ensures.flagged c.in_ok-len.len (order c)) (c.set_live.ensures.order c.in_ok-len.len (order c))
    c.in_ok-len.ensures.1).0

pub returns-clause-ok : goal.returns-clause-ok
returns-clause-ok c = λ k at.
    (kept_replaced c.self.inside.keys c.self.inside.holders.items c.self.inside.kept.items c.push.new.self.items
    c.set_live.new.kept.items c.self.inside.len c.in_ok-len.len c.self.inside.live c.args.replaced k
    c.entry_at-place.result c.args.self.now c.self.invariant c.self.view_is
    (c.entry_at-place.ensures ∙ ap (λ ks. entry_in ks c.args.replaced) c.deref.ensures.value) at
    (all_pushed c.self.inside.kept.items c.push.new.self.items c.self.inside.len c.in_ok-len.len
    (new_entry c.entry_at-place.result.key false) c.self.invariant.order c.in_ok-push.ensures.items
    c.in_ok-len.ensures.0)
    (c.set_live.ensures.flagged c.in_ok-len.len (order c)) (c.set_live.ensures.order c.in_ok-len.len (order c))
    c.in_ok-len.ensures.1).1
