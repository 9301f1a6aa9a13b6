use Rattle.std.proofs.Common.{sym, ◌∙◌}
use Rattle.std.proofs.lemmas.Map.Iter.{rest_all, rest_more}
use Rattle.std.specs.Map.Iter.{deref}
use Rattle.group_state.specs.Aggregates.{seen_at}
use Rattle.group_order.specs.EntryForms.{ShortPair}
use Rattle.group_order.proofs.LentRows.{few-more, found-all, found-more, found-most}
use Rattle.group_order.proofs.group_entries.rows_of_pairs.Goals as goal
use Rattle.group_order.proofs.group_entries.rows_of_pairs.Goals.{in-None, in-Some+then-len-most}

pub loop-key-preserved : goal.loop-key-preserved
loop-key-preserved c =
    let find = λ (p : ShortPair). seen_at c.args.outputs.now c.args.groups.now p.1 in
    let item = c.in-Some.field-0.now in
    let made = c.loop-key.made.items in (
      few-more find made _ (find item) c.args.most c.loop-key.invariant.0
          (λ e. c.if-len-most.false (c.len-in-loop-key.ensures ∙ c.loop-key.made.ok.0 ∙ e)) c.in_ok-push_row.ensures,
      found-more find made _ _ c.loop-key._key-iterator c.next.new.self item
          (rest_more deref _ _ _ _ c.in-Some.is c.next.ensures.steps) c.loop-key.invariant.1 c.in_ok-push_row.ensures,
    )

pub returns : goal.returns
returns c =
    let find = λ (p : ShortPair). seen_at c.args.outputs.now c.args.groups.now p.1 in
    let made = c.loop-key.made.items in
    let inv = c.loop-key.invariant in
    elim c.match-next.branch [
      | in-None w ↦
          found-all find made _ c.loop-key._key-iterator c.args.most
          (rest_all deref _ _ _ w.in-None.is c.next.ensures.steps) inv.1 inv.0
      | in-Some+then-len-most w ↦
          found-most find made _ c.loop-key._key-iterator c.args.most inv.1
          (sym c.loop-key.made.ok.0 ∙ sym w.len-in-loop-key.ensures ∙ w.if-len-most.true)
    ]
