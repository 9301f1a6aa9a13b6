use Rattle.std.proofs.Common.{ap, sym, ◌∙◌, ◌++◌, []}
use Rattle.std.specs.List.{cons_option}
use Rattle.std.specs.Prelude.{List}
use Rattle.values.specs.declared.key.Key.{Key}
use Rattle.std.proofs.lemmas.Map.Iter.{rest_all, rest_more}
use Rattle.std.specs.Map.Iter.{deref}
use Rattle.group_state.specs.Aggregates.{seen_at}
use Rattle.group_order.specs.GroupEntries.{GroupEntry}
use Rattle.group_order.proofs.LentRows.{few-more, found-all, found-more, found-most}
use Rattle.group_order.proofs.group_entries.rows_of_entries.Goals as goal
use Rattle.group_order.proofs.group_entries.rows_of_entries.Goals.{in-None, in-Some+then-len-most}

pub loop-entry-preserved : goal.loop-entry-preserved
loop-entry-preserved c =
    let find = λ (p : GroupEntry). seen_at c.args.outputs.now c.args.groups.now p.1 in
    let item = c.in-Some.entry.now in
    let made = c.loop-entry.made.items in
    let added =
    c.in_ok-push_row.ensures
    ∙ ap (λ (t : List Key). made ++ cons_option (seen_at c.args.outputs.now c.args.groups.now t) []) c.tuple.ensures in (
      few-more find made _ (find item) c.args.most c.loop-entry.invariant.0
          (λ e. c.if-len-most.false (c.len-in-loop-entry.ensures ∙ c.loop-entry.made.ok.0 ∙ e)) added,
      found-more find made _ _ c.loop-entry.entry-iterator c.next.new.self item
          (rest_more deref _ _ _ _ c.in-Some.is c.next.ensures.steps) c.loop-entry.invariant.1 added,
    )

pub returns : goal.returns
returns c =
    let find = λ (p : GroupEntry). seen_at c.args.outputs.now c.args.groups.now p.1 in
    let made = c.loop-entry.made.items in
    let inv = c.loop-entry.invariant in
    elim c.match-next.branch [
      | in-None w ↦
          found-all find made _ c.loop-entry.entry-iterator c.args.most
          (rest_all deref _ _ _ w.in-None.is c.next.ensures.steps) inv.1 inv.0
      | in-Some+then-len-most w ↦
          found-most find made _ c.loop-entry.entry-iterator c.args.most inv.1
          (sym c.loop-entry.made.ok.0 ∙ sym w.len-in-loop-entry.ensures ∙ w.if-len-most.true)
    ]
