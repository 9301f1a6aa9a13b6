use Rattle.std.proofs.Common.{ap, get_or, rules, ◌∙◌}
use Rattle.showing.proofs.Bars.{begun-more, head-end, name-slots-end, name-slots-step}
use Rattle.showing.proofs.table.Table.write_names.Goals as goal

pub loop-place-preserved : goal.loop-place-preserved
loop-place-preserved g c = record {
  text = search rules;
  same = c.loop-place.invariant.same;
  begun = begun-more _ _ _ _ _ _ _ _ _ _ _ _ c.loop-place.invariant.begun c.in_ok-write_run.ensures
      c.in_ok-write.ensures.bytes c.in_ok-gap.ensures
      (name-slots-step c.args.self.now.widths.items c.loop-place.place c.args.fields.now c.index-fields-place.result _
      c.index-fields-place.is c.loop-place-test.true
      (c.width-width.ensures ∙ ap (λ ws. get_or ws c.loop-place.place 0) c.loop-place.invariant.same));
}

pub returns-clause-lines : goal.returns-clause-lines
returns-clause-lines g c =
    head-end _ _ _ _ _ _ _ _ _ _ _ c.loop-place.invariant.begun
    (name-slots-end c.args.self.now.widths.items c.loop-place.place c.args.fields.now c.loop-place-test.false)
    c.in_ok-write_all.ensures.bytes c.write_rule.ensures c.loop-place.invariant.same
