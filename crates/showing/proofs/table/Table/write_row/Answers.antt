use Rattle.std.proofs.Common.{ap, get_or, rules, ◌∙◌}
use Rattle.showing.proofs.Bars.{begun-end, begun-more, row-slots-end, row-slots-none, row-slots-step}
use Rattle.showing.proofs.Lists.{seen-in}
use Rattle.showing.proofs.table.Table.write_row.Goals as goal
use Rattle.showing.proofs.table.Table.write_row.Goals.{else-loop-place-test, then-loop-place-test+in_default}

pub loop-place-preserved : goal.loop-place-preserved
loop-place-preserved g c = record {
  text = search rules;
  same = c.loop-place.invariant.same;
  begun = begun-more _ _ _ _ _ _ _ _ _ _ _ _ c.loop-place.invariant.begun c.in_ok-write_run.ensures
      c.in_ok-write.ensures.bytes c.in_ok-gap.ensures
      (row-slots-step c.args.self.now.widths.items c.loop-place.place c.loop-place.fields.now c.in-Some.rest.now
      c.in-Some.field.now c.args.columns.now c.index-columns-place.result c.args.row _ _ c.in-Some.ensures.cases.0
      c.index-columns-place.is c.loop-place-test.true
      (c.width-width.ensures ∙ ap (λ ws. get_or ws c.loop-place.place 0) c.loop-place.invariant.same)
      (seen-in c.cell_at.result c.index-columns-place.result c.args.row (search rules) c.cell_at.ensures.value));
}

pub returns-clause-line : goal.returns-clause-line
returns-clause-line g c =
    begun-end _ _ _ _ _ _ _ _ c.loop-place.invariant.begun
    (elim c.loop-place-test.branch [
      | else-loop-place-test w ↦ row-slots-end c.args.self.now.widths.items c.loop-place.place c.loop-place.fields.now
          c.args.columns.now c.args.row w.loop-place-test.false
      | then-loop-place-test+in_default w ↦ row-slots-none c.args.self.now.widths.items c.loop-place.place
          c.loop-place.fields.now _ c.args.row w.in_default.ensures.cases
    ])
    c.write_all.ensures.bytes
