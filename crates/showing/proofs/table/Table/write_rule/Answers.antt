use Rattle.std.proofs.Common.{rules}
use Rattle.showing.proofs.WrittenParts.{leaves-item}
use Rattle.showing.proofs.Bars.{dashes-step}
use Rattle.showing.proofs.table.Table.write_rule.Goals as goal

pub loop-width-preserved : goal.loop-width-preserved
loop-width-preserved g c = record {
  text = search rules;
  wrote = leaves-item _ _ _ _ _ _ _ _ _ c.loop-width.invariant.wrote c.in_ok-write.ensures.bytes
      c.in_ok-write_run.ensures
      (dashes-step c.args.self.now.widths.items c.deref-width-items.result.now c.loop-width.width-index _ _
      c.deref-width-items.ensures.value c.loop-width-test.true);
}
