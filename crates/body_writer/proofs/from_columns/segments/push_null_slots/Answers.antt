use Rattle.std.proofs.Common.{◌∙◌, ◌++◌, ap}
use Rattle.std.specs.Prelude.{replicate}
use Rattle.body_writer.proofs.NullLemmas.{slots-more}
use Rattle.body_writer.proofs.from_columns.segments.push_null_slots.Goals as goal

pub loop-preserved : goal.loop-preserved
loop-preserved c =
    slots-more c.args.layout c.loop.counter c.args.out.now.items c.loop.out.items c.push_zeros.new.out.items
    (c.in_ok-push_zeros.ensures ∙ ap (λ k. c.loop.out.items ++ replicate k 0) c.slot_width-width.ensures)
    c.loop.invariant
