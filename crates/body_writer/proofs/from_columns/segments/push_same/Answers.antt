use Rattle.std.proofs.Common.{◌∙◌, ◌++◌, ◌∷◌, ap}
use Rattle.body_writer.specs.Columns.{offsets_from}
use Rattle.body_writer.proofs.NullLemmas.{same-start, zeros-more}
use Rattle.body_writer.proofs.from_columns.segments.push_same.Goals as goal

pub loop-preserved : goal.loop-preserved
loop-preserved c = λ rest.
    same-start c.args.width c.args.offset c.loop.out.items c.push_offset.new.out.items rest c.in_ok-push_offset.ensures
    ∙ c.loop.invariant (0 ∷ rest)
    ∙ ap (λ xs. c.args.out.now.items ++ offsets_from c.args.width c.args.offset xs) (zeros-more c.loop.counter rest)
