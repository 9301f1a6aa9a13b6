use Rattle.arrays.proofs.TextLemmas.{texts_valid}
use Rattle.arrays.proofs.texts.validate_run.Goals as goal

pub returns-then-are_texts : goal.returns-then-are_texts
returns-then-are_texts c =
    texts_valid c.args.width c.args.offsets.now c.args.values.now c.args.from c.args.to
    (c.are_texts.ensures c.if-are_texts.true) c.requires.order
