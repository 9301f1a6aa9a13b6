use Rattle.std.proofs.Common.{◌∙◌}
use Rattle.values.specs.Rose.{kids_of}
use Rattle.column_truths.proofs.CodeLemmas.{codes_compared}
use Rattle.column_truths.proofs.by_code.compare_codes.Goals as goal

pub returns : goal.returns
returns c =
    c.in_ok-truths.ensures
    ∙ codes_compared c.args.body.now c.buffer.result.now c.buffer-2.result.now c.args.own.now
    (kids_of c.args.children.now) c.args.dictionary.now c.args.width c.args.signed c.args.comparison
    c.args.constant.now c.in_ok-of_values.of_values c.requires.valid c.requires.dictionary c.requires.layout
    c.buffer.ensures c.buffer-2.ensures c.in_ok-of_values.ensures
