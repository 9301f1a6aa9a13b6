use Rattle.std.proofs.Common.{arith, length}
use Rattle.arrays.proofs.TextLemmas.{offsets_rise, starts_above, texts_found}
use Rattle.arrays.proofs.texts.are_texts.Goals as goal

pub bytes_between-requires-clause-order : goal.bytes_between-requires-clause-order
bytes_between-requires-clause-order c =
    offsets_rise c.args.width c.args.offsets.now c.args.to (length c.args.values.now) c.args.from c.args.to
    c.requires.fit (omega (arith, c.requires.order)) (omega arith)

pub begin_characters-requires-clause-rising : goal.begin_characters-requires-clause-rising
begin_characters-requires-clause-rising c =
    starts_above c.args.width c.args.offsets.now c.args.to (length c.args.values.now) c.args.from c.requires.fit

pub returns-in-Ok : goal.returns-in-Ok
returns-in-Ok c = λ begin.
    let utf8 = c.in-Ok.ensures in
    texts_found c.args.width c.args.offsets.now c.args.values.now c.bytes_between.result.now c.in-Ok.text.now
    c.args.from c.args.to c.requires.fit c.bytes_between.ensures utf8.0 utf8.1 (c.begin_characters.ensures begin)
