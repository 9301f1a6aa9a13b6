use Rattle.std.proofs.Common.{◌∙◌, ap, sym, arith, rules}
use Rattle.std.specs.Int.{int_max, int_min}
use Rattle.std.proofs.lemmas.Int.{ints}
use Rattle.array_layout.specs.Buffers.{number_by}
use Rattle.values.specs.Layouts.{bytes_in}
use Rattle.column_truths.specs.Spans.{is_between}
use Rattle.column_truths.proofs.SpanLemmas.{between_none, clipped, read_both}
use Rattle.column_truths.proofs.spans.span_between.Goals as goal

pub returns-then-last-first-clause-value : goal.returns-then-last-first-clause-value
returns-then-last-first-clause-value c = λ u small.
    clipped c.args.width c.args.signed c.args.from c.args.to c.max-first.result c.min-last.result u small
    (c.max-first.ensures.value
    ∙ read_both int_max c.args.from c.least.result c.ranges.from (search rules) ∙ ap (int_max c.args.from) c.least.ensures)
    (c.min-last.ensures.value
    ∙ read_both int_min c.args.to c.greatest.result c.ranges.to (search rules)
    ∙ ap (int_min c.args.to) c.greatest.ensures)
    ∙ between_none c.max-first.result c.min-last.result (number_by c.args.signed (bytes_in c.args.width) u)
    (omega (arith, ints, c.if-last-first.true))
    ∙ c.none.ensures.value u small

pub returns-else-last-first-clause-value : goal.returns-else-last-first-clause-value
returns-else-last-first-clause-value c = λ u small.
    clipped c.args.width c.args.signed c.args.from c.args.to c.max-first.result c.min-last.result u small
    (c.max-first.ensures.value
    ∙ read_both int_max c.args.from c.least.result c.ranges.from (search rules) ∙ ap (int_max c.args.from) c.least.ensures)
    (c.min-last.ensures.value
    ∙ read_both int_min c.args.to c.greatest.result c.ranges.to (search rules)
    ∙ ap (int_min c.args.to) c.greatest.ensures)
    ∙ sym (read_both (λ a b. is_between a b (number_by c.args.signed (bytes_in c.args.width) u)) c.max-first.result
    c.min-last.result (search rules) (search rules))
    ∙ c.span_from.ensures.value u small
