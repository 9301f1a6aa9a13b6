use Rattle.std.proofs.Common.{rules, ap, sym, subst, ◌∙◌}
use Rattle.values.specs.Reading.{IsValid}
use Rattle.values.specs.Rose.{kids_of}
use Rattle.array_layout.specs.Buffers.{is_null}
use Rattle.array_layout.specs.Cells.{coded_by}
use Rattle.body_writer.specs.Runs.{cell_in}
use Rattle.body_writer.proofs.RunLemmas.{null-cell}
use Rattle.body_writer.proofs.EncodedLemmas.{encoded-cell, encoded-valid}
use Rattle.body_writer.proofs.from_columns.encoded.value_of.Goals as goal

pub returns-then-is_null_at : goal.returns-then-is_null_at
returns-then-is_null_at c =
    let parts = c.args.range.now.parts in
    sym (ap cell_in (null-cell parts.body.now parts.own.now (kids_of parts.children.now) c.args.i
    (ap (λ ys. is_null ys c.args.i) (sym c.requires.bits) ∙ search rules)))

pub indexed_value-requires-clause-valid : goal.indexed_value-requires-clause-valid
indexed_value-requires-clause-valid c =
    let parts = c.args.range.now.parts in
    subst (λ ys. IsValid (coded_by parts.own.now.layout c.args.dictionary.now.values ys c.args.i))
    (sym c.requires.indices)
    (encoded-valid parts.body.now parts.own.now (kids_of parts.children.now) c.args.dictionary.now c.args.i
    c.requires.encoded (ap (λ ys. is_null ys c.args.i) (sym c.requires.bits) ∙ search rules)
    (c.requires.checked.valid c.args.i c.requires.start c.requires.within))

pub returns : goal.returns
returns c =
    let parts = c.args.range.now.parts in
    encoded-cell parts.body.now parts.own.now (kids_of parts.children.now) c.args.dictionary.now c.args.i
    c.indexed_value.result
    c.requires.encoded (ap (λ ys. is_null ys c.args.i) (sym c.requires.bits) ∙ search rules)
    (c.indexed_value.ensures
    ∙ ap (λ ys. cell_in (coded_by parts.own.now.layout c.args.dictionary.now.values ys c.args.i)) c.requires.indices)
