use Rattle.std.proofs.Common.{ap₂, sym, ◌∙◌}
use Rattle.std.specs.Ordering.{nat_cmp}
use Rattle.top_rows.proofs.ShortTexts.{by-first, by-second}
use Rattle.top_rows.proofs.short_text.cmp_by_words.Goals as goal

pub returns-then-ne : goal.returns-then-ne
returns-then-ne c =
    by-first c.args.bytes.now c.args.other.now c.told-bytes c.told-other c.fits-bytes c.fits-other _
    (c.cmp-first.ensures ∙ ap₂ nat_cmp c.word.ensures c.word-2.ensures) (sym c.if-ne.true ∙ c.ne.ensures)

pub returns : goal.returns
returns c =
    by-second c.args.bytes.now c.args.other.now c.told-bytes c.told-other c.fits-bytes c.fits-other _ _
    (c.cmp-first.ensures ∙ ap₂ nat_cmp c.word.ensures c.word-2.ensures) (sym c.if-ne.false ∙ c.ne.ensures)
    (c.cmp.ensures ∙ ap₂ nat_cmp c.word_of_six.ensures c.word_of_six-2.ensures)
