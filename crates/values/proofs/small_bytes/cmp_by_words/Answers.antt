use Rattle.std.proofs.Common.{ap₂, sym, ◌∙◌}
use Rattle.std.specs.Ordering.{nat_cmp}
use Rattle.values.proofs.WordLemmas.{by-first, by-second, by-third}
use Rattle.values.proofs.small_bytes.cmp_by_words.Goals as goal

pub returns-then-ne : goal.returns-then-ne
returns-then-ne c =
    by-first c.args.bytes.now c.args.other.now c.told-bytes c.told-other c.fits-bytes c.fits-other _
    (c.cmp-first.ensures ∙ ap₂ nat_cmp c.word.ensures c.word-2.ensures) (sym c.if-ne.true ∙ c.ne.ensures)

pub returns-then-ne-2 : goal.returns-then-ne-2
returns-then-ne-2 c =
    by-second c.args.bytes.now c.args.other.now c.told-bytes c.told-other c.fits-bytes c.fits-other _ _
    (c.cmp-first.ensures ∙ ap₂ nat_cmp c.word.ensures c.word-2.ensures) (sym c.if-ne.false ∙ c.ne.ensures)
    (c.cmp-second.ensures ∙ ap₂ nat_cmp c.word-3.ensures c.word-4.ensures) (sym c.if-ne-2.true ∙ c.ne-2.ensures)

pub returns : goal.returns
returns c =
    by-third c.args.bytes.now c.args.other.now c.told-bytes c.told-other c.fits-bytes c.fits-other _ _ _
    (c.cmp-first.ensures ∙ ap₂ nat_cmp c.word.ensures c.word-2.ensures) (sym c.if-ne.false ∙ c.ne.ensures)
    (c.cmp-second.ensures ∙ ap₂ nat_cmp c.word-3.ensures c.word-4.ensures) (sym c.if-ne-2.false ∙ c.ne-2.ensures)
    (c.cmp.ensures ∙ ap₂ nat_cmp c.word_of_six.ensures c.word_of_six-2.ensures)
