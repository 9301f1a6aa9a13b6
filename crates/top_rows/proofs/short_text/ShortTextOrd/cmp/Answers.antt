use Rattle.std.proofs.Common.{ap₂, ◌∙◌, arith}
use Rattle.std.specs.Cmp.Lexicographic.{slice_cmp}
use Rattle.std.specs.Ordering.{nat_cmp, ordering_then}
use Rattle.std.specs.Prelude.{◌-◌}
use Rattle.values.proofs.WordLemmas.{padded}
use Rattle.top_rows.proofs.short_text.ShortTextOrd.cmp.Goals as goal

pub returns : goal.returns
returns c =
    let mine = c.self.inside in
    let others = c.other.inside in
    c.then.ensures
    ∙ ap₂ ordering_then c.cmp_by_words.ensures c.cmp.ensures
    ∙ padded mine.len others.len (14 - mine.len) (14 - others.len) mine.bytes others.bytes
    (omega (arith, c.self.told, c.other.told))
    (omega (arith, c.self.told, c.self.invariant.0)) (omega (arith, c.other.told, c.other.invariant.0))
    c.self.invariant.1 c.other.invariant.1
    ∙ ap₂ (slice_cmp nat_cmp) c.self.view_is c.other.view_is
