use Rattle.std.proofs.Common.{ap₂, ◌∙◌, arith}
use Rattle.std.specs.Ordering.{ordering_then}
use Rattle.std.specs.Prelude.{◌-◌}
use Rattle.values.proofs.WordLemmas.{padded}
use Rattle.values.proofs.small_bytes.cmp_inline.Goals as goal

pub returns : goal.returns
returns c =
    c.then.ensures
    ∙ ap₂ ordering_then c.cmp_by_words.ensures c.cmp.ensures
    ∙ padded c.args.len c.args.other_len (22 - c.args.len) (22 - c.args.other_len) c.args.bytes.now c.args.other.now
    (omega (arith, c.told-bytes, c.told-other))
    (omega (arith, c.told-bytes, c.requires.bytes.0)) (omega (arith, c.told-other, c.requires.other.0))
    c.requires.bytes.1 c.requires.other.1
