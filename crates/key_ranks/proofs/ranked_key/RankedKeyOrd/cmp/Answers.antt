use Rattle.std.proofs.Common.{ap₂, ◌∙◌}
use Rattle.key_ranks.specs.RankOrder.{key_cmp}
use Rattle.key_ranks.proofs.RankLemmas.{unlike_ranked}
use Rattle.key_ranks.proofs.ranked_key.RankedKeyOrd.cmp.Goals as goal

pub returns-in_default : goal.returns-in_default
returns-in_default c =
    unlike_ranked c.self.inside.key c.other.inside.key c.self.inside.rank c.other.inside.rank c.cmp.result
    c.self.invariant c.other.invariant c.cmp.ensures c.in_default.not-Equal
    ∙ ap₂ key_cmp c.self.view_is c.other.view_is
