use Rattle.std.proofs.Common.{ap₂, ◌∙◌, arith}
use Rattle.group_state.specs.Keys.{tuple_cmp}
use Rattle.group_state.specs.TupleKeys.{keys_in, rank_in}
use Rattle.group_state.proofs.RankedTuples.{after_by_rank, before_by_rank}
use Rattle.group_state.proofs.tuple.TupleOrd.cmp.Goals as goal

pub returns-then-rank-other_rank : goal.returns-then-rank-other_rank
returns-then-rank-other_rank c =
    after_by_rank (keys_in c.self.inside.keys) (keys_in c.other.inside.keys) (rank_in c.self.inside.keys) (rank_in c.other.inside.keys)
    c.self.invariant c.other.invariant
    (omega (arith, c.rank_in-rank.ensures, c.rank_in-other_rank.ensures, c.if-rank-other_rank.true))
    ∙ ap₂ tuple_cmp c.self.view_is c.other.view_is

pub returns-then-rank-other_rank-2 : goal.returns-then-rank-other_rank-2
returns-then-rank-other_rank-2 c =
    before_by_rank (keys_in c.self.inside.keys) (keys_in c.other.inside.keys) (rank_in c.self.inside.keys) (rank_in c.other.inside.keys)
    c.self.invariant c.other.invariant
    (omega (arith, c.rank_in-rank.ensures, c.rank_in-other_rank.ensures, c.if-rank-other_rank-2.true))
    ∙ ap₂ tuple_cmp c.self.view_is c.other.view_is
