use Rattle.session.proofs.BrokenFeeds.{breaks-in-both}
use Rattle.session.proofs.ReplayedRuns.{faults-are-told, faults-break, finish-is-told, push-faults-are-told, run-is-replayed, same-runs}
use Rattle.session.proofs.cuts.cut_law.Goals as goal

pub returns-clause-replay : goal.returns-clause-replay
returns-clause-replay c = run-is-replayed (record {
  none = c.pieces_law.ensures.none;
  push = c.pieces_law.ensures.push;
  refusal = c.pieces_law.ensures.refusal;
  uses = c.cut_law.ensures.uses;
  all = c.cut_law.ensures.all;
})

pub returns-clause-same : goal.returns-clause-same
returns-clause-same c = same-runs (record {
  none = c.pieces_law.ensures.none;
  push = c.pieces_law.ensures.push;
  refusal = c.pieces_law.ensures.refusal;
  uses = c.cut_law.ensures.uses;
  all = c.cut_law.ensures.all;
})

pub returns-clause-faults : goal.returns-clause-faults
returns-clause-faults c = faults-are-told (record {
  none = c.pieces_law.ensures.none;
  push = c.pieces_law.ensures.push;
  refusal = c.pieces_law.ensures.refusal;
  uses = c.cut_law.ensures.uses;
  all = c.cut_law.ensures.all;
})

pub returns-clause-breaks : goal.returns-clause-breaks
returns-clause-breaks c = faults-break (record {
  none = c.pieces_law.ensures.none;
  push = c.pieces_law.ensures.push;
  refusal = c.pieces_law.ensures.refusal;
  uses = c.cut_law.ensures.uses;
  all = c.cut_law.ensures.all;
})

pub returns-clause-finish : goal.returns-clause-finish
returns-clause-finish c = finish-is-told (record {
  none = c.pieces_law.ensures.none;
  push = c.pieces_law.ensures.push;
  refusal = c.pieces_law.ensures.refusal;
  uses = c.cut_law.ensures.uses;
  all = c.cut_law.ensures.all;
})

pub returns-clause-pushes : goal.returns-clause-pushes
returns-clause-pushes c = push-faults-are-told (record {
  none = c.pieces_law.ensures.none;
  push = c.pieces_law.ensures.push;
  refusal = c.pieces_law.ensures.refusal;
  uses = c.cut_law.ensures.uses;
  all = c.cut_law.ensures.all;
})

pub returns-clause-both : goal.returns-clause-both
returns-clause-both c = breaks-in-both (record {
  none = c.pieces_law.ensures.none;
  push = c.pieces_law.ensures.push;
  refusal = c.pieces_law.ensures.refusal;
  uses = c.cut_law.ensures.uses;
  all = c.cut_law.ensures.all;
})
