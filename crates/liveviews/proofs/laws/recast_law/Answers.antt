use Rattle.liveviews.proofs.ReadBack.{declared-back, read-back}
use Rattle.liveviews.proofs.laws.recast_law.Goals as goal

pub returns-clause-back : goal.returns-clause-back
returns-clause-back c = read-back (record {
  message = c.message_law.ensures;
  fit = c.fields_law.ensures.fit;
  named = c.fields_law.ensures.named;
  trees = c.logical_law.ensures.trees;
  fits = c.logical_law.ensures.fits;
  rows = c.logical_law.ensures.rows;
  row_weights = c.logical_law.ensures.row_weights;
}) c.canon_law.ensures.means

pub returns-clause-declared_back : goal.returns-clause-declared_back
returns-clause-declared_back c = declared-back (record {
  message = c.message_law.ensures;
  fit = c.fields_law.ensures.fit;
  named = c.fields_law.ensures.named;
  trees = c.logical_law.ensures.trees;
  fits = c.logical_law.ensures.fits;
  rows = c.logical_law.ensures.rows;
  row_weights = c.logical_law.ensures.row_weights;
}) c.canon_law.ensures.declared_means
