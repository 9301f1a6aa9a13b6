use Rattle.std.proofs.Common.{refl}
use Rattle.liveviews.specs.Buffered.{buffered_rows}
use Rattle.liveviews.proofs.Tables.{table-fits, complete-lacks, complete-means, complete-taken, complete-kept}
use Rattle.liveviews.proofs.BufferedLemmas.{writable}
use Rattle.liveviews.proofs.recasting.table.finish.Goals as goal

pub returns-in_default-clause-lacks : goal.returns-in_default-clause-lacks
returns-in_default-clause-lacks c =
    λ s. complete-lacks s c.args.feed.now (buffered_rows c.args.rows) c.in_default.ensures.shown

pub returns-clause-means : goal.returns-clause-means
returns-clause-means c = λ s.
    let named = rw c.deref.ensures at c.in_ok-schema.ensures in
    complete-means s c.args.feed.now (buffered_rows c.args.rows) _ _ _ c.in-Some.ensures.shown named refl

pub returns-clause-within : goal.returns-clause-within
returns-clause-within c = λ s complete.
    let law = c.logical_law.ensures in
    let named = rw c.deref.ensures at c.in_ok-schema.ensures in
    let taken = complete-taken s c.args.feed.now (buffered_rows c.args.rows) _ c.in-Some.ensures.shown complete in
    rw named
    (table-fits law.trees law.fits law.rows law.row_weights c.fields_law.ensures.fit _ _ c.in-Some.ensures.fields
    taken)

pub returns-clause-kept : goal.returns-clause-kept
returns-clause-kept c = λ s complete kept.
    let law = c.logical_law.ensures in
    let named = rw c.deref.ensures at c.in_ok-schema.ensures in
    let here =
    complete-kept s c.args.feed.now (buffered_rows c.args.rows) _ c.args.rows c.in-Some.ensures.shown complete kept in
    writable law.trees law.row_weights _ _ c.args.rows named here
