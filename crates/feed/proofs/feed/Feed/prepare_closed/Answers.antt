use Rattle.std.proofs.Common.{refl}
use Rattle.feed.proofs.FeedLemmas.{closed-empty, closed-fault, closed-some, leads-empty, shown, shows-same}
use Rattle.feed.proofs.feed.Feed.prepare_closed.Goals as goal

pub returns-then-not-is_empty-clause-answer : goal.returns-then-not-is_empty-clause-answer
returns-then-not-is_empty-clause-answer c = λ s shows.
    closed-some c.args.self.now s c.args.piece.now c.is_empty.result c.requires c.is_empty.ensures
    c.if-not-is_empty.true shows

pub returns-then-not-is_empty-clause-fault : goal.returns-then-not-is_empty-clause-fault
returns-then-not-is_empty-clause-fault c = λ s shows.
    shows-same _ c.discard_prepared.new.self _ c.discard_prepared.ensures.framing c.discard_prepared.ensures.table
    c.discard_prepared.ensures.condition
    (closed-fault _ s c.args.piece.now c.self.inside.framer c.self.inside.change c.self.inside.next
    (shown _ _ s c.self.view_is shows) refl)

pub returns-clause-answer : goal.returns-clause-answer
returns-clause-answer c = λ s shows.
    closed-empty c.args.self.now s c.args.piece.now c.is_empty.result c.requires c.is_empty.ensures
    c.if-not-is_empty.false shows

pub returns-clause-leads : goal.returns-clause-leads
returns-clause-leads c = λ s shows.
    leads-empty _ s c.args.piece.now
    (c.discard_prepared-2.ensures.nothing_prepared s
    (shows-same _ _ s c.discard_prepared-2.ensures.framing c.discard_prepared-2.ensures.table
    c.discard_prepared-2.ensures.condition shows))
