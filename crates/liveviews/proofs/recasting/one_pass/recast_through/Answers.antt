use Rattle.std.proofs.Common.{refl}
use Rattle.liveviews.proofs.SourceLemmas.{source-weaker}
use Rattle.liveviews.proofs.StreamLemmas.{streaming-begins}
use Rattle.liveviews.proofs.recasting.one_pass.recast_through.Goals as goal

pub take_source-requires-clause-begins : goal.take_source-requires-clause-begins
take_source-requires-clause-begins g c =
    streaming-begins c.first_message_law.ensures.none c.story_law.ensures.all (g.S.Sink.sunk c.args.sink.now)
    c.open-feed.result _ c.open-feed.ensures.shown refl refl

pub returns-in-Ok-clause-accepted : goal.returns-in-Ok-clause-accepted
returns-in-Ok-clause-accepted g c =
    source-weaker _ _ _ c.in_ok-take_source.ensures.streamed
    (λ input streamed. c.in-Ok.ensures.accepted (g.S.Sink.sunk c.args.sink.now) input streamed)
