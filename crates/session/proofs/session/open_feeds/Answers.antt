use Rattle.std.proofs.Common.{◌≡◌, ◌<◌, List, ap, get_or, length, refl, subst, ◌∙◌}
use Rattle.view_lang.specs.Config.{Config, FeedConfig, tables_of}
use Rattle.session.proofs.OpenedSessions.{feed_there, one_opened}
use Rattle.session.proofs.session.open_feeds.Goals as goal

pub feed_schema-requires-clause-there : goal.feed_schema-requires-clause-there
feed_schema-requires-clause-there c =
    let feeds : c.deref-plan-items.result.now ≡ c.args.config.now.feeds =
    c.deref-plan-items.ensures.value ∙ ap (λ (x : Config). x.feeds) c.config.view_is in
    feed_there c.args.config.now c.loop-plan.plan-index c.plan-item.result c.plan.inside.role c.requires
    (subst (λ (fs : List FeedConfig). c.loop-plan.plan-index < length fs) feeds c.loop-plan-test.true)
    (subst (λ (fs : List FeedConfig). c.plan-item.result ≡ get_or fs c.loop-plan.plan-index c.plan-item.result) feeds
    c.plan-item.is)
    (ap (λ (f : FeedConfig). f.role) c.plan.view_is)

pub loop-plan-preserved : goal.loop-plan-preserved
loop-plan-preserved c =
    let feeds : c.deref-plan-items.result.now ≡ c.args.config.now.feeds =
    c.deref-plan-items.ensures.value ∙ ap (λ (x : Config). x.feeds) c.config.view_is in
    let below : c.loop-plan.plan-index < length c.args.config.now.feeds =
    subst (λ (fs : List FeedConfig). c.loop-plan.plan-index < length fs) feeds c.loop-plan-test.true in
    let is : c.plan-item.result ≡ get_or c.args.config.now.feeds c.loop-plan.plan-index c.plan-item.result =
    subst (λ (fs : List FeedConfig). c.plan-item.result ≡ get_or fs c.loop-plan.plan-index c.plan-item.result) feeds
    c.plan-item.is in
    let role = ap (λ (f : FeedConfig). f.role) c.plan.view_is in
    one_opened (tables_of c.args.config.now) c.args.config.now.feeds c.loop-plan.plan-index c.loop-plan.links.items
    c.push.new.self.items c.plan.inside.role c.plan-item.result c.in_ok-schema.schema.fields.items c.open.result
    c.loop-plan.invariant below is role c.in_ok-schema.ensures c.open.ensures.shown
    (feed_there c.args.config.now c.loop-plan.plan-index c.plan-item.result c.plan-item.result.role c.requires below is
    refl)
    c.in_ok-push.ensures.items
