use Rattle.std.proofs.Common.{◌≡◌, ◌<◌, ◌≤◌, Err, arith, length, map, refl, subst}
use Rattle.std.specs.Prelude.{slice_set, string_bytes}
use Rattle.std.proofs.lemmas.Grind.{common_steps}
use Rattle.view_lang.specs.Config.{FeedConfig}
use Rattle.session.specs.Names.{place_of}
use Rattle.session.specs.Shows.{IsStep, SessionParts, columns_of, config_of}
use Rattle.session.specs.Steps.{FinishStep}
use Rattle.session.proofs.Sessions.{finish_known, finish_unknown, parts, session_kept}
use Rattle.session.proofs.session.Session.finish.Goals as goal

pub returns-then-place-len-clause-step : goal.returns-then-place-len-clause-step
returns-then-place-len-clause-step c =
    let p : SessionParts = parts (map string_bytes c.self.inside.names.items) c.self.inside.feeds.items
    c.self.inside.links.items c.self.inside.tables c.self.inside.records.items in
    let at :
    c.feed_place-place.result ≡ place_of c.args.feed.now
    (map (λ (f : FeedConfig). f.name) c.self.inside.feeds.items) =
    rw c.deref.ensures.value at c.feed_place-place.ensures in
    let beyond : length c.self.inside.links.items ≤ c.feed_place-place.result =
    grind (arith, common_steps, c.len.ensures, c.if-place-len.true) in
    subst (λ (x : SessionParts). IsStep x (λ s t. FinishStep (config_of x) s c.args.feed.now (Err c.of.result) t) x)
    c.self.view_is
    (finish_unknown p c.args.feed.now c.feed_place-place.result c.of.result at beyond c.of.ensures)

pub invariant_of-self : goal.invariant_of-self
invariant_of-self c =
    let p : SessionParts = parts (map string_bytes c.self.inside.names.items) c.self.inside.feeds.items
    c.self.inside.links.items c.self.inside.tables c.self.inside.records.items in
    let q : SessionParts = parts (map string_bytes c.self.inside.names.items) c.self.inside.feeds.items
    (slice_set c.self.inside.links.items c.feed_place-place.result c.finish_of.new.link) c.self.inside.tables
    c.self.inside.records.items in
    let at :
    c.feed_place-place.result ≡ place_of c.args.feed.now
    (map (λ (f : FeedConfig). f.name) c.self.inside.feeds.items) =
    rw c.deref.ensures.value at c.feed_place-place.ensures in
    let below : c.feed_place-place.result < length c.self.inside.links.items =
    grind (arith, common_steps, c.len.ensures, c.if-place-len.false) in
    session_kept p q (λ s t. FinishStep (config_of p) s c.args.feed.now c.finish_of.result t)
    c.self.inside.records.capacity c.self.inside.records.capacity (columns_of c.self.inside.schemas.items)
    c.self.invariant
    (finish_known p q c.args.feed.now c.feed_place-place.result c.index_mut.result.now c.finish_of.new.link
    c.finish_of.result at below
    c.index_mut.ensures.value c.finish_of.ensures refl refl refl (refl, refl))
    refl refl c.self.invariant.capacity_is

pub returns-clause-step : goal.returns-clause-step
returns-clause-step c =
    let p : SessionParts = parts (map string_bytes c.self.inside.names.items) c.self.inside.feeds.items
    c.self.inside.links.items c.self.inside.tables c.self.inside.records.items in
    let q : SessionParts = parts (map string_bytes c.self.inside.names.items) c.self.inside.feeds.items
    (slice_set c.self.inside.links.items c.feed_place-place.result c.finish_of.new.link) c.self.inside.tables
    c.self.inside.records.items in
    let at :
    c.feed_place-place.result ≡ place_of c.args.feed.now
    (map (λ (f : FeedConfig). f.name) c.self.inside.feeds.items) =
    rw c.deref.ensures.value at c.feed_place-place.ensures in
    let below : c.feed_place-place.result < length c.self.inside.links.items =
    grind (arith, common_steps, c.len.ensures, c.if-place-len.false) in
    subst (λ (x : SessionParts). IsStep x (λ s t. FinishStep (config_of x) s c.args.feed.now c.finish_of.result t) q)
    c.self.view_is
    (finish_known p q c.args.feed.now c.feed_place-place.result c.index_mut.result.now c.finish_of.new.link
    c.finish_of.result at below
    c.index_mut.ensures.value c.finish_of.ensures refl refl refl (refl, refl))
