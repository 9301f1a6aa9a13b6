use Rattle.std.proofs.Common.{◌≡◌, true, false, ap, sym, ◌∙◌}
use Rattle.std.specs.Str.{bytes_eq}
use Rattle.view_lang.specs.Config.{FeedConfig}
use Rattle.session.proofs.Named.{place_hit, place_miss}
use Rattle.session.proofs.names.feed_place.Goals as goal

pub returns-then-eq : goal.returns-then-eq
returns-then-eq c =
    let item : FeedConfig = c.index-feeds-place.result in
    let same : c.as_str.result.now ≡ item.name =
    c.as_str.ensures.value ∙ ap (λ (f : FeedConfig). f.name) c.feed.view_is in
    let hit : bytes_eq item.name c.args.name.now ≡ true =
    ap (λ n. bytes_eq n c.args.name.now) (sym same) ∙ sym c.eq.ensures ∙ c.if-eq.true in
    place_hit (λ f. f.name) c.args.feeds.now c.args.name.now c.loop-place.place item item c.loop-place-test.true
    c.index-feeds-place.is hit
    c.loop-place.invariant

pub loop-place-preserved : goal.loop-place-preserved
loop-place-preserved c =
    let item : FeedConfig = c.index-feeds-place.result in
    let same : c.as_str.result.now ≡ item.name =
    c.as_str.ensures.value ∙ ap (λ (f : FeedConfig). f.name) c.feed.view_is in
    let miss : bytes_eq item.name c.args.name.now ≡ false =
    ap (λ n. bytes_eq n c.args.name.now) (sym same) ∙ sym c.eq.ensures ∙ c.if-eq.false in
    place_miss (λ f. f.name) c.args.feeds.now c.args.name.now c.loop-place.place item item c.loop-place-test.true
    c.index-feeds-place.is miss
    c.loop-place.invariant
