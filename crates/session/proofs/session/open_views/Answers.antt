use Rattle.std.proofs.Common.{◌≡◌, ◌<◌, List, [], ◌∷◌, ap, get_or, length, subst, ◌∙◌}
use Rattle.std.proofs.lemmas.List.{map-append}
use Rattle.values.specs.declared.schema.Schema.{Schema}
use Rattle.view_lang.specs.Config.{Config, View, tables_of}
use Rattle.session.specs.Shows.{columns_of}
use Rattle.session.proofs.OpenedSessions.{tables_right, view_opened, view_there}
use Rattle.session.proofs.Written.{view_small}
use Rattle.session.proofs.session.open_views.Goals as goal

pub view_schema-requires-clause-view : goal.view_schema-requires-clause-view
view_schema-requires-clause-view c =
    let views : c.deref-view-items.result.now ≡ c.args.config.now.views =
    c.deref-view-items.ensures.value ∙ ap (λ (x : Config). x.views) c.config.view_is in
    view_there c.args.config.now c.loop-view.view-index c.view-item.result c.requires
    (subst (λ (vs : List View). c.loop-view.view-index < length vs) views c.loop-view-test.true)
    (subst (λ (vs : List View). c.view-item.result ≡ get_or vs c.loop-view.view-index c.view-item.result) views
    c.view-item.is)

pub loop-view-preserved : goal.loop-view-preserved
loop-view-preserved c =
    let views : c.deref-view-items.result.now ≡ c.args.config.now.views =
    c.deref-view-items.ensures.value ∙ ap (λ (x : Config). x.views) c.config.view_is in
    view_opened c.args.config.now c.loop-view.view-index c.view-item.result (columns_of c.loop-view.schemas.items)
    (columns_of c.push.new.self.items) c.in_ok-encoded.encoded.fields.items c.loop-view.invariant
    (subst (λ (vs : List View). c.loop-view.view-index < length vs) views c.loop-view-test.true)
    (subst (λ (vs : List View). c.view-item.result ≡ get_or vs c.loop-view.view-index c.view-item.result) views
    c.view-item.is)
    (ap (λ (s : Schema). s.fields.items) c.in_ok-encoded.ensures ∙ c.in_ok-schema.ensures)
    (ap columns_of c.in_ok-push.ensures.items
    ∙ map-append (λ (s : Schema). s.fields.items) c.loop-view.schemas.items (c.in_ok-encoded.encoded ∷ []))

pub new-requires : goal.new-requires
new-requires c =
    let views : c.deref-view-items.result.now ≡ c.args.config.now.views =
    c.deref-view-items.ensures.value ∙ ap (λ (x : Config). x.views) c.config.view_is in
    view_small c.config_law.ensures.views (tables_of c.args.config.now) c.view-item.result
    c.in_ok-schema.schema.fields.items (tables_right c.args.config.now c.requires)
    (view_there c.args.config.now c.loop-view.view-index c.view-item.result c.requires
    (subst (λ (vs : List View). c.loop-view.view-index < length vs) views c.loop-view-test.true)
    (subst (λ (vs : List View). c.view-item.result ≡ get_or vs c.loop-view.view-index c.view-item.result) views
    c.view-item.is)) c.in_ok-schema.ensures
