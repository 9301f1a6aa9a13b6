use Rattle.std.proofs.Common.{◌≡◌, ◌<◌, Err, Ok, ap, arith, length, map, refl, subst, ◌∙◌}
use Rattle.std.specs.Prelude.{string_bytes}
use Rattle.std.proofs.lemmas.Grind.{common_steps}
use Rattle.std.proofs.lemmas.Result.{err_from_is_err_and}
use Rattle.stream_writer.specs.Sinks.{Sunk}
use Rattle.view_lang.specs.Config.{View}
use Rattle.session.specs.Names.{place_of}
use Rattle.upkeep.specs.LiveParts.{view_at}
use Rattle.upkeep.specs.Stores.{rows_in, tables_in, world_of}
use Rattle.session.specs.Shows.{IsStep, SessionParts, columns_of, config_of}
use Rattle.session.specs.Steps.{IsReadIfWhole, WriteAnswers, WriteStep, stream_of}
use Rattle.session.specs.declared.calls.ViewFault.TheVariants.{Write}
use Rattle.session.proofs.Sessions.{parts, refused_read, schema_there, session_kept, view_is, write_known}
use Rattle.session.proofs.session.Session.write_view.Goals as goal

pub write_rows-requires-clause-schema : goal.write_rows-requires-clause-schema
write_rows-requires-clause-schema g c =
    let below : c.view_place-place.result < length c.self.inside.tables.views =
    grind (arith, common_steps, c.views-views.ensures, c.if-place-views.false) in
    schema_there (tables_in c.self.inside.tables.stores) c.self.inside.tables.views c.self.inside.schemas.items
    c.view_place-place.result (view_at c.self.inside.tables.views c.view_place-place.result) c.index.result.now
    c.self.invariant.views below (view_is c.self.inside.tables.views c.view_place-place.result below) c.index.ensures

pub invariant_of-self : goal.invariant_of-self
invariant_of-self g c =
    let failed = err_from_is_err_and c.from_residual.result c.from_residual.ensures.1 in
    let p : SessionParts =
    parts (map string_bytes c.self.inside.names.items) c.self.inside.feeds.items c.self.inside.links.items
    c.self.inside.tables c.self.inside.records.items in
    let q : SessionParts =
    parts (map string_bytes c.self.inside.names.items) c.self.inside.feeds.items c.self.inside.links.items
    c.write_rows.new.tables c.self.inside.records.items in
    let old : Sunk = g.S.Sink.sunk c.args.sink.now in
    let new : Sunk = g.S.Sink.sunk c.write_rows.new.sink in
    let saturated : c.from_residual.result ≡ Err (Write c.in_err-written.field-0.0) =
    failed.1 ∙ ap (λ e. Err e) failed.2 in
    let at :
    c.view_place-place.result ≡ place_of c.args.view.now (map (λ (v : View). v.name) c.self.inside.tables.views) =
    rw c.views-views.ensures at c.view_place-place.ensures in
    let below : c.view_place-place.result < length c.self.inside.tables.views =
    grind (arith, common_steps, c.views-views.ensures, c.if-place-views.false) in
    let writes :
    WriteAnswers old new c.from_residual.result
    (stream_of (tables_in p.tables.stores) (view_at c.self.inside.tables.views c.view_place-place.result) (world_of
    (rows_in p.tables.stores))) =
    rw saturated c.in_err-written.ensures.writes in
    let read :
    IsReadIfWhole (tables_in p.tables.stores) (view_at c.self.inside.tables.views c.view_place-place.result) (world_of
    (rows_in p.tables.stores)) c.from_residual.result =
    refused_read (tables_in p.tables.stores) (view_at c.self.inside.tables.views c.view_place-place.result) (world_of
    (rows_in p.tables.stores)) c.from_residual.result
    (Write c.in_err-written.field-0.0) saturated in
    session_kept p q (λ s t. WriteStep (config_of p) s c.args.view.now old c.from_residual.result new × (t ≡ s))
    c.self.inside.records.capacity c.self.inside.records.capacity (columns_of c.self.inside.schemas.items)
    c.self.invariant
    (write_known p q c.args.view.now c.view_place-place.result (view_at c.self.inside.tables.views
    c.view_place-place.result) old new
    c.from_residual.result at below (view_is c.self.inside.tables.views c.view_place-place.result below) writes read
    c.write_rows.ensures.same_rows.tables c.write_rows.ensures.same_rows.rows refl refl (refl, refl))
    c.write_rows.ensures.same_rows.tables c.write_rows.ensures.views c.self.invariant.capacity_is

pub invariant_of-self-2 : goal.invariant_of-self-2
invariant_of-self-2 g c =
    let p : SessionParts =
    parts (map string_bytes c.self.inside.names.items) c.self.inside.feeds.items c.self.inside.links.items
    c.self.inside.tables c.self.inside.records.items in
    let q : SessionParts =
    parts (map string_bytes c.self.inside.names.items) c.self.inside.feeds.items c.self.inside.links.items
    c.write_rows.new.tables c.self.inside.records.items in
    let old : Sunk = g.S.Sink.sunk c.args.sink.now in
    let new : Sunk = g.S.Sink.sunk c.write_rows.new.sink in
    let at :
    c.view_place-place.result ≡ place_of c.args.view.now (map (λ (v : View). v.name) c.self.inside.tables.views) =
    rw c.views-views.ensures at c.view_place-place.ensures in
    let below : c.view_place-place.result < length c.self.inside.tables.views =
    grind (arith, common_steps, c.views-views.ensures, c.if-place-views.false) in
    session_kept p q (λ s t. WriteStep (config_of p) s c.args.view.now old (Ok c.in_ok-written.written) new × (t ≡ s))
    c.self.inside.records.capacity c.self.inside.records.capacity (columns_of c.self.inside.schemas.items)
    c.self.invariant
    (write_known p q c.args.view.now c.view_place-place.result (view_at c.self.inside.tables.views
    c.view_place-place.result) old new
    (Ok c.in_ok-written.written) at below (view_is c.self.inside.tables.views c.view_place-place.result below)
    c.in_ok-written.ensures.writes c.in_ok-written.ensures.read c.write_rows.ensures.same_rows.tables
    c.write_rows.ensures.same_rows.rows refl refl (refl, refl))
    c.write_rows.ensures.same_rows.tables c.write_rows.ensures.views c.self.invariant.capacity_is

pub returns-in_err-written-clause-step : goal.returns-in_err-written-clause-step
returns-in_err-written-clause-step g c =
    let failed = err_from_is_err_and c.from_residual.result c.from_residual.ensures.1 in
    let p : SessionParts = parts (map string_bytes c.self.inside.names.items) c.self.inside.feeds.items
    c.self.inside.links.items c.self.inside.tables c.self.inside.records.items in
    let q : SessionParts = parts (map string_bytes c.self.inside.names.items) c.self.inside.feeds.items
    c.self.inside.links.items c.write_rows.new.tables c.self.inside.records.items in
    let old : Sunk = g.S.Sink.sunk c.args.sink.now in
    let new : Sunk = g.S.Sink.sunk c.write_rows.new.sink in
    let saturated : c.from_residual.result ≡ Err (Write c.in_err-written.field-0.0) =
    failed.1 ∙ ap (λ e. Err e) failed.2 in
    let at :
    c.view_place-place.result ≡ place_of c.args.view.now (map (λ (v : View). v.name) c.self.inside.tables.views) =
    rw c.views-views.ensures at c.view_place-place.ensures in
    let below : c.view_place-place.result < length c.self.inside.tables.views =
    grind (arith, common_steps, c.views-views.ensures, c.if-place-views.false) in
    let writes :
    WriteAnswers old new c.from_residual.result
    (stream_of (tables_in p.tables.stores) (view_at c.self.inside.tables.views c.view_place-place.result) (world_of
    (rows_in p.tables.stores))) =
    rw saturated c.in_err-written.ensures.writes in
    let read :
    IsReadIfWhole (tables_in p.tables.stores) (view_at c.self.inside.tables.views c.view_place-place.result) (world_of
    (rows_in p.tables.stores)) c.from_residual.result =
    refused_read (tables_in p.tables.stores) (view_at c.self.inside.tables.views c.view_place-place.result) (world_of
    (rows_in p.tables.stores)) c.from_residual.result
    (Write c.in_err-written.field-0.0) saturated in
    subst (λ (x : SessionParts). IsStep x
    (λ s t. WriteStep (config_of x) s c.args.view.now old c.from_residual.result new × (t ≡ s)) q)
    c.self.view_is
    (write_known p q c.args.view.now c.view_place-place.result (view_at c.self.inside.tables.views
    c.view_place-place.result) old new
    c.from_residual.result at below (view_is c.self.inside.tables.views c.view_place-place.result below) writes read
    c.write_rows.ensures.same_rows.tables c.write_rows.ensures.same_rows.rows refl refl (refl, refl))

pub returns-clause-step : goal.returns-clause-step
returns-clause-step g c =
    let p : SessionParts = parts (map string_bytes c.self.inside.names.items) c.self.inside.feeds.items
    c.self.inside.links.items c.self.inside.tables c.self.inside.records.items in
    let q : SessionParts = parts (map string_bytes c.self.inside.names.items) c.self.inside.feeds.items
    c.self.inside.links.items c.write_rows.new.tables c.self.inside.records.items in
    let old : Sunk = g.S.Sink.sunk c.args.sink.now in
    let new : Sunk = g.S.Sink.sunk c.write_rows.new.sink in
    let at :
    c.view_place-place.result ≡ place_of c.args.view.now (map (λ (v : View). v.name) c.self.inside.tables.views) =
    rw c.views-views.ensures at c.view_place-place.ensures in
    let below : c.view_place-place.result < length c.self.inside.tables.views =
    grind (arith, common_steps, c.views-views.ensures, c.if-place-views.false) in
    subst (λ (x : SessionParts). IsStep x
    (λ s t. WriteStep (config_of x) s c.args.view.now old (Ok c.in_ok-written.written) new × (t ≡ s)) q)
    c.self.view_is
    (write_known p q c.args.view.now c.view_place-place.result (view_at c.self.inside.tables.views
    c.view_place-place.result) old new
    (Ok c.in_ok-written.written) at below (view_is c.self.inside.tables.views c.view_place-place.result below)
    c.in_ok-written.ensures.writes c.in_ok-written.ensures.read c.write_rows.ensures.same_rows.tables
    c.write_rows.ensures.same_rows.rows refl refl (refl, refl))
