use Rattle.std.proofs.Common.{◌≡◌, ap, map, subst, sym, ◌∙◌}
use Rattle.std.specs.Prelude.{string_bytes}
use Rattle.circular_buffer.specs.Buffer.{Buffer}
use Rattle.view_lang.specs.Config.{Config, tables_of}
use Rattle.view_lang.specs.ConfigRules.{IsConfig}
use Rattle.view_lang.specs.ViewColumns.{view_columns}
use Rattle.session.specs.Shows.{Shows, ShowsEach, columns_of}
use Rattle.session.specs.Steps.{opened, start}
use Rattle.session.specs.declared.undo.UndoRecord.{UndoRecord}
use Rattle.session.proofs.OpenedSessions.{opened_config, opened_none, opened_parts, opened_right, opened_session, opened_shown}
use Rattle.session.proofs.session.Session.open.Goals as goal

pub invariant_of-result : goal.invariant_of-result
invariant_of-result c =
    let conf : Config =
    record {
      main = c.config.inside.main;
      sides = c.config.inside.sides.items;
      feeds = c.config.inside.feeds.items;
      views = c.config.inside.views.items;
    } in
    opened_session conf (map string_bytes c.in_ok-names.names.items) c.in_ok-links.links.items
    c.in_ok-tables.tables c.in_ok-records.records.items c.in_ok-records.records.capacity
    (columns_of c.in_ok-schemas.schemas.items)
    (subst IsConfig (sym c.config.view_is) c.requires)
    (ap (λ (b : Buffer UndoRecord). b.capacity) c.in_ok-records.ensures) c.in_ok-names.ensures.names
    (c.in_ok-tables.ensures.stores ∙ c.in_ok-names.ensures.stores) c.in_ok-tables.ensures.views
    (ap (λ (b : Buffer UndoRecord). b.items) c.in_ok-records.ensures)
    (subst (λ (x : Config). ShowsEach (tables_of x) c.in_ok-links.links.items (map (opened (tables_of x)) x.feeds))
    (sym c.config.view_is) c.in_ok-links.ensures)
    (subst (λ (x : Config). columns_of c.in_ok-schemas.schemas.items ≡ map (view_columns (tables_of x)) x.views)
    (sym c.config.view_is) c.in_ok-schemas.ensures)

pub returns-clause-shows : goal.returns-clause-shows
returns-clause-shows c =
    let conf : Config =
    record {
      main = c.config.inside.main;
      sides = c.config.inside.sides.items;
      feeds = c.config.inside.feeds.items;
      views = c.config.inside.views.items;
    } in
    subst (λ (x : Config).
    Shows (opened_parts conf (map string_bytes c.in_ok-names.names.items) c.in_ok-links.links.items
    c.in_ok-tables.tables c.in_ok-records.records.items) (start x))
    c.config.view_is
    (opened_shown conf (map string_bytes c.in_ok-names.names.items) c.in_ok-links.links.items
    c.in_ok-tables.tables c.in_ok-records.records.items c.in_ok-names.ensures.names (c.in_ok-tables.ensures.stores
    ∙ c.in_ok-names.ensures.stores) c.in_ok-tables.ensures.views
    (ap (λ (b : Buffer UndoRecord). b.items) c.in_ok-records.ensures)
    (subst (λ (x : Config). ShowsEach (tables_of x) c.in_ok-links.links.items (map (opened (tables_of x)) x.feeds))
    (sym c.config.view_is) c.in_ok-links.ensures))

pub returns-clause-config : goal.returns-clause-config
returns-clause-config c =
    let conf : Config =
    record {
      main = c.config.inside.main;
      sides = c.config.inside.sides.items;
      feeds = c.config.inside.feeds.items;
      views = c.config.inside.views.items;
    } in
    opened_config conf (map string_bytes c.in_ok-names.names.items) c.in_ok-links.links.items
    c.in_ok-tables.tables c.in_ok-records.records.items c.in_ok-names.ensures.names (c.in_ok-tables.ensures.stores
    ∙ c.in_ok-names.ensures.stores) c.in_ok-tables.ensures.views
    ∙ c.config.view_is

pub new-requires-clause-right : goal.new-requires-clause-right
new-requires-clause-right c =
    let conf : Config =
    record {
      main = c.config.inside.main;
      sides = c.config.inside.sides.items;
      feeds = c.config.inside.feeds.items;
      views = c.config.inside.views.items;
    } in
    opened_right conf c.in_ok-names.stores.items (subst IsConfig (sym c.config.view_is) c.requires)
    c.in_ok-names.ensures.stores

pub new-requires-clause-none : goal.new-requires-clause-none
new-requires-clause-none c =
    let conf : Config =
    record {
      main = c.config.inside.main;
      sides = c.config.inside.sides.items;
      feeds = c.config.inside.feeds.items;
      views = c.config.inside.views.items;
    } in
    opened_none conf c.in_ok-names.stores.items c.in_ok-names.ensures.stores
