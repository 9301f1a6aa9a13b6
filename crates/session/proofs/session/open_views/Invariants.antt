use Rattle.std.proofs.Common.{◌≡◌, map, take}
use Rattle.view_lang.specs.Config.{tables_of}
use Rattle.view_lang.specs.ViewColumns.{view_columns}
use Rattle.session.specs.Shows.{columns_of}
use Rattle.session.proofs.session.open_views.Given as goal

abbrev pub invariant-loop-view : goal.invariant-loop-view
invariant-loop-view l =
    columns_of l.schemas.items ≡ map (view_columns (tables_of l.config)) (take l.view-index l.config.views)
