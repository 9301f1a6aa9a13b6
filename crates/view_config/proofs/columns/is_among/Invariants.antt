use Rattle.std.proofs.Common.{◌≡◌, drop, map}
use Rattle.view_config.specs.Tree.{is_one_of}
use Rattle.view_config.specs.Columns.{name_of}
use Rattle.view_config.proofs.columns.is_among.Given as goal

abbrev pub invariant-loop-field : goal.invariant-loop-field
invariant-loop-field l =
    is_one_of (map name_of (drop l.field-index l.fields)) l.name ≡ is_one_of (map name_of l.fields) l.name
