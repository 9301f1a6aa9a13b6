use Rattle.std.proofs.Common.{◌≡◌, drop, map}
use Rattle.view_config.specs.Tree.{repeats}
use Rattle.view_config.specs.Columns.{name_of}
use Rattle.view_config.proofs.columns.repeats.Given as goal

abbrev pub invariant-loop-index : goal.invariant-loop-index
invariant-loop-index l = repeats (map name_of (drop l.index l.fields)) ≡ repeats (map name_of l.fields)
