use Rattle.std.proofs.Common.{◌≡◌, drop, map}
use Rattle.view_config.specs.Columns.{find_name}
use Rattle.view_config.proofs.naming.find_name.Given as goal

abbrev pub invariant-loop-index : goal.invariant-loop-index
invariant-loop-index l =
    find_name l.index l.name (map (λ n. n.now) (drop l.index l.names)) ≡ find_name 0 l.name (map (λ n. n.now) l.names)
