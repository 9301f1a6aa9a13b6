use Rattle.std.proofs.Common.{◌≡◌, drop, map}
use Rattle.view_config.specs.Tree.{repeats}
use Rattle.view_config.proofs.naming.repeats.Given as goal

abbrev pub invariant-loop-index : goal.invariant-loop-index
invariant-loop-index l = repeats (map (λ n. n.now) (drop l.index l.names)) ≡ repeats (map (λ n. n.now) l.names)
