use Rattle.std.proofs.Common.{◌≡◌, ◌++◌, drop, map}
use Rattle.view_config.proofs.outputs.output_names.Given as goal

-- what was gathered, and what is left, are the whole
abbrev pub invariant-loop-output : goal.invariant-loop-output
invariant-loop-output l =
    map (λ n. n.now) l.names.items ++ map (λ o. o.name) (drop l.output-index l.outputs) ≡ map (λ o. o.name) l.outputs
