use Rattle.std.proofs.Common.{◌≡◌, ◌*◌, drop}
use Rattle.view_config.specs.Constants.{pairs}
use Rattle.view_config.proofs.Pairs.{behind}
use Rattle.view_config.proofs.constants.pairs.Given as goal

-- what was read, and what is left to read, are the whole
abbrev pub invariant-loop-index : goal.invariant-loop-index
invariant-loop-index l = behind l.bytes.items (pairs (drop (2 * l.index) l.text)) ≡ pairs l.text
