use Rattle.std.proofs.Common.{◌≡◌, ℕ, List, ◌++◌}
use Rattle.std.specs.Io.KnownBytes.{Appends}
use Rattle.showing.specs.Digits.{fixed_digits}
use Rattle.showing.proofs.digits.write_digits.Given as goal

abbrev pub invariant-loop-left : goal.invariant-loop-left
invariant-loop-left g l =
    (done : List ℕ)
    × Appends (g.W.Write.contents l.initial.out) (g.W.Write.contents l.out) done
    × (done ++ fixed_digits l.left l.number ≡ fixed_digits l.initial.left l.number)

abbrev pub decreases-loop-left : goal.decreases-loop-left
decreases-loop-left g l = l.left
