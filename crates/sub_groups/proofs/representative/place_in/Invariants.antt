use Rattle.std.proofs.Common.{◌≡◌, drop}
use Rattle.sub_groups.specs.Places.{place_in}
use Rattle.sub_groups.proofs.representative.place_in.Given as goal

abbrev pub invariant-loop-place : goal.invariant-loop-place
invariant-loop-place l = place_in l.place (drop l.place l.columns) l.column ≡ place_in 0 l.columns l.column
