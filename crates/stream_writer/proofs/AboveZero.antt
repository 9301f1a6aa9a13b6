-- A test for 0 at a number above 0.
use Rattle.std.proofs.Common.{◌≡◌, ℕ, ◌<◌, ◌==◌, false, arith}
use Rattle.std.specs.Prelude.{if◌then◌else◌}
use Rattle.std.proofs.lemmas.Bool.Decides.{nat_tests}

pub not-zero : (n : ℕ) → 0 < n → (n == 0) ≡ false
not-zero n h = grind (arith, nat_tests)

pub some-of : {A : Type 0} (n : ℕ) (x y : A) → 0 < n → (if n == 0 then x else y) ≡ y
some-of n x y h = grind (arith, nat_tests)
