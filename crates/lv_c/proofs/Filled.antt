-- The value of an option that has one.
use mathlib.Core.Path.{◌≡◌, refl}
use Rattle.std.proofs.lemmas.Bool.{false≢true}
use Rattle.std.specs.Prelude.{Option, Some, None, IsSome}

pub held : {X : Type 0} → (m : Option X) → IsSome m → X
held None some = absurd (false≢true some)
held (Some x) some = x

pub is_held : {X : Type 0} → (m : Option X) → (some : IsSome m) → m ≡ Some (held m some)
unfolding held
is_held None some = absurd (false≢true some)
is_held (Some x) some = refl
