-- Bounds on the weights of an array's slots. A bound above the limit of a cell has no meaning.
use Rattle.std.specs.Prelude.{ℕ, ◌<◌, ◌≤◌}
use Rattle.values.specs.Limits.{max_cell_weight}

-- w is a bound on the weight of a null, `bare`, and on those of the first n slots, which are the numbers of `weigh`.
pub record IsBound (w bare n : ℕ) (weigh : ℕ → ℕ) : Type 0 where
  pub null : w ≤ max_cell_weight → bare ≤ w
  pub each : w ≤ max_cell_weight → (i : ℕ) → i < n → weigh i ≤ w
