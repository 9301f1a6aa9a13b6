-- What contracts see of a group.
use Rattle.std.specs.Prelude.{ℕ, List}
use Rattle.group_state.specs.declared.tally.Tally.{Tally}

pub record GroupCounts : Type 0 where
  pub rows : ℕ
  pub tallies : List Tally
