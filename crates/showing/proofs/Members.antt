-- The children of a struct, one after the other.
use Rattle.std.proofs.Common.{ℕ, List, ◌<◌, arith}
use Rattle.values.specs.Reading.{IsValid, cons}
use Rattle.values.specs.Rose.{Rose, Roses, node, more}
use Rattle.values.proofs.Readings.{valid_left, valid_right}
use Rattle.values.proofs.Roses.{kid_smaller}
use Rattle.array_layout.specs.declared.array.ArrayData.{ArrayData}
use Rattle.array_layout.specs.Cells.{cell, len_of, row}
use Rattle.array_layout.specs.Sound.{IsSound}
use Rattle.showing.specs.Shown.{AreMembers}

-- what is known of the first child, and of those after it
pub record FirstMember (b : List ℕ) (t : Rose ArrayData) (ts : Roses ArrayData) (i : ℕ) : Type 0 where
  pub sound : IsSound b t
  pub within : i < len_of t
  pub valid : IsValid (cell b t i)
  pub others : AreMembers b ts i

pub first-member : (b : List ℕ) (t : Rose ArrayData) (ts : Roses ArrayData) (i : ℕ) → AreMembers b (more t ts) i
    → FirstMember b t ts i
first-member b (node p kids) ts i are = record {
  sound = are.sound.0;
  within = omega (arith, are.long.0);
  valid = valid_left cons (cell b (node p kids) i) (row b ts i) are.valid;
  others = record {
    sound = are.sound.1;
    long = are.long.1;
    valid = valid_right cons (cell b (node p kids) i) (row b ts i) are.valid;
  };
}

pub ruleset members = (first-member, kid_smaller)
