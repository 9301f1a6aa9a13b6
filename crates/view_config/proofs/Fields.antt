-- A field by the levels that may be below it.
use Rattle.std.proofs.Common.{◌≡◌, ℕ, zero, suc, ◌-◌, ◌<◌, List, refl, arith, Err}
use Rattle.toml.specs.Data.{Data}
use Rattle.values.specs.Reading.{one}
use Rattle.view_config.specs.ColumnTypes.{field_of, type_by}
use Rattle.view_config.specs.declared.faults.ConfigFault.TheVariants as fault

pub field_step :
    (depth : ℕ) (name : List ℕ) (d : Data) → 0 < depth → field_of depth name d ≡ type_by (field_of (depth - 1)) name d
unfolding field_of
field_step zero name d h = absurd (omega (arith, h))
field_step (suc depth) name d h = let k : suc depth - 1 ≡ depth = omega arith in rw k refl

pub field_end : (depth : ℕ) (name : List ℕ) (d : Data) → depth ≡ 0 → field_of depth name d ≡ Err (one fault.OverLimit)
unfolding field_of
field_end depth name d h = rw h refl

pub ruleset fields = (field_step, field_end)
