-- The fields of a vector, in the form that a loop shows.
use Rattle.std.proofs.Common.{◌≡◌, ℕ, zero, suc, ◌-◌, ◌<◌, refl, arith}
use Rattle.std.specs.Prelude.{Ok, Err, [], ◌==◌, if◌then◌else◌}
use Rattle.flatbuf.specs.Layout.{Vector}
use Rattle.values.specs.Reading.{each, one}
use Rattle.values.specs.declared.faults.StreamFault.TheVariants as fault
use Rattle.values.proofs.Readings.{front_none, front_step, front_fails, front_end}
use Rattle.schema_meta.specs.Fields.{entry_by, forest}

pub forest_step :
    (depth : ℕ) (v : Vector) → 0 < depth → forest depth v ≡ each (entry_by (forest (depth - 1)) v) 0 (v.count - 0)
unfolding forest
forest_step zero v h = absurd (omega arith)
forest_step (suc depth) v h =
    let k : suc depth - 1 ≡ depth = omega arith in let j : v.count - 0 ≡ v.count = omega arith in rw (k, j) refl

pub forest_end :
    (depth : ℕ) (v : Vector) → depth ≡ 0
    → forest depth v ≡ (if v.count == 0 then Ok [] else Err (one fault.TooManyFields))
unfolding forest
forest_end depth v h = rw h refl

pub ruleset forests = (forest_step, forest_end, front_none, front_step, front_fails, front_end)
