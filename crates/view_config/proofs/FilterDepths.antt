-- A filter by the levels that it may have, and by its parts.
use Rattle.std.proofs.Common.{◌≡◌, ℕ, zero, suc, ◌-◌, ◌<◌, List, [], ◌∷◌, refl, arith, Err, length}
use Rattle.toml.specs.Data.{Data}
use Rattle.toml.specs.View.{items_view}
use Rattle.toml.specs.declared.value.Value.{Value}
use Rattle.values.specs.Reading.{one}
use Rattle.view_lang.specs.Filter.{Filter}
use Rattle.view_config.specs.Filters.{filter_of, filter_with, filters_in}
use Rattle.view_config.specs.Reading.{Reading}
use Rattle.view_config.specs.Scope.{Scope}
use Rattle.view_config.specs.Tree.{each_item}
use Rattle.view_config.specs.declared.faults.ConfigFault.TheVariants as fault

pub filter_step :
    (depth : ℕ) (s : Scope) (d : Data) → 0 < depth → filter_of depth s d ≡ filter_with s (filter_of (depth - 1) s) d
unfolding filter_of
filter_step zero s d h = absurd (omega (arith, h))
filter_step (suc depth) s d h = let k : suc depth - 1 ≡ depth = omega arith in rw k refl

pub filter_end : (depth : ℕ) (s : Scope) (d : Data) → depth ≡ 0 → filter_of depth s d ≡ Err (one fault.OverLimit)
unfolding filter_of
filter_end depth s d h = rw h refl

pub ruleset levels = (filter_step, filter_end)

pub parts-none :
    (below : Data → Reading Filter) (vs : List Value) → length vs ≡ 0
    → filters_in below (items_view vs) ≡ Err (one fault.Shape)
parts-none below [] h = refl
parts-none below (v ∷ vs) h = absurd (omega (arith, h))

pub parts-some :
    (below : Data → Reading Filter) (vs : List Value) → 0 < length vs
    → filters_in below (items_view vs) ≡ each_item below (items_view vs)
parts-some below [] h = absurd (omega (arith, h))
parts-some below (v ∷ vs) h = refl

pub ruleset some_parts = (parts-none, parts-some)
