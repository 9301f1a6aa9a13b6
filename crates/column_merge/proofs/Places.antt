-- The arrays of layouts, one after another.
use Rattle.std.proofs.Common.{◌≡◌, ℕ, List, [], ◌∷◌, ◌++◌, ◌∙◌, ◌+◌, ◌<◌, length, drop, get_or, ap, subst}
use Rattle.values.specs.Rose.{Rose, Roses, more, join, kids_of, rose_size, roses_size}
use Rattle.values.specs.declared.layout.Layout.{Layout}
use Rattle.values.proofs.Roses.{kids_step, kids_end, join_more, join_none, kid_smaller}
use Rattle.array_layout.specs.declared.array.FieldNode.{FieldNode}
use Rattle.array_layout.specs.declared.array.BufferRange.{BufferRange}
use Rattle.array_layout.specs.declared.array.ArrayData.{ArrayData}
use Rattle.array_layout.specs.Placing.{placed, placed_all, ranges_in, ranges_below}

-- what the next tree and those after it have

pub nodes_step :
    (ts : List (Rose Layout)) (k : ℕ) (t d : Rose Layout) → t ≡ get_or ts k d → k < length ts
    → roses_size (kids_of (drop k ts)) ≡ rose_size t + roses_size (kids_of (drop (k + 1) ts))
nodes_step ts k t d is below = ap roses_size (kids_step ts k t d is below)

pub ranges_step :
    (ts : List (Rose Layout)) (k : ℕ) (t d : Rose Layout) → t ≡ get_or ts k d → k < length ts
    → ranges_below (kids_of (drop k ts)) ≡ ranges_in t + ranges_below (kids_of (drop (k + 1) ts))
ranges_step ts k t d is below = ap ranges_below (kids_step ts k t d is below)

pub placed_step :
    (nodes : List FieldNode) (ranges : List BufferRange) (ts : List (Rose Layout)) (k : ℕ)
    (t d : Rose Layout) (n b m c : ℕ) (made : List (Rose ArrayData))
    (a : Rose ArrayData) (whole : Roses ArrayData) → t ≡ get_or ts k d → k < length ts
    → a ≡ placed nodes ranges n b t
    → m ≡ n + rose_size t → c ≡ b + ranges_in t
    → join made (placed_all nodes ranges n b (kids_of (drop k ts))) ≡ whole
    → join (made ++ a ∷ []) (placed_all nodes ranges m c (kids_of (drop (k + 1) ts))) ≡ whole
placed_step nodes ranges ts k t d n b m c made a whole is below here next more_ranges all =
    let rest : Roses Layout = kids_of (drop (k + 1) ts) in
    let first : Rose ArrayData = placed nodes ranges n b t in
    let others : Roses ArrayData = placed_all nodes ranges (n + rose_size t) (b + ranges_in t) rest in
    let P : Roses Layout → Type 0 = λ us. join made (placed_all nodes ranges n b us) ≡ whole in
    let split : join made (more first others) ≡ whole = subst P (kids_step ts k t d is below) all in
    rw (here, next, more_ranges) (join_more made first others ∙ split)

pub ruleset placing = (kids_step, kids_end, join_more, join_none, kid_smaller, nodes_step, ranges_step)
