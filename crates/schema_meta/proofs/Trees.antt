-- The layouts of fields, one after another.
use Rattle.std.proofs.Common.{◌≡◌, ℕ, ◌+◌, ◌<◌, ◌≤◌, List, [], ◌∷◌, ◌++◌, length, drop, get_or, ap, sym, subst, ◌∙◌}
use Rattle.values.specs.Rose.{Rose, Roses, more, join, kids_of}
use Rattle.values.proofs.Roses.{kids_step, kids_end, join_more, join_none, kid_smaller}
use Rattle.values.specs.declared.layout.Layout.{Layout}
use Rattle.values.specs.Logical.{NamedType, tree_of, trees_of}

pub tree_step :
    (fs : List (Rose NamedType)) (k : ℕ) (e d : Rose NamedType) (made : List (Rose Layout)) (t : Rose Layout)
    (whole : Roses Layout)
    → e ≡ get_or fs k d → k < length fs → t ≡ tree_of e → join made (trees_of (kids_of (drop k fs))) ≡ whole
    → join (made ++ t ∷ []) (trees_of (kids_of (drop (k + 1) fs))) ≡ whole
tree_step fs k e d made t whole is below here all =
    let rest : Roses Layout = trees_of (kids_of (drop (k + 1) fs)) in
    let split : trees_of (kids_of (drop k fs)) ≡ more (tree_of e) rest = ap trees_of (kids_step fs k e d is below) in
    let P : Roses Layout → Type 0 = λ ts. join made ts ≡ whole in
    rw here (join_more made (tree_of e) rest ∙ subst P split all)

pub tree_end :
    (fs : List (Rose NamedType)) (k : ℕ) (made : List (Rose Layout)) (whole : Roses Layout) → length fs ≤ k
    → join made (trees_of (kids_of (drop k fs))) ≡ whole → kids_of made ≡ whole
tree_end fs k made whole past all =
    let P : Roses NamedType → Type 0 = λ ts. join made (trees_of ts) ≡ whole in
    sym (join_none made) ∙ subst P (kids_end fs k past) all

pub ruleset tree_steps = (tree_step, tree_end, kid_smaller)
