-- A tree with any number of children at each node, as fields, layouts and arrays are.
use Rattle.std.specs.Prelude.{◌≡◌, ℕ, suc, max, ◌+◌, ◌≤◌, Option, None, Some, List, [], ◌∷◌, refl}
use Rattle.std.proofs.Common.{ap, arith, ◌∙◌}
use Rattle.std.specs.Coded.{Coded, code_by, coded×, coded_list, coded_option}
use denote.Param.Weighed.{most}

mutual
  pub data Rose (A : Type 0) : Type 0 where
    node : A → Roses A → Rose A

  pub data Roses (A : Type 0) : Type 0 where
    none : Roses A
    more : Rose A → Roses A → Roses A

-- the children that a list of trees gives
abbrev pub kids_of : {A : Type 0} → List (Rose A) → Roses A
kids_of [] = none
kids_of (t ∷ ts) = more t (kids_of ts)

-- the trees before these children
abbrev pub join : {A : Type 0} → List (Rose A) → Roses A → Roses A
join [] rest = rest
join (t ∷ ts) rest = more t (join ts rest)

-- how many nodes
abbrev mutual
  pub rose_size : {A : Type 0} → Rose A → ℕ
  rose_size (node a kids) = suc (roses_size kids)

  pub roses_size : {A : Type 0} → Roses A → ℕ
  roses_size none = 0
  roses_size (more t ts) = rose_size t + roses_size ts

-- how many levels of nodes
abbrev mutual
  pub rose_depth : {A : Type 0} → Rose A → ℕ
  rose_depth (node a kids) = suc (roses_depth kids)

  pub roses_depth : {A : Type 0} → Roses A → ℕ
  roses_depth none = 0
  roses_depth (more t ts) = max (rose_depth t) (roses_depth ts)

-- The code of a tree is its first node and then, for the children in preorder, `Some` of each node and `None` where a
-- list of children ends. It is read from its end, with a stack of the lists that were read.
abbrev mutual
  pub steps_of : {A : Type 0} → Rose A → List (Option A) → List (Option A)
  steps_of (node a kids) ps = Some a ∷ steps_of_all kids ps

  pub steps_of_all : {A : Type 0} → Roses A → List (Option A) → List (Option A)
  steps_of_all none ps = None ∷ ps
  steps_of_all (more t ts) ps = steps_of t (steps_of_all ts ps)

abbrev pub step : {A : Type 0} → Option A → List (Roses A) → List (Roses A)
step None st = none ∷ st
step (Some a) [] = []
step (Some a) (kids ∷ []) = []
step (Some a) (kids ∷ (rest ∷ st)) = more (node a kids) rest ∷ st

abbrev pub run : {A : Type 0} → List (Option A) → List (Roses A)
run [] = []
run (p ∷ ps) = step p (run ps)

mutual
  pub run-steps_of_all : {A : Type 0} (ts : Roses A) (ps : List (Option A)) → run (steps_of_all ts ps) ≡ ts ∷ run ps
  run-steps_of_all none ps = refl
  run-steps_of_all (more t ts) ps = run-steps_of t (steps_of_all ts ps) ts (run ps) (run-steps_of_all ts ps)

  pub run-steps_of :
      {A : Type 0} (t : Rose A) (ps : List (Option A)) (rest : Roses A) (st : List (Roses A)) → run ps ≡ rest ∷ st
      → run (steps_of t ps) ≡ more t rest ∷ st
  run-steps_of (node a kids) ps rest st e =
      ap (λ s. step (Some a) s) (run-steps_of_all kids ps ∙ ap (λ s. kids ∷ s) e)

abbrev pub last_read : {A : Type 0} → List (Roses A) → Roses A
last_read [] = none
last_read (ts ∷ st) = ts

abbrev pub to_code : {A : Type 0} → Rose A → A × List (Option A)
to_code (node a kids) = (a, steps_of_all kids [])

abbrev pub from_code : {A : Type 0} → A × List (Option A) → Rose A
from_code p = node p.0 (last_read (run p.1))

pub from_code-to_code : {A : Type 0} (t : Rose A) → from_code (to_code t) ≡ t
from_code-to_code (node a kids) = ap (λ s. node a (last_read s)) (run-steps_of_all kids [])

-- the code of a tree, from that of its nodes
abbrev pub rose_code : {A : Type 0} → Coded A → Coded (Rose A)
rose_code {A} c =
    code_by (A × List (Option A)) (coded× c (coded_list (coded_option c))) to_code from_code from_code-to_code

-- no child is larger than all of them together
pub most_le-roses_size : {A : Type 0} (ts : List (Rose A))
    → most (λ t. rose_size t + 1) ts ≤ suc (roses_size (kids_of ts))
most_le-roses_size [] = omega arith
most_le-roses_size (t ∷ ts) = omega (arith, most_le-roses_size ts)
