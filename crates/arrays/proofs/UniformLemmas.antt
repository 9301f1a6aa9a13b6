-- Cells that weigh the same, and the sum of their weights.
use Rattle.std.proofs.Common.{
  ◌≡◌,
  ℕ,
  List,
  ◌+◌,
  ◌*◌,
  ◌<◌,
  ◌≤◌,
  Bool,
  true,
  false,
  ◌&&◌,
  length,
  drop,
  get_or,
  refl,
  ap,
  sym,
  arith,
  ◌∙◌,
}
use Rattle.std.specs.Prelude.{Option, None, Some, Ok, Err, zero, suc, min, if◌then◌else◌}
use Rattle.values.specs.Reading.{Reading}
use Rattle.values.specs.Datum.{Datum}
use Rattle.values.specs.declared.layout.Layout.{Layout}
use Rattle.values.specs.declared.layout.Layout.TheVariants.{
  Bool as Booleans,
  Int,
  Decimal,
  FixedSizeBinary,
  Utf8,
  Binary,
  List as Listed,
  Struct,
}
use Rattle.values.specs.Layouts.{null_weight, null_weights, weight}
use Rattle.values.specs.Rose.{Rose, node, Roses, none, more, kids_of}
use Rattle.values.proofs.Roses.{kids_step, kids_end}
use Rattle.array_layout.specs.declared.array.DictionaryValues.{DictionaryValues}
use Rattle.array_layout.specs.declared.array.ArrayData.{ArrayData}
use Rattle.array_layout.specs.Placing.{bytes_of, layout_by, layout_of, layouts_of}
use Rattle.array_layout.specs.Buffers.{is_null}
use Rattle.array_layout.specs.Cells.{coded_by}
use Rattle.arrays.specs.Uniform.{is_fixed, is_uniform, are_uniform, is_uniform_layout, is_uniform_data}
use Rattle.arrays.specs.Weights.{
  capped,
  sum_from,
  weight_at,
  weight_in,
  weight_by,
  slot_weight,
  encoded_weight,
  first_weight,
  weight_beside,
}

and_true : (a b c : Bool) → a ≡ true → (a && b) ≡ c → b ≡ c
and_true true b c h e = e
and_true false b c h e = cc

and_false : (a b c : Bool) → a ≡ false → (a && b) ≡ c → c ≡ false
and_false true b c h e = cc
and_false false b c h e = sym e

pub uniform_step :
    (ts : List (Rose ArrayData)) (k : ℕ) (e d : Rose ArrayData) (all : Bool) → e ≡ get_or ts k d → k < length ts
    → is_uniform e ≡ true → are_uniform (kids_of (drop k ts)) ≡ all → are_uniform (kids_of (drop (k + 1) ts)) ≡ all
uniform_step ts k e d all is below even left =
    and_true (is_uniform e) (are_uniform (kids_of (drop (k + 1) ts))) all even
    (sym (ap are_uniform (kids_step ts k e d is below)) ∙ left)

pub uniform_stop :
    (ts : List (Rose ArrayData)) (k : ℕ) (e d : Rose ArrayData) (all : Bool) → e ≡ get_or ts k d → k < length ts
    → is_uniform e ≡ false → are_uniform (kids_of (drop k ts)) ≡ all → all ≡ false
uniform_stop ts k e d all is below uneven left =
    and_false (is_uniform e) (are_uniform (kids_of (drop (k + 1) ts))) all uneven
    (sym (ap are_uniform (kids_step ts k e d is below)) ∙ left)

pub uniform_end : (ts : List (Rose ArrayData)) (k : ℕ) (all : Bool) → length ts ≤ k
    → are_uniform (kids_of (drop k ts)) ≡ all
    → all ≡ true
uniform_end ts k all past left = sym (sym (ap are_uniform (kids_end ts k past)) ∙ left)

pub ruleset uniform_rules = (uniform_step, uniform_stop, uniform_end)

both_true : (a b : Bool) → (a && b) ≡ true → (a ≡ true) × (b ≡ true)
both_true true b h = (refl, h)
both_true false b h = cc

-- what a value of a fixed width weighs
fixed-weight : (l : Layout) (kids : Roses Layout) (d : Datum) → is_fixed l ≡ true
    → weight (node l none) d ≡ null_weight (node l kids)
fixed-weight Booleans kids d h = refl
fixed-weight (Int w s) kids d h = refl
fixed-weight (Decimal p) kids d h = refl
fixed-weight (FixedSizeBinary w) kids d h = refl
fixed-weight (Utf8 o) kids d h = cc
fixed-weight (Binary o) kids d h = cc
fixed-weight (Listed o) kids d h = cc
fixed-weight Struct kids d h = cc

fixed-null_weight : (l : Layout) (kids : Roses Layout) → is_fixed l ≡ true → null_weight (node l none) ≡ null_weight (node l kids)
fixed-null_weight Booleans kids h = refl
fixed-null_weight (Int w s) kids h = refl
fixed-null_weight (Decimal p) kids h = refl
fixed-null_weight (FixedSizeBinary w) kids h = refl
fixed-null_weight (Utf8 o) kids h = cc
fixed-null_weight (Binary o) kids h = cc
fixed-null_weight (Listed o) kids h = cc
fixed-null_weight Struct kids h = cc

pub encoded-fixed : (l : Layout) (kids : Roses Layout) (m : Reading Datum) → is_fixed l ≡ true
    → encoded_weight l m ≡ null_weight (node l kids)
encoded-fixed l kids (Ok d) h = fixed-weight l kids d h
encoded-fixed l kids (Err fs) h = fixed-null_weight l kids h

plain-uniform :
    (l : Layout) (b : List ℕ) (p : ArrayData) (kids : Roses Layout) (here beside : ℕ → ℕ) (i : ℕ)
    → is_uniform_layout l ≡ true
    → beside i ≡ null_weights kids → weight_by l b p (null_weight (node l kids)) here beside i ≡ null_weight (node l kids)
plain-uniform Booleans b p kids here beside i h e = refl
plain-uniform (Int w s) b p kids here beside i h e = refl
plain-uniform (Decimal d) b p kids here beside i h e = refl
plain-uniform (FixedSizeBinary w) b p kids here beside i h e = refl
plain-uniform (Utf8 o) b p kids here beside i h e = cc
plain-uniform (Binary o) b p kids here beside i h e = cc
plain-uniform (Listed o) b p kids here beside i h e = cc
plain-uniform Struct b p kids here beside i h e = ap (λ n. 1 + n) e

null_weight-uniform :
    (d : Option DictionaryValues) (b : List ℕ) (p : ArrayData) (kids : Roses Layout) (here beside : ℕ → ℕ) (i : ℕ)
    → is_uniform_data d p.layout ≡ true → beside i ≡ null_weights kids
    → slot_weight d b p (null_weight (node (layout_by d p.layout) kids)) here beside i
    ≡ null_weight (node (layout_by d p.layout) kids)
null_weight-uniform None b p kids here beside i h e = plain-uniform p.layout b p kids here beside i h e
null_weight-uniform (Some w) b p kids here beside i h e =
    encoded-fixed w.layout kids (coded_by p.layout w.values (bytes_of b p.values) i) h

either : (n : Bool) (x y : ℕ) → y ≡ x → (if n then x else y) ≡ x
either true x y e = refl
either false x y e = e

mutual
  unfolding weight_in

  pub uniform-weight : (b : List ℕ) (t : Rose ArrayData) (i : ℕ) → is_uniform t ≡ true
      → weight_at b t i ≡ null_weight (layout_of t)
  uniform-weight b (node p kids) i h =
      let parts = both_true (is_uniform_data p.dictionary p.layout) (are_uniform kids) h in
      either (is_null (bytes_of b p.validity) i) (null_weight (node (layout_by p.dictionary p.layout) (layouts_of kids))) _
      (null_weight-uniform p.dictionary b p (layouts_of kids) (λ j. first_weight b kids j) (λ j. weight_beside b kids j) i
      parts.0
      (uniform-beside b kids i parts.1))

  uniform-beside : (b : List ℕ) (ts : Roses ArrayData) (i : ℕ) → are_uniform ts ≡ true
      → weight_beside b ts i ≡ null_weights (layouts_of ts)
  uniform-beside b none i h = refl
  uniform-beside b (more t ts) i h =
      let parts = both_true (is_uniform t) (are_uniform ts) h in
      let here = uniform-weight b t i parts.0 in
      let there = uniform-beside b ts i parts.1 in
      omega (arith, here, there)

-- the sum of n weights that are the same
sum-alike : (f : ℕ → ℕ) (w i n : ℕ) → ((k : ℕ) → f k ≡ w) → sum_from f i n ≡ w * n
unfolding sum_from
sum-alike f w i zero same = omega arith
sum-alike f w i (suc n) same =
    let here = same i in
    let rest = sum-alike f w (i + 1) n same in
    omega (arith, here, rest)

capped-times : (w n : ℕ) → capped (capped w * n + 5) ≡ capped (5 + w * n)
unfolding capped
capped-times w zero = grind arith
capped-times w (suc n) = grind arith

-- items that weigh the same
pub items-alike :
    (b : List ℕ) (t : Rose ArrayData) (i n s r : ℕ) → is_uniform t ≡ true → s ≡ capped (null_weight (layout_of t))
    → r ≡ capped (s * n + 5)
    → r ≡ capped (5 + sum_from (weight_at b t) i n)
items-alike b t i n s r even is e =
    let w : ℕ = null_weight (layout_of t) in
    e ∙ ap (λ k. capped (k * n + 5)) is ∙ capped-times w n
    ∙ ap (λ k. capped (5 + k)) (sym (sum-alike (weight_at b t) w i n (λ k. uniform-weight b t k even)))

-- numbers of 64 bits that saturate
pub saturated-sum : (x m s : ℕ) → m ≡ min x 18446744073709551615 → s ≡ min (m + 5) 18446744073709551615
    → capped s ≡ capped (x + 5)
unfolding capped
saturated-sum x m s a b = grind (arith, a, b)
