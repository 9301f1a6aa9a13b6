-- The nodes and buffers of fields, as loops count them.
use Rattle.std.proofs.Common.{◌≡◌, ℕ, suc, ◌+◌, ◌<◌, ◌≤◌, List, [], ◌∷◌, length, drop, get_or, refl, ap, arith}
use Rattle.values.specs.Rose.{Rose, node, Roses, none, more, kids_of, rose_size, roses_size}
use Rattle.values.proofs.Roses.{kids_step, kids_end, kid_smaller}
use Rattle.array_layout.specs.Placing.{ranges_in, ranges_below}
use Rattle.schema_meta.specs.Entry.{Entry}
use Rattle.schema_meta.specs.FieldLayouts.{slot_layout_of, slot_layouts_below}

mutual
  pub size_same : (f : Rose Entry) → rose_size (slot_layout_of f) ≡ rose_size f
  size_same (node e kids) = ap suc (sizes_same kids)

  pub sizes_same : (fs : Roses Entry) → roses_size (slot_layouts_below fs) ≡ roses_size fs
  sizes_same none = refl
  sizes_same (more f fs) = let here = size_same f in let rest = sizes_same fs in omega (arith, here, rest)

-- what the next field and those after it have
pub nodes_step :
    (fs : List (Rose Entry)) (k : ℕ) (e d : Rose Entry) → e ≡ get_or fs k d → k < length fs
    → roses_size (slot_layouts_below (kids_of (drop k fs))) ≡ rose_size (slot_layout_of e) + roses_size
    (slot_layouts_below (kids_of (drop (k + 1) fs)))
nodes_step fs k e d is below = ap (λ ts. roses_size (slot_layouts_below ts)) (kids_step fs k e d is below)

pub ranges_step :
    (fs : List (Rose Entry)) (k : ℕ) (e d : Rose Entry) → e ≡ get_or fs k d → k < length fs
    → ranges_below (slot_layouts_below (kids_of (drop k fs))) ≡ ranges_in (slot_layout_of e) + ranges_below
    (slot_layouts_below (kids_of (drop (k + 1) fs)))
ranges_step fs k e d is below = ap (λ ts. ranges_below (slot_layouts_below ts)) (kids_step fs k e d is below)

pub fields_step :
    (fs : List (Rose Entry)) (k : ℕ) (e d : Rose Entry) → e ≡ get_or fs k d → k < length fs
    → roses_size (kids_of (drop k fs)) ≡ rose_size e + roses_size (kids_of (drop (k + 1) fs))
fields_step fs k e d is below = ap roses_size (kids_step fs k e d is below)

pub nodes_end : (fs : List (Rose Entry)) (k : ℕ) → length fs ≤ k
    → roses_size (slot_layouts_below (kids_of (drop k fs))) ≡ 0
nodes_end fs k all = ap (λ ts. roses_size (slot_layouts_below ts)) (kids_end fs k all)

pub ranges_end : (fs : List (Rose Entry)) (k : ℕ) → length fs ≤ k
    → ranges_below (slot_layouts_below (kids_of (drop k fs))) ≡ 0
ranges_end fs k all = ap (λ ts. ranges_below (slot_layouts_below ts)) (kids_end fs k all)

-- the children of a field are fewer than the fields
pub kids_fewer :
    (fs : List (Rose Entry)) (k : ℕ) (e d : Rose Entry) (x : Entry) (kids : List (Rose Entry)) → e ≡ get_or fs k d
    → k < length fs
    → e ≡ node x (kids_of kids) → suc (roses_size (kids_of kids)) ≤ roses_size (kids_of fs)
kids_fewer fs k e d x kids is below opened =
    let size : rose_size e ≡ suc (roses_size (kids_of kids)) = ap rose_size opened in
    omega (arith, size, kid_smaller fs k e d is below)

pub ruleset counts =
    (kids_fewer, size_same, sizes_same, nodes_step, ranges_step, fields_step, nodes_end, ranges_end, kid_smaller)
