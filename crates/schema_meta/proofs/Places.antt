-- The arrays of a batch, one after another.
use Rattle.std.proofs.Common.{◌≡◌, ℕ, ℤ, List, [], ◌∷◌, ◌++◌, ◌∙◌, ◌+◌, ◌<◌, ◌≤◌, length, drop, get_or, ap}
use Rattle.values.specs.Rose.{Rose, Roses, none, more, join, kids_of, rose_size}
use Rattle.values.proofs.Roses.{kids_step, kids_end, join_more, join_none, kid_smaller}
use Rattle.array_layout.specs.declared.array.FieldNode.{FieldNode}
use Rattle.array_layout.specs.declared.array.BufferRange.{BufferRange}
use Rattle.array_layout.specs.declared.array.ArrayData.{ArrayData}
use Rattle.array_layout.specs.Placing.{placed, placed_all, ranges_in}
use Rattle.schema_meta.specs.Entry.{Entry}
use Rattle.schema_meta.proofs.Counts.{nodes_step, ranges_step}
use Rattle.schema_meta.specs.FieldLayouts.{slot_layout_of, slot_layouts_below}
use Rattle.schema_meta.specs.Parts.{decoded, decoded_all}
use Rattle.values.specs.Datum.{Datum}

-- the arrays of these fields, whose first node is number n, and whose first buffer is number b
abbrev pub arrays_from : (ℤ → List Datum) → List FieldNode → List BufferRange → ℕ → ℕ → Roses Entry → Roses ArrayData
arrays_from values nodes ranges n b fs = decoded_all values fs (placed_all nodes ranges n b (slot_layouts_below fs))

-- the next of them, where its array is this, and the arrays after it begin here
pub arrays_next :
    (values : ℤ → List Datum) (nodes : List FieldNode) (ranges : List BufferRange) (fs : List (Rose Entry)) (k : ℕ)
    (e d : Rose Entry) (n b m c : ℕ) (a : Rose ArrayData) → e ≡ get_or fs k d → k < length fs
    → a ≡ decoded values e (placed nodes ranges n b (slot_layout_of e))
    → m ≡ n + rose_size (slot_layout_of e) → c ≡ b + ranges_in (slot_layout_of e)
    → arrays_from values nodes ranges n b (kids_of (drop k fs))
    ≡ more a (arrays_from values nodes ranges m c (kids_of (drop (k + 1) fs)))
arrays_next values nodes ranges fs k e d n b m c a is below here next more_ranges =
    rw (here, next, more_ranges) (ap (arrays_from values nodes ranges n b) (kids_step fs k e d is below))

pub arrays_end :
    (values : ℤ → List Datum) (nodes : List FieldNode) (ranges : List BufferRange) (fs : List (Rose Entry))
    (k n b : ℕ) → length fs ≤ k → arrays_from values nodes ranges n b (kids_of (drop k fs)) ≡ none
arrays_end values nodes ranges fs k n b all = ap (arrays_from values nodes ranges n b) (kids_end fs k all)

pub placed_step :
    (values : ℤ → List Datum) (nodes : List FieldNode) (ranges : List BufferRange) (fs : List (Rose Entry)) (k : ℕ)
    (e d : Rose Entry) (n b m c : ℕ) (made : List (Rose ArrayData))
    (a : Rose ArrayData) (whole : Roses ArrayData) → e ≡ get_or fs k d → k < length fs
    → a ≡ decoded values e (placed nodes ranges n b (slot_layout_of e))
    → m ≡ n + rose_size (slot_layout_of e) → c ≡ b + ranges_in (slot_layout_of e)
    → join made (arrays_from values nodes ranges n b (kids_of (drop k fs))) ≡ whole
    → join (made ++ a ∷ []) (arrays_from values nodes ranges m c (kids_of (drop (k + 1) fs))) ≡ whole
placed_step values nodes ranges fs k e d n b m c made a whole is below here next more_ranges all =
    let rest : Roses ArrayData = arrays_from values nodes ranges m c (kids_of (drop (k + 1) fs)) in
    let split = arrays_next values nodes ranges fs k e d n b m c a is below here next more_ranges in
    join_more made a rest ∙ (rw (← split) all)

pub ruleset placing = (kids_step, kids_end, join_more, join_none, kid_smaller, nodes_step, ranges_step)
