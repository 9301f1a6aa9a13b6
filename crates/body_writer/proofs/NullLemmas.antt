-- What a number of nulls gives to each buffer, and to children.
use Rattle.std.proofs.Common.{◌≡◌, ℕ, zero, suc, ◌+◌, ◌*◌, ◌-◌, List, [], ◌∷◌, ◌++◌, length, refl, ap, sym, ◌∙◌, arith, append_assoc, append-nil}
use Rattle.std.specs.Prelude.{map, replicate}
use Rattle.std.specs.List.{flat_map}
use Rattle.std.proofs.lemmas.List.{replicate-append-replicate, length-replicate}
use Rattle.byteorder.specs.Endian.{little_bytes}
use Rattle.values.specs.Datum.{Datum, null}
use Rattle.values.specs.declared.layout.OffsetWidth.{OffsetWidth}
use Rattle.values.specs.declared.layout.Layout.{Layout}
use Rattle.values.specs.declared.layout.Layout.TheVariants.{List as Listed, Struct}
use Rattle.values.specs.Layouts.{offset_bytes}
use Rattle.body_writer.specs.Slots.{null_count, length_in, total_length, part}
use Rattle.body_writer.specs.Columns.{joined, offsets_from, items, child_cells}
use Rattle.body_writer.specs.Runs.{slot_width, slot_bytes}
use Rattle.values.specs.Rose.{node, kids_of}
use Rattle.array_layout.specs.Cells.{cell}
use Rattle.body_writer.specs.declared.from_columns.segment.SlotRange.{SlotRange}
use Rattle.body_writer.specs.Segments.{range_cells}
use Rattle.body_writer.proofs.RunLemmas.{zeros-split}
use Rattle.body_writer.proofs.BitLemmas.{length-slots}
use Rattle.body_writer.proofs.SlotLemmas.{slot-null}

pub nulls-count : (n : ℕ) → null_count (replicate n null) ≡ n
nulls-count zero = refl
nulls-count (suc n) = let rest = nulls-count n in omega (arith, rest)

pub nulls-map : {A : Type 0} (f : Datum → A) (n : ℕ) → map f (replicate n null) ≡ replicate n (f null)
nulls-map f zero = refl
nulls-map f (suc n) = ap (λ xs. f null ∷ xs) (nulls-map f n)

nulls-flat : (f : Datum → List ℕ) (w n : ℕ) → f null ≡ replicate w 0
    → flat_map f (replicate n null) ≡ replicate (w * n) 0
nulls-flat f w zero z = let e : w * 0 ≡ 0 = omega arith in ap (λ (k : ℕ). replicate k 0) (sym e)
nulls-flat f w (suc n) z =
    let rest = nulls-flat f w n z in
    let sum : w + w * n ≡ w * suc n = omega arith in
    rw (z, rest) (zeros-split w (w * n) ∙ ap (λ (k : ℕ). replicate k 0) sum)

pub nulls-joined : (n : ℕ) (made : List ℕ) → made ≡ made ++ joined (replicate n null)
unfolding joined
nulls-joined zero made = sym (append-nil made)
nulls-joined (suc n) made = nulls-joined n made

pub nulls-lengths : (n : ℕ) → map length_in (replicate n null) ≡ replicate n 0
nulls-lengths n = nulls-map length_in n

pub nulls-total : (n : ℕ) → total_length (replicate n null) ≡ 0
nulls-total zero = refl
nulls-total (suc n) = let rest = nulls-total n in omega (arith, rest)

nulls-items : (n : ℕ) → items (replicate n null) ≡ []
unfolding items
nulls-items zero = refl
nulls-items (suc n) = nulls-items n

-- one null more, as the loop takes them
pub slots-more : (l : Layout) (n : ℕ) (before made next : List ℕ) → next ≡ made ++ replicate (slot_width l) 0
    → made ≡ before ++ flat_map (slot_bytes l) (replicate n null)
    → next ≡ before ++ flat_map (slot_bytes l) (replicate (n + 1) null)
slots-more l n before made next grown is =
    let w : ℕ = slot_width l in
    let one : slot_width l * n + slot_width l ≡ slot_width l * (n + 1) = omega arith in
    grown ∙ ap (λ xs. xs ++ replicate w 0) (is ∙ ap (λ xs. before ++ xs) (nulls-flat (slot_bytes l) w n (slot-null l)))
    ∙ append_assoc before (replicate (w * n) 0) (replicate w 0) ∙ ap (λ xs. before ++ xs) (zeros-split (w * n) w)
    ∙ ap (λ k. before ++ replicate k 0) one ∙ ap (λ xs. before ++ xs) (sym (nulls-flat (slot_bytes l) w (n + 1)
    (slot-null l)))

pub slots-none : (l : Layout) (made : List ℕ) → made ≡ made ++ flat_map (slot_bytes l) (replicate 0 null)
slots-none l made = sym (append-nil made)

-- one offset more, as the loop takes them
pub same-start : (o : OffsetWidth) (at : ℕ) (made next : List ℕ) (rest : List ℕ)
    → next ≡ made ++ little_bytes (offset_bytes o) at
    → next ++ offsets_from o at rest ≡ made ++ offsets_from o at (0 ∷ rest)
unfolding offsets_from
same-start o at made next rest is =
    let z : at ≡ at + 0 = omega arith in
    ap (λ xs. xs ++ offsets_from o at rest) is ∙ append_assoc made (little_bytes (offset_bytes o) at) (offsets_from o
    at rest)
    ∙ ap (λ n. made ++ (little_bytes (offset_bytes o) at ++ offsets_from o n rest)) z

pub zeros-more : (n : ℕ) (rest : List ℕ) → replicate n 0 ++ (0 ∷ rest) ≡ replicate (n + 1) 0 ++ rest
zeros-more n rest =
    sym (append_assoc (replicate n 0) (0 ∷ []) rest) ∙ ap (λ xs. xs ++ rest) (replicate-append-replicate {A = ℕ} n 1 0)

-- how many cells a segment of slots has
pub range-size : (r : SlotRange) → r.to - r.from ≡ length (range_cells r)
range-size r = sym (length-slots (cell r.parts.body.now (node r.parts.own.now (kids_of r.parts.children.now))) r.from
    (r.to - r.from))

pub nulls-size : (n : ℕ) → length (replicate n null) ≡ n
nulls-size n = length-replicate n null

-- what children have below nulls

pub below-struct : (l : Layout) (j n : ℕ) → l ≡ Struct → child_cells l j (replicate n null) ≡ replicate n null
below-struct l j n is = ap (λ y. child_cells y j (replicate n null)) is ∙ nulls-map (part j) n

pub below-list : (l : Layout) (o : OffsetWidth) (j n : ℕ) (made : List Datum) → l ≡ Listed o
    → made ≡ made ++ child_cells l j (replicate n null)
below-list l o j n made is =
    sym (append-nil made) ∙ ap (λ cs. made ++ cs) (sym (nulls-items n))
    ∙ ap (λ y. made ++ child_cells y j (replicate n null)) (sym is)

pub ruleset null_laws = (nulls-count, nulls-joined, nulls-size, range-size)
