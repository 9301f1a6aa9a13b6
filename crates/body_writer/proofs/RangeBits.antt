-- Ranges of slots, by the bits of their array.
use Rattle.std.proofs.Common.{◌≡◌, ℕ, ◌+◌, ◌-◌, ◌<◌, List, length, ap, ◌∙◌, arith, None, refl, zero, suc}
use Rattle.std.specs.Prelude.{true, false, ◌==◌, ◌&&◌, map, replicate}
use Rattle.std.proofs.lemmas.Bool.Decides.{nat_tests}
use Rattle.values.specs.Rose.{node, kids_of}
use Rattle.values.specs.declared.layout.Layout.TheVariants.{Bool as Booleans}
use Rattle.bitmaps.specs.Bits.{bits_at, ones, pairwise}
use Rattle.array_layout.specs.Placing.{bytes_of}
use Rattle.array_layout.specs.Cells.{cell}
use Rattle.body_writer.specs.Slots.{is_valid, null_count, truth_in}
use Rattle.body_writer.specs.Segments.{IsChecked, range_cells}
use Rattle.body_writer.specs.declared.from_columns.segment.SlotRange.{SlotRange}
use Rattle.body_writer.proofs.SlotLemmas.{AllValid}
use Rattle.body_writer.proofs.BitLemmas.{all-set, length-slots, ones-nulls, plain-truths, truth-bits, valid-bits}

some-bytes : (n : ℕ) → false ≡ (n == 0) → 0 < n
some-bytes n is = grind (arith, nat_tests)

no-bytes : (n : ℕ) → true ≡ (n == 0) → n ≡ 0
no-bytes n is = grind (arith, nat_tests)

range-sound : (r : SlotRange) → IsChecked r
    → AllValid r.parts.body.now r.parts.own.now (kids_of r.parts.children.now) r.from (r.from + (r.to - r.from))
range-sound r checked k lo hi = checked.valid k lo (omega (arith, hi, checked.order))

pub range-size : (r : SlotRange) → length (range_cells r) ≡ r.to - r.from
range-size r =
    length-slots (cell r.parts.body.now (node r.parts.own.now (kids_of r.parts.children.now))) r.from (r.to - r.from)

pub range-valid : (r : SlotRange) (bits : List ℕ) → IsChecked r → r.parts.own.now.dictionary ≡ None
    → bits ≡ bytes_of r.parts.body.now r.parts.own.now.validity → false ≡ (length bits == 0)
    → bits_at bits r.from (r.to - r.from) ≡ map is_valid (range_cells r)
range-valid r bits checked plain same some =
    valid-bits r.parts.body.now bits r.parts.own.now (kids_of r.parts.children.now) r.from (r.to - r.from) same
    (some-bytes (length bits) some) plain (range-sound r checked)

pub range-set : (r : SlotRange) (bits : List ℕ) → IsChecked r → r.parts.own.now.dictionary ≡ None
    → bits ≡ bytes_of r.parts.body.now r.parts.own.now.validity → true ≡ (length bits == 0)
    → replicate (r.to - r.from) true ≡ map is_valid (range_cells r)
range-set r bits checked plain same none =
    all-set r.parts.body.now bits r.parts.own.now (kids_of r.parts.children.now) r.from (r.to - r.from) same
    (no-bytes (length bits) none) plain (range-sound r checked)

pub range-nulls : (r : SlotRange) (bits : List ℕ) → IsChecked r → r.parts.own.now.dictionary ≡ None
    → bits ≡ bytes_of r.parts.body.now r.parts.own.now.validity → false ≡ (length bits == 0)
    → ones (bits_at bits r.from (r.to - r.from)) + null_count (range_cells r) ≡ r.to - r.from
range-nulls r bits checked plain same some =
    ap (λ bs. ones bs + null_count (range_cells r)) (range-valid r bits checked plain same some)
    ∙ ones-nulls (range_cells r) ∙ range-size r

ones-set : (n : ℕ) → ones (replicate n true) ≡ n
unfolding ones
ones-set zero = refl
ones-set (suc n) = let rest = ones-set n in omega (arith, rest)

pub range-no-nulls : (r : SlotRange) (bits : List ℕ) → IsChecked r → r.parts.own.now.dictionary ≡ None
    → bits ≡ bytes_of r.parts.body.now r.parts.own.now.validity → true ≡ (length bits == 0)
    → 0 ≡ null_count (range_cells r)
range-no-nulls r bits checked plain same none =
    let all = ap ones (range-set r bits checked plain same none) in
    omega (arith, all, ones-set (r.to - r.from), ones-nulls (range_cells r), range-size r)

pub range-truths : (r : SlotRange) (bits xs : List ℕ) → r.parts.own.now.dictionary ≡ None
    → r.parts.own.now.layout ≡ Booleans → bits ≡ bytes_of r.parts.body.now r.parts.own.now.validity
    → xs ≡ bytes_of r.parts.body.now r.parts.own.now.values → false ≡ (length bits == 0)
    → pairwise (λ x y. x && y) (bits_at bits r.from (r.to - r.from)) (bits_at xs r.from (r.to - r.from))
    ≡ map truth_in (range_cells r)
range-truths r bits xs plain layout same values some =
    truth-bits r.parts.body.now bits xs r.parts.own.now (kids_of r.parts.children.now) r.from (r.to - r.from) same
    values (some-bytes (length bits) some) plain layout

pub range-plain-truths : (r : SlotRange) (bits xs : List ℕ) → r.parts.own.now.dictionary ≡ None
    → r.parts.own.now.layout ≡ Booleans → bits ≡ bytes_of r.parts.body.now r.parts.own.now.validity
    → xs ≡ bytes_of r.parts.body.now r.parts.own.now.values → true ≡ (length bits == 0)
    → bits_at xs r.from (r.to - r.from) ≡ map truth_in (range_cells r)
range-plain-truths r bits xs plain layout same values none =
    plain-truths r.parts.body.now bits xs r.parts.own.now (kids_of r.parts.children.now) r.from (r.to - r.from) same
    values (no-bytes (length bits) none) plain layout

pub ruleset range_bits = (range-size, range-valid, range-set, range-nulls, range-no-nulls, range-truths, range-plain-truths)
