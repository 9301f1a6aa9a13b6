-- Which of many numbers lie in a span, and which of many slots are null.
use Rattle.std.proofs.Common.{◌≡◌, ℕ, ◌+◌, ◌*◌, ◌/◌, ◌%◌, ◌^◌, ◌<◌, ◌≤◌, ◌==◌, List, [], ◌∷◌, ◌++◌, true, false, not, length, get_or, refl, ap, sym, ◌∙◌, arith}
use Rattle.std.specs.Prelude.{Bool, if◌then◌else◌, map, replicate}
use Rattle.std.specs.List.{range_with_len}
use Rattle.std.proofs.lemmas.Bool.{agree_below_at, eq-eqb, ne_eqb}
use Rattle.std.proofs.lemmas.List.{get_or-map, get_or-replicate, length-map}
use Rattle.std.proofs.lemmas.List.FromFn.{fill_by_all, get_or-map-range_with_len, length-map-range_with_len}
use Rattle.bitmaps.specs.Bits.{bit_at, bits_at}
use Rattle.bitmaps.specs.Blocks.{AreBits, IsBegun}
use Rattle.bitmaps.proofs.GatherLemmas.{begun-bit, begun-bytes, begun-end, none-begun}
use Rattle.bitmaps.proofs.Runs.{get_or-bits_at, length-bits_at}
use Rattle.array_layout.specs.Buffers.{is_null, unsigned_at}
use Rattle.values.specs.Layouts.{bytes_in}
use Rattle.values.specs.declared.layout.IntWidth.{IntWidth}
use Rattle.column_truths.specs.declared.spans.Span.{Span}
use Rattle.column_truths.specs.Spans.{in_span, lies_in, lying_in, nulls_by, passes_span, passing_span}

pub length-lying_in : (w : IntWidth) (low span : ℕ) (bytes : List ℕ) (n : ℕ) → length (lying_in w low span bytes n) ≡ n
unfolding lying_in
length-lying_in w low span bytes n = length-map-range_with_len (lies_in w low span bytes) 0 n

pub get_or-lying_in : (w : IntWidth) (low span : ℕ) (bytes : List ℕ) (n i : ℕ) → i < n
    → get_or (lying_in w low span bytes n) i false ≡ lies_in w low span bytes i
unfolding lying_in
get_or-lying_in w low span bytes n i below =
    get_or-map-range_with_len (lies_in w low span bytes) 0 n i i false below (omega arith)

-- eight more of them

pub more_lying : (w : IntWidth) (low span : ℕ) (bytes : List ℕ) (n i byte : ℕ) (made new : List Bool)
    → IsBegun made (lying_in w low span bytes n) → i ≡ length made → i + 8 ≤ n
    → AreBits 8 (byte ∷ []) (λ k. lies_in w low span bytes (i + k)) → new ≡ made ++ bits_at (byte ∷ []) 0 8
    → IsBegun new (lying_in w low span bytes n) × (length new ≡ length made + 8)
more_lying w low span bytes n i byte made new begun place within are is =
    let all = length-lying_in w low span bytes n in
    begun-bytes (lying_in w low span bytes n) made new (byte ∷ []) i 8 begun place
    (record {
      long = refl;
      each = λ k below. are.each k below ∙ sym (get_or-lying_in w low span bytes n (i + k) (omega (arith, below, within)));
    })
    (omega (arith, within, all)) is

pub one_lying : (w : IntWidth) (low span : ℕ) (bytes : List ℕ) (n i : ℕ) (b : Bool) (made new : List Bool)
    → IsBegun made (lying_in w low span bytes n) → length made ≡ i → i < n → b ≡ lies_in w low span bytes i
    → new ≡ made ++ b ∷ [] → IsBegun new (lying_in w low span bytes n) × (length new ≡ i + 1)
one_lying w low span bytes n i b made new begun here below bit is =
    let all = length-lying_in w low span bytes n in
    begun-bit (lying_in w low span bytes n) made new b i begun here (omega (arith, below, all))
    (bit ∙ sym (get_or-lying_in w low span bytes n i below)) is

pub all_lying : (w : IntWidth) (low span : ℕ) (bytes : List ℕ) (n i : ℕ) (made : List Bool)
    → IsBegun made (lying_in w low span bytes n) → length made ≡ i → n ≤ i → made ≡ lying_in w low span bytes n
all_lying w low span bytes n i made begun here past =
    begun-end (lying_in w low span bytes n) made i begun here (omega (arith, length-lying_in w low span bytes n, past))

pub ruleset lying = (length-lying_in, none-begun)

-- those of a span, or of all others

map-taken : (b : Bool) (f : ℕ → Bool) (xs : List ℕ)
    → (if b then map f xs else map not (map f xs)) ≡ map (λ i. if b then f i else not (f i)) xs
map-taken true f [] = refl
map-taken true f (x ∷ xs) = ap (λ ys. f x ∷ ys) (map-taken true f xs)
map-taken false f [] = refl
map-taken false f (x ∷ xs) = ap (λ ys. not (f x) ∷ ys) (map-taken false f xs)

taken_by : (w : IntWidth) (s : Span) (bytes : List ℕ) (n : ℕ)
    → (if s.inside then lying_in w s.low s.span bytes n else map not (lying_in w s.low s.span bytes n))
    ≡ passing_span w s bytes n
unfolding lying_in lies_in passing_span
taken_by w s bytes n = map-taken s.inside (λ i. in_span (8 * bytes_in w) s.low s.span (unsigned_at (bytes_in w) bytes i)) (range_with_len 0 n)

pub taken_inside : (w : IntWidth) (s : Span) (bytes : List ℕ) (n : ℕ) (made : List Bool) → s.inside ≡ true
    → made ≡ lying_in w s.low s.span bytes n → made ≡ passing_span w s bytes n
taken_inside w s bytes n made inside is =
    is
    ∙ sym (ap (λ b. if b then lying_in w s.low s.span bytes n else map not (lying_in w s.low s.span bytes n)) inside)
    ∙ taken_by w s bytes n

pub taken_outside : (w : IntWidth) (s : Span) (bytes : List ℕ) (n : ℕ) (made new : List Bool) → s.inside ≡ false
    → made ≡ lying_in w s.low s.span bytes n → new ≡ map not made → new ≡ passing_span w s bytes n
taken_outside w s bytes n made new inside is turned =
    turned ∙ ap (map not) is
    ∙ sym (ap (λ b. if b then lying_in w s.low s.span bytes n else map not (lying_in w s.low s.span bytes n)) inside)
    ∙ taken_by w s bytes n

pub ruleset taking = (taken_inside, taken_outside)

-- slots that are null

pub nulls_present : (bits : List ℕ) (n : ℕ) → 0 < length bits → map not (bits_at bits 0 n) ≡ nulls_by bits n
unfolding nulls_by is_null
nulls_present bits n some =
    fill_by_all (is_null bits) (map not (bits_at bits 0 n)) n false
    (length-map (bits_at bits 0 n) not ∙ length-bits_at bits 0 n)
    (λ k below.
    get_or-map not (bits_at bits 0 n) k false false (omega (arith, below, length-bits_at bits 0 n))
    ∙ ap not (get_or-bits_at bits 0 n k below) ∙ here k) where
      here : (k : ℕ) → not (bit_at bits (0 + k)) ≡ (if length bits == 0 then false else not (bit_at bits k))
      here k =
          ap (λ j. not (bit_at bits j)) (omega arith)
          ∙ sym (ap (λ b. if b then false else not (bit_at bits k)) (ne_eqb (length bits) 0 (λ e. omega (arith, e, some))))

ones-byte : (k : ℕ) → k < 8 → (255 / 2 ^ k % 2 == 1) ≡ true
ones-byte k below = agree_below_at (λ j. 255 / 2 ^ j % 2 == 1) (λ j. true) 8 k refl below

bit-ones : (m i : ℕ) → i < 8 * m → bit_at (replicate m 255) i ≡ true
bit-ones m i below =
    ap (λ b. b / 2 ^ (i % 8) % 2 == 1) (get_or-replicate m (i / 8) 255 0 (omega (arith, below)))
    ∙ ones-byte (i % 8) (omega arith)

pub nulls_absent : (bits valid : List ℕ) (m n : ℕ) → length bits ≡ 0 → valid ≡ replicate m 255 → n ≤ 8 * m
    → map not (bits_at valid 0 n) ≡ nulls_by bits n
unfolding nulls_by is_null
nulls_absent bits valid m n empty is room =
    fill_by_all (is_null bits) (map not (bits_at valid 0 n)) n false
    (length-map (bits_at valid 0 n) not ∙ length-bits_at valid 0 n)
    (λ k below.
    get_or-map not (bits_at valid 0 n) k false false (omega (arith, below, length-bits_at valid 0 n))
    ∙ ap not (get_or-bits_at valid 0 n k below ∙ ap (λ xs. bit_at xs (0 + k)) is
    ∙ bit-ones m (0 + k) (omega (arith, below, room)))
    ∙ sym (ap (λ b. if b then false else not (bit_at bits k)) (eq-eqb (length bits) 0 empty)))

pub ruleset null_slots = (nulls_present, nulls_absent)

pub length-passing_span : (w : IntWidth) (s : Span) (bytes : List ℕ) (n : ℕ) → length (passing_span w s bytes n) ≡ n
unfolding passing_span
length-passing_span w s bytes n = length-map-range_with_len (λ i. passes_span w s (unsigned_at (bytes_in w) bytes i)) 0 n

pub length-nulls_by : (bits : List ℕ) (n : ℕ) → length (nulls_by bits n) ≡ n
unfolding nulls_by
length-nulls_by bits n = length-map-range_with_len (is_null bits) 0 n
