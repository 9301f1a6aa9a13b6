-- The numbers of a span: how far each is above the lowest, where 0 comes after the greatest.
use Rattle.std.proofs.Common.{◌≡◌, ◌⊎◌, inl, inr, ℕ, ℤ, pos, negsuc, neg_ℤ, ◌+◌, ◌*◌, ◌-◌, ◌%◌, ◌^◌, ◌<◌, ◌≤◌, ◌+ℤ◌, ◌-ℤ◌, ◌≤ℤ◌, ◌<ℤ◌, true, false, not, nat_le, nat_lt, nat_abs, to_z, of_z, FitsSigned, int_le, refl, ap, sym, ◌∙◌, arith}
use Rattle.std.specs.Prelude.{Bool, ◌&&◌, if◌then◌else◌}
use mir.Syntax.{w128}
use Rattle.std.proofs.Math.Nat.{add-mod_right, mod-eq_of_lt}
use Rattle.std.proofs.lemmas.Bool.{cases_Bool, cases_lt, cond-true, cond-false, le-leb, le-ltb, lt-leb, lt-ltb}
use Rattle.std.proofs.lemmas.Int.{ints, to_z-of_z}
use Rattle.std.specs.Cmp.{int_ranks}
use Rattle.std.specs.Int.{int_max, int_min}
use Rattle.std.specs.Ordering.{MatchOrdering, int_cmp, is_eq, is_ge, is_gt, is_le, is_lt, is_ne}
use Rattle.std.specs.declared.cmp.Ordering.{Ordering}
use Rattle.std.specs.declared.cmp.Ordering.TheVariants.{Less, Equal, Greater}
use Rattle.values.specs.Layouts.{bytes_in, greatest_of, least_of}
use Rattle.values.specs.declared.layout.IntWidth.{IntWidth}
use Rattle.values.specs.declared.layout.IntWidth.TheVariants as int
use Rattle.array_layout.specs.Buffers.{number_by}
use Rattle.column_truths.specs.declared.spans.Span.{Span}
use Rattle.column_truths.specs.Spans.{AreBitsOfNumber, in_span, is_between, passes_span, numbers_in}

-- how far u is above low

distance-above : (m low u : ℕ) → low ≤ u → u < m → (u + (m - low)) % m ≡ u - low
distance-above m low u up small =
    let same : u + (m - low) ≡ (u - low) + m = omega (arith, up, small) in
    ap (λ k. k % m) same ∙ add-mod_right (u - low) m ∙ mod-eq_of_lt (omega (arith, up, small))

distance-round : (m low u : ℕ) → u < low → low < m → (u + (m - low)) % m ≡ u + (m - low)
distance-round m low u below small = mod-eq_of_lt (omega (arith, below, small))

-- how far the number z is above first, where the least comes after the greatest
abbrev IsDistance : ℕ → ℕ → ℤ → ℤ → Type 0
IsDistance m d first z =
    ((first ≤ℤ z) × (first +ℤ pos d ≡ z)) ⊎ ((z <ℤ first) × (first +ℤ pos d ≡ z +ℤ pos m))

is_distance : (m low u d : ℕ) (first z : ℤ) → low < m → u < m
    → ((u < low) × (d ≡ u + (m - low))) ⊎ ((low ≤ u) × (d ≡ u - low))
    → AreBitsOfNumber m low first → AreBitsOfNumber m u z
    → first <ℤ (z +ℤ pos m) → z <ℤ (first +ℤ pos m) → IsDistance m d first z
is_distance m low u d first z low_small small (inl (up, is)) (inl f) (inl g) a b =
    inr (omega (arith, ints, up, f, g), omega (arith, ints, up, is, f, g, low_small))
is_distance m low u d first z low_small small (inr (up, is)) (inl f) (inl g) a b =
    inl (omega (arith, ints, up, f, g), omega (arith, ints, up, is, f, g))
is_distance m low u d first z low_small small (inl (up, is)) (inr f) (inr g) a b =
    inr (omega (arith, ints, up, f, g), omega (arith, ints, up, is, f, g, low_small))
is_distance m low u d first z low_small small (inr (up, is)) (inr f) (inr g) a b =
    inl (omega (arith, ints, up, f, g), omega (arith, ints, up, is, f, g))
is_distance m low u d first z low_small small (inl (up, is)) (inl f) (inr g) a b =
    absurd (omega (arith, ints, up, f, g, a))
is_distance m low u d first z low_small small (inr (up, is)) (inl f) (inr g) a b =
    inr (omega (arith, ints, f, g, small), omega (arith, ints, up, is, f, g))
is_distance m low u d first z low_small small (inl (up, is)) (inr f) (inl g) a b =
    inl (omega (arith, ints, f, g, low_small), omega (arith, ints, up, is, f, g, low_small))
is_distance m low u d first z low_small small (inr (up, is)) (inr f) (inl g) a b =
    absurd (omega (arith, ints, up, f, g, b))

distance : (m low u : ℕ) (first z : ℤ) → low < m → u < m → AreBitsOfNumber m low first → AreBitsOfNumber m u z
    → first <ℤ (z +ℤ pos m) → z <ℤ (first +ℤ pos m) → IsDistance m ((u + (m - low)) % m) first z
distance m low u first z low_small small f g a b =
    is_distance m low u ((u + (m - low)) % m) first z low_small small (by (cases_lt u low)) f g a b where
      by : (u < low) ⊎ (low ≤ u)
          → ((u < low) × ((u + (m - low)) % m ≡ u + (m - low))) ⊎ ((low ≤ u) × ((u + (m - low)) % m ≡ u - low))
      by (inl h) = inl (h, distance-round m low u h low_small)
      by (inr h) = inr (h, distance-above m low u h small)

le-true : (x y : ℤ) → x ≤ℤ y → int_le x y ≡ true
le-true x y h = grind (arith, ints)

le-false : (x y : ℤ) → y <ℤ x → int_le x y ≡ false
le-false x y h = grind (arith, ints)

distance-between : (m span d : ℕ) (first last z : ℤ) → IsDistance m d first z → first +ℤ pos span ≡ last
    → last <ℤ (z +ℤ pos m) → is_between first last z ≡ nat_le d span
distance-between m span d first last z (inl (up, is)) all high =
    ap (λ b. b && int_le z last) (le-true first z up) ∙ by (cases_lt span d) where
      by : (span < d) ⊎ (d ≤ span) → int_le z last ≡ nat_le d span
      by (inl h) = le-false z last (omega (arith, ints, h, is, all)) ∙ sym (lt-leb d span h)
      by (inr h) = le-true z last (omega (arith, ints, h, is, all)) ∙ sym (le-leb d span h)
distance-between m span d first last z (inr (below, is)) all high =
    ap (λ b. b && int_le z last) (le-false first z below)
    ∙ sym (lt-leb d span (omega (arith, ints, is, all, high)))

-- the numbers of a width

-- in two's complement, where half of the numbers are negative
twos : (h u : ℕ) (z : ℤ) → u < h + h → z ≡ (if nat_lt u h then pos u else pos u -ℤ pos (h + h))
    → AreBitsOfNumber (h + h) u z × (neg_ℤ (pos h) ≤ℤ z) × (z ≤ℤ pos (h - 1))
twos h u z small is = by (cases_lt u h) where
  by : (u < h) ⊎ (h ≤ u) → AreBitsOfNumber (h + h) u z × (neg_ℤ (pos h) ≤ℤ z) × (z ≤ℤ pos (h - 1))
  by (inl low) =
      let here : z ≡ pos u = is ∙ cond-true (nat_lt u h) (pos u) (pos u -ℤ pos (h + h)) (lt-ltb u h low) in
      (inl here, omega (arith, ints, here), omega (arith, ints, here, low))
  by (inr high) =
      let here : z ≡ pos u -ℤ pos (h + h) =
      is ∙ cond-false (nat_lt u h) (pos u) (pos u -ℤ pos (h + h)) (le-ltb u h high) in
      (inr (omega (arith, ints, here)), omega (arith, ints, here, high), omega (arith, ints, here, small))

-- the number of some bits: that it has them, and that it is within its width
abbrev IsNumberOf : IntWidth → Bool → ℕ → ℤ → Type 0
IsNumberOf w s u z = AreBitsOfNumber (numbers_in w) u z × (least_of w s ≤ℤ z) × (z ≤ℤ greatest_of w s)

plain : (m u : ℕ) → u < m → AreBitsOfNumber m u (pos u) × (pos 0 ≤ℤ pos u) × (pos u ≤ℤ pos (m - 1))
plain m u small = (inl refl, omega (arith, ints), omega (arith, ints, small))

pub number_of : (w : IntWidth) (s : Bool) (u : ℕ) → u < numbers_in w
    → IsNumberOf w s u (number_by s (bytes_in w) u)
number_of int.Bits8 true u h = twos (2 ^ 7) u _ h refl
number_of int.Bits16 true u h = twos (2 ^ 15) u _ h refl
number_of int.Bits32 true u h = twos (2 ^ 31) u _ h refl
number_of int.Bits64 true u h = twos (2 ^ 63) u _ h refl
number_of int.Bits8 false u h = plain (2 ^ 8) u h
number_of int.Bits16 false u h = plain (2 ^ 16) u h
number_of int.Bits32 false u h = plain (2 ^ 32) u h
number_of int.Bits64 false u h = plain (2 ^ 64) u h

near-signed : (h : ℕ) (x z : ℤ) → 0 < h → neg_ℤ (pos h) ≤ℤ z → x ≤ℤ pos (h - 1) → x <ℤ (z +ℤ pos (h + h))
near-signed h x z some a b = omega (arith, ints, some, a, b)

near-plain : (m : ℕ) (x z : ℤ) → 0 < m → pos 0 ≤ℤ z → x ≤ℤ pos (m - 1) → x <ℤ (z +ℤ pos m)
near-plain m x z some a b = omega (arith, ints, some, a, b)

-- two numbers of a width are less apart than it has numbers
pub near : (w : IntWidth) (s : Bool) (x z : ℤ) → least_of w s ≤ℤ z → x ≤ℤ greatest_of w s → x <ℤ (z +ℤ pos (numbers_in w))
near int.Bits8 true x z a b = near-signed (2 ^ 7) x z (omega arith) a b
near int.Bits16 true x z a b = near-signed (2 ^ 15) x z (omega arith) a b
near int.Bits32 true x z a b = near-signed (2 ^ 31) x z (omega arith) a b
near int.Bits64 true x z a b = near-signed (2 ^ 63) x z (omega arith) a b
near int.Bits8 false x z a b = near-plain (2 ^ 8) x z (omega arith) a b
near int.Bits16 false x z a b = near-plain (2 ^ 16) x z (omega arith) a b
near int.Bits32 false x z a b = near-plain (2 ^ 32) x z (omega arith) a b
near int.Bits64 false x z a b = near-plain (2 ^ 64) x z (omega arith) a b

pub span_taken : (w : IntWidth) (s : Bool) (first last : ℤ) (low span u : ℕ) → least_of w s ≤ℤ first → first ≤ℤ last
    → last ≤ℤ greatest_of w s → low < numbers_in w → AreBitsOfNumber (numbers_in w) low first
    → first +ℤ pos span ≡ last → u < numbers_in w
    → is_between first last (number_by s (bytes_in w) u) ≡ in_span (8 * bytes_in w) low span u
span_taken w s first last low span u a ordered b low_small f all small =
    let z = number_by s (bytes_in w) u in
    let number = number_of w s u small in
    let first_high : first ≤ℤ greatest_of w s = omega (arith, ints, ordered, b) in
    distance-between (numbers_in w) span ((u + (numbers_in w - low)) % numbers_in w) first last z
    (distance (numbers_in w) low u first z low_small small f number.0 (near w s first z number.1 first_high)
    (near w s z first a number.2)) all (near w s last z number.1 b)

-- two numbers that a call was given
pub read_both : {X : Type 0} (f : ℤ → ℤ → X) (x y : ℤ) → FitsSigned w128 x → FitsSigned w128 y
    → f (to_z w128 (of_z w128 x)) (to_z w128 (of_z w128 y)) ≡ f x y
read_both f x y p q =
    ap (λ a. f a (to_z w128 (of_z w128 y))) (to_z-of_z w128 x p) ∙ ap (f x) (to_z-of_z w128 y q)

pub span_read : (first last : ℤ) (m : ℕ) → FitsSigned w128 first → FitsSigned w128 last → first ≤ℤ last
    → last <ℤ (first +ℤ pos m) → m ≤ 2 ^ 64
    → first +ℤ pos (nat_abs (to_z w128 (of_z w128 (to_z w128 (of_z w128 last) -ℤ to_z w128 (of_z w128 first))))) ≡ last
span_read first last m p q ordered close few =
    let x = to_z w128 (of_z w128 (to_z w128 (of_z w128 last) -ℤ to_z w128 (of_z w128 first))) in
    let is : first +ℤ x ≡ last = omega (arith, ints, ordered, close, few) in
    of_positive first x last is (omega (arith, ints, is, ordered)) where
      of_positive : (a x b : ℤ) → a +ℤ x ≡ b → pos 0 ≤ℤ x → a +ℤ pos (nat_abs x) ≡ b
      of_positive a (pos n) b is h = is
      of_positive a (negsuc n) b is h = absurd (omega (arith, ints, h))

-- the numbers of a width that lie between two
pub clipped : (w : IntWidth) (s : Bool) (from to first last : ℤ) (u : ℕ) → u < numbers_in w
    → first ≡ int_max from (least_of w s) → last ≡ int_min to (greatest_of w s)
    → is_between from to (number_by s (bytes_in w) u) ≡ is_between first last (number_by s (bytes_in w) u)
clipped w s from to first last u small a b =
    let z = number_by s (bytes_in w) u in
    let number = number_of w s u small in
    ap (λ t. t && int_le z to) (raised from (least_of w s) first z number.1 a)
    ∙ ap (λ t. int_le first z && t) (lowered to (greatest_of w s) last z number.2 b) where
      raised : (from least first z : ℤ) → least ≤ℤ z → first ≡ int_max from least → int_le from z ≡ int_le first z
      raised from least first z h is = grind (arith, ints)

      lowered : (to greatest last z : ℤ) → z ≤ℤ greatest → last ≡ int_min to greatest → int_le z to ≡ int_le z last
      lowered to greatest last z h is = grind (arith, ints)

pub between_none : (first last z : ℤ) → last <ℤ first → is_between first last z ≡ false
between_none first last z h = by (cases_le first z) where
  cases_le : (x y : ℤ) → (x ≤ℤ y) ⊎ (y <ℤ x)
  cases_le x y = elim (cases_Bool (int_le x y)) [
    | inl h ↦ inl (grind (arith, ints))
    | inr h ↦ inr (grind (arith, ints))
  ]

  by : (first ≤ℤ z) ⊎ (z <ℤ first) → is_between first last z ≡ false
  by (inl up) = ap (λ b. b && int_le z last) (le-true first z up) ∙ le-false z last (omega (arith, ints, up, h))
  by (inr below) = ap (λ b. b && int_le z last) (le-false first z below)

pub numbers_few : (w : IntWidth) → (0 < numbers_in w) × (numbers_in w ≤ 2 ^ 64)
numbers_few int.Bits8 = (omega arith, omega arith)
numbers_few int.Bits16 = (omega arith, omega arith)
numbers_few int.Bits32 = (omega arith, omega arith)
numbers_few int.Bits64 = (omega arith, omega arith)

-- comparisons, by the numbers that lie between two

-- the least and the greatest number of 128 bits
abbrev pub lowest : ℤ
lowest = negsuc (2 ^ 127 - 1)

abbrev pub highest : ℤ
highest = pos (2 ^ 127 - 1)

abbrev pub IsFar : ℤ → Type 0
IsFar z = (lowest ≤ℤ z) × (z ≤ℤ highest)

far : (w : IntWidth) (s : Bool) (z : ℤ) → least_of w s ≤ℤ z → z ≤ℤ greatest_of w s → IsFar z
far int.Bits8 true z a b = (omega (arith, ints, a), omega (arith, ints, b))
far int.Bits16 true z a b = (omega (arith, ints, a), omega (arith, ints, b))
far int.Bits32 true z a b = (omega (arith, ints, a), omega (arith, ints, b))
far int.Bits64 true z a b = (omega (arith, ints, a), omega (arith, ints, b))
far int.Bits8 false z a b = (omega (arith, ints, a), omega (arith, ints, b))
far int.Bits16 false z a b = (omega (arith, ints, a), omega (arith, ints, b))
far int.Bits32 false z a b = (omega (arith, ints, a), omega (arith, ints, b))
far int.Bits64 false z a b = (omega (arith, ints, a), omega (arith, ints, b))

pub number_far : (w : IntWidth) (s : Bool) (u : ℕ) → u < numbers_in w → IsFar (number_by s (bytes_in w) u)
number_far w s u small =
    let number = number_of w s u small in
    far w s (number_by s (bytes_in w) u) number.1 number.2

-- how a number compares with another
abbrev AreRanked : ℤ → ℤ → Type 0
AreRanked z k = (int_cmp z k ≡ Less × (z <ℤ k)) ⊎ ((int_cmp z k ≡ Equal × (z ≡ k)) ⊎ (int_cmp z k ≡ Greater × (k <ℤ z)))

ranked : (z k : ℤ) → AreRanked z k
ranked z k = by (int_cmp z k) (int_ranks z k) where
  by : (o : Ordering) → MatchOrdering o (z <ℤ k) (z ≡ k) (k <ℤ z)
      → (o ≡ Less × (z <ℤ k)) ⊎ ((o ≡ Equal × (z ≡ k)) ⊎ (o ≡ Greater × (k <ℤ z)))
  by Less h = inl (refl, h)
  by Equal h = inr (inl (refl, h))
  by Greater h = inr (inr (refl, h))

pub same_between : (z k : ℤ) → is_eq (int_cmp z k) ≡ is_between k k z
same_between z k = elim (ranked z k) [
  | inl h ↦ ap is_eq h.0 ∙ sym (ap (λ b. b && int_le z k) (le-false k z h.1))
  | inr e ↦ elim e [
    | inl h ↦ ap is_eq h.0 ∙ sym (ap (λ b. b && int_le z k) (le-true k z (omega (arith, ints, h.1))) ∙ le-true z k (omega (arith, ints, h.1)))
    | inr h ↦ ap is_eq h.0 ∙ sym (ap (λ b. b && int_le z k) (le-true k z (omega (arith, ints, h.1))) ∙ le-false z k h.1)
  ]
]

pub below_between : (least z k : ℤ) → least ≤ℤ z → is_le (int_cmp z k) ≡ is_between least k z
below_between least z k low = elim (ranked z k) [
  | inl h ↦ ap is_le h.0 ∙ sym (up ∙ le-true z k (omega (arith, ints, h.1)))
  | inr e ↦ elim e [
    | inl h ↦ ap is_le h.0 ∙ sym (up ∙ le-true z k (omega (arith, ints, h.1)))
    | inr h ↦ ap is_le h.0 ∙ sym (up ∙ le-false z k h.1)
  ]
] where
  up : is_between least k z ≡ int_le z k
  up = ap (λ b. b && int_le z k) (le-true least z low)

pub above_between : (greatest z k : ℤ) → z ≤ℤ greatest → is_ge (int_cmp z k) ≡ is_between k greatest z
above_between greatest z k high = elim (ranked z k) [
  | inl h ↦ ap is_ge h.0 ∙ sym (ap (λ b. b && int_le z greatest) (le-false k z h.1))
  | inr e ↦ elim e [
    | inl h ↦ ap is_ge h.0 ∙ sym (up (omega (arith, ints, h.1)))
    | inr h ↦ ap is_ge h.0 ∙ sym (up (omega (arith, ints, h.1)))
  ]
] where
  up : k ≤ℤ z → is_between k greatest z ≡ true
  up h = ap (λ b. b && int_le z greatest) (le-true k z h) ∙ le-true z greatest high

opposite_eq : (o : Ordering) → is_ne o ≡ not (is_eq o)
opposite_eq Less = refl
opposite_eq Equal = refl
opposite_eq Greater = refl

opposite_le : (o : Ordering) → is_gt o ≡ not (is_le o)
opposite_le Less = refl
opposite_le Equal = refl
opposite_le Greater = refl

opposite_ge : (o : Ordering) → is_lt o ≡ not (is_ge o)
opposite_ge Less = refl
opposite_ge Equal = refl
opposite_ge Greater = refl

others_taken : (w : IntWidth) (s t : Span) (u : ℕ) → t.low ≡ s.low → t.span ≡ s.span → t.inside ≡ not s.inside
    → not (passes_span w s u) ≡ passes_span w t u
others_taken w s t u low span inside =
    let f : ℕ → ℕ → Bool = λ l n. in_span (8 * bytes_in w) l n u in
    by s.inside (f s.low s.span) ∙ ap (λ b. if b then f s.low s.span else not (f s.low s.span)) (sym inside)
    ∙ ap (λ l. if t.inside then f l s.span else not (f l s.span)) (sym low)
    ∙ ap (λ n. if t.inside then f t.low n else not (f t.low n)) (sym span) where
      by : (a b : Bool) → not (if a then b else not b) ≡ (if not a then b else not b)
      by true b = refl
      by false true = refl
      by false false = refl

-- of each comparison, whose cases `span_of` goes through
pub taken_Different : (w : IntWidth) (z k : ℤ) (s t : Span) (u : ℕ) → is_between k k z ≡ passes_span w s u
    → t.low ≡ s.low → t.span ≡ s.span → t.inside ≡ not s.inside → is_ne (int_cmp z k) ≡ passes_span w t u
taken_Different w z k s t u is a b c =
    opposite_eq (int_cmp z k) ∙ ap not (same_between z k ∙ is) ∙ others_taken w s t u a b c

pub taken_Above : (w : IntWidth) (least z k : ℤ) (s t : Span) (u : ℕ) → least ≤ℤ z → is_between least k z ≡ passes_span w s u
    → t.low ≡ s.low → t.span ≡ s.span → t.inside ≡ not s.inside → is_gt (int_cmp z k) ≡ passes_span w t u
taken_Above w least z k s t u low is a b c =
    opposite_le (int_cmp z k) ∙ ap not (below_between least z k low ∙ is) ∙ others_taken w s t u a b c

pub taken_Below : (w : IntWidth) (greatest z k : ℤ) (s t : Span) (u : ℕ) → z ≤ℤ greatest
    → is_between k greatest z ≡ passes_span w s u
    → t.low ≡ s.low → t.span ≡ s.span → t.inside ≡ not s.inside → is_lt (int_cmp z k) ≡ passes_span w t u
taken_Below w greatest z k s t u high is a b c =
    opposite_ge (int_cmp z k) ∙ ap not (above_between greatest z k high ∙ is) ∙ others_taken w s t u a b c

-- no number, as all others than all
pub none_taken : (w : IntWidth) (s : Span) (u : ℕ) → s.low ≡ 0 → s.span + 1 ≡ numbers_in w → s.inside ≡ false
    → u < numbers_in w → false ≡ passes_span w s u
none_taken w s u low span inside small =
    let m = numbers_in w in
    let whole : (u + (m - s.low)) % m ≡ u =
    ap (λ k. k % m) (omega (arith, low)) ∙ add-mod_right u m ∙ mod-eq_of_lt small in
    let within : nat_le ((u + (m - s.low)) % m) s.span ≡ true =
    ap (λ k. nat_le k s.span) whole ∙ le-leb u s.span (omega (arith, span, small)) in
    sym (ap (λ b. if b then nat_le ((u + (m - s.low)) % m) s.span else not (nat_le ((u + (m - s.low)) % m) s.span)) inside
    ∙ ap not within)
