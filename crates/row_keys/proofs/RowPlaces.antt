-- Positions of numbers that rise.
use Rattle.std.proofs.Common.{◌≡◌, ◌⊎◌, inl, inr, ℕ, zero, suc, ◌+◌, ◌-◌, ◌<◌, ◌≤◌, false, List, [], ◌∷◌, get_or, length, take, refl, ap, sym, subst, ◌∙◌, arith, min}
use Rattle.std.specs.Prelude.{if◌then◌else◌, nat_lt}
use Rattle.std.specs.List.Sorted.{IsPartitionedBy}
use Rattle.std.proofs.lemmas.Bool.{lt-ltb, ltb-false, ltb-true, ne_eqb}
use Rattle.std.proofs.lemmas.Bool.Decides.{eqb_tells, leb_tells}
use Rattle.row_keys.specs.Chunks.{AreBelow, AreRising, IsNoneOf, IsPlaceOf, in_turn, numbers_by, place_in}
use Rattle.row_keys.proofs.ListedItems.{listed_long, listed_take, listed_whole}

-- where a number is

pub here_first : (m n : ℕ) (ms : List ℕ) → m ≡ n → place_in (m ∷ ms) n ≡ 0
here_first m n ms is = ap (λ b. if b then 0 else suc (place_in ms n)) (elim (eqb_tells m n) [
  | inl t ↦ t.0
  | inr t ↦ absurd (t.1 is)
])

pub not_first : (m n : ℕ) (ms : List ℕ) → (m ≡ n → ⊥) → place_in (m ∷ ms) n ≡ suc (place_in ms n)
not_first m n ms other = ap (λ b. if b then 0 else suc (place_in ms n)) (ne_eqb m n other)

pub first_or_not : (m n : ℕ) → (m ≡ n) ⊎ (m ≡ n → ⊥)
first_or_not m n = elim (eqb_tells m n) [ inl t ↦ inl t.1 | inr t ↦ inr t.1 ]

pub place_within : (ns : List ℕ) (n : ℕ) → place_in ns n ≤ length ns
place_within [] n = omega arith
place_within (m ∷ ms) n = elim (first_or_not m n) [
  | inl is ↦ let e = here_first m n ms is in omega (arith, e)
  | inr other ↦
      let e = not_first m n ms other in
      let rest = place_within ms n in
      omega (arith, e, rest)
]

-- the number there
pub place_is : (ns : List ℕ) (n d : ℕ) → place_in ns n < length ns → get_or ns (place_in ns n) d ≡ n
place_is [] n d below = absurd (omega (arith, below))
place_is (m ∷ ms) n d below = elim (first_or_not m n) [
  | inl is ↦ ap (λ i. get_or (m ∷ ms) i d) (here_first m n ms is) ∙ is
  | inr other ↦
      let e = not_first m n ms other in
      ap (λ i. get_or (m ∷ ms) i d) e ∙ place_is ms n d (omega (arith, below, e))
]

-- so that other numbers are at other positions
pub places_differ : (ns : List ℕ) (n m : ℕ) → place_in ns n < length ns → (m ≡ n → ⊥) → place_in ns m ≡ place_in ns n → ⊥
places_differ ns n m below other same =
    other (sym (place_is ns m 0 (omega (arith, same, below))) ∙ ap (λ i. get_or ns i 0) same ∙ place_is ns n 0 below)

-- Numbers that rise

pub rising_within : (from end : ℕ) (ns : List ℕ) → AreRising from ns end → from ≤ end
rising_within from end [] are = are
rising_within from end (n ∷ ns) are =
    let rest = rising_within (suc n) end ns are.1 in
    let low = are.0 in
    omega (arith, rest, low)

pub rising_from : (from low end : ℕ) (ns : List ℕ) → AreRising from ns end → low ≤ from → AreRising low ns end
rising_from from low end [] are le = omega (arith, are, le)
rising_from from low end (n ∷ ns) are le = let first = are.0 in (omega (arith, first, le), are.1)

pub rising_upto : (from end more : ℕ) (ns : List ℕ) → AreRising from ns end → end ≤ more → AreRising from ns more
rising_upto from end more [] are le = omega (arith, are, le)
rising_upto from end more (n ∷ ns) are le = (are.0, rising_upto (suc n) end more ns are.1 le)

pub rising_at : (from end : ℕ) (ns : List ℕ) (i d : ℕ) → AreRising from ns end → i < length ns
    → (from ≤ get_or ns i d) × (get_or ns i d < end)
rising_at from end [] i d are below = absurd (omega (arith, below))
rising_at from end (n ∷ ns) zero d are below =
    let rest = rising_within (suc n) end ns are.1 in
    (are.0, omega (arith, rest))
rising_at from end (n ∷ ns) (suc i) d are below =
    let rest = rising_at (suc n) end ns i d are.1 (omega (arith, below)) in
    let first = are.0 in
    let low = rest.0 in
    (omega (arith, first, low), rest.1)

pub rising_more : (from end : ℕ) (ns : List ℕ) (i j d : ℕ) → AreRising from ns end → i ≤ j → j < length ns
    → get_or ns i d ≤ get_or ns j d
rising_more from end [] i j d are le below = absurd (omega (arith, below))
rising_more from end (n ∷ ns) zero zero d are le below = omega arith
rising_more from end (n ∷ ns) zero (suc j) d are le below =
    let rest = (rising_at (suc n) end ns j d are.1 (omega (arith, below))).0 in omega (arith, rest)
rising_more from end (n ∷ ns) (suc i) zero d are le below = absurd (omega (arith, le))
rising_more from end (n ∷ ns) (suc i) (suc j) d are le below =
    rising_more (suc n) end ns i j d are.1 (omega (arith, le)) (omega (arith, below))

-- A number below or above all of them is none of them.
pub none_under : (from end : ℕ) (ns : List ℕ) (n : ℕ) → AreRising from ns end → n < from → place_in ns n ≡ length ns
none_under from end [] n are below = refl
none_under from end (m ∷ ms) n are below =
    let first = are.0 in
    not_first m n ms (λ e. omega (arith, e, first, below))
    ∙ ap suc (none_under (suc m) end ms n are.1 (omega (arith, first, below)))

pub none_over : (from end : ℕ) (ns : List ℕ) (n : ℕ) → AreRising from ns end → end ≤ n → place_in ns n ≡ length ns
none_over from end [] n are past = refl
none_over from end (m ∷ ms) n are past =
    let rest = rising_within (suc m) end ms are.1 in
    not_first m n ms (λ e. omega (arith, e, rest, past)) ∙ ap suc (none_over (suc m) end ms n are.1 past)

-- the position of the number at a position
pub place_of_at : (from end : ℕ) (ns : List ℕ) (i d : ℕ) → AreRising from ns end → i < length ns
    → place_in ns (get_or ns i d) ≡ i
place_of_at from end [] i d are below = absurd (omega (arith, below))
place_of_at from end (m ∷ ms) zero d are below = here_first m m ms refl
place_of_at from end (m ∷ ms) (suc i) d are below =
    let above = (rising_at (suc m) end ms i d are.1 (omega (arith, below))).0 in
    not_first m (get_or ms i d) ms (λ e. omega (arith, e, above))
    ∙ ap suc (place_of_at (suc m) end ms i d are.1 (omega (arith, below)))

-- Looking a number up

pub rising_parted : (from end : ℕ) (ns : List ℕ) (n : ℕ) → AreRising from ns end → IsPartitionedBy (λ m. nat_lt m n) ns
rising_parted from end ns n are i j d le below passes =
    let rise = rising_more from end ns i j d are le below in
    let less = ltb-true (get_or ns j d) n passes in
    lt-ltb (get_or ns i d) n (omega (arith, rise, less))

pub found_at : (from end : ℕ) (ns : List ℕ) (n k d : ℕ) → AreRising from ns end → k < length ns → get_or ns k d ≡ n
    → IsPlaceOf ns n k
found_at from end ns n k d are below is = (below, ap (place_in ns) (sym is) ∙ place_of_at from end ns k d are below)

pub found_nowhere : (from end : ℕ) (ns : List ℕ) (n k : ℕ) → AreRising from ns end → AreBelow n ns k
    → ((d : ℕ) → k < length ns → get_or ns k d ≡ n → ⊥) → IsNoneOf ns n
found_nowhere from end ns n k are point none = elim (end_or_in (place_in ns n) (place_within ns n)) [
  | inl past ↦ past
  | inr below ↦
      let here = place_is ns n n below in
      elim (leb_tells (suc (place_in ns n)) k) [
        | inl t ↦
            let less = ltb-true (get_or ns (place_in ns n) n) n (point.0 (place_in ns n) n (omega arith) (omega (arith, t.1))) in
            absurd (omega (arith, less, here))
        | inr t ↦
            let inside : k < length ns = omega (arith, t.1, below) in
            let least = ltb-false (get_or ns k n) n (point.1 k n (omega arith) inside) in
            let rise = rising_more from end ns k (place_in ns n) n are (omega (arith, t.1)) below in
            absurd (none n inside (omega (arith, least, rise, here)))
      ]
]
  where
    end_or_in : (i : ℕ) → i ≤ length ns → (i ≡ length ns) ⊎ (i < length ns)
    end_or_in i le = elim (leb_tells (suc i) (length ns)) [
      | inl t ↦ inr (omega (arith, t.1))
      | inr t ↦ inl (omega (arith, t.1, le))
    ]

pub same_at : (ns : List ℕ) (k d e : ℕ) → k < length ns → get_or ns k d ≡ get_or ns k e
same_at [] k d e below = absurd (omega (arith, below))
same_at (n ∷ ns) zero d e below = refl
same_at (n ∷ ns) (suc k) d e below = same_at ns k d e (omega (arith, below))

-- Consecutive numbers

pub in_turn_place : (first count n : ℕ) → first ≤ n → n < first + count → place_in (in_turn first count) n ≡ n - first
in_turn_place first zero n low high = absurd (omega (arith, low, high))
in_turn_place first (suc count) n low high = elim (first_or_not first n) [
  | inl is ↦
      let none : 0 ≡ n - first = omega (arith, is) in here_first first n (in_turn (suc first) count) is ∙ none
  | inr other ↦
      let above : suc first ≤ n = elim (leb_tells (suc first) n) [
        | inl t ↦ t.1
        | inr t ↦ absurd (other (omega (arith, t.1, low)))
      ] in
      let next : suc (n - suc first) ≡ n - first = omega (arith, above) in
      not_first first n (in_turn (suc first) count) other
      ∙ ap suc (in_turn_place (suc first) count n above (omega (arith, high)))
      ∙ next
]

pub in_turn_rising : (first count : ℕ) → AreRising first (in_turn first count) (first + count)
in_turn_rising first zero = omega arith
in_turn_rising first (suc count) =
    let e : suc first + count ≡ first + suc count = omega arith in
    (omega arith, subst (λ k. AreRising (suc first) (in_turn (suc first) count) k) e (in_turn_rising (suc first) count))

pub turn_long : (first count : ℕ) → length (in_turn first count) ≡ count
turn_long first count = listed_long (λ i. i) first count

pub turn_none_under : (first count n : ℕ) → n < first → IsNoneOf (in_turn first count) n
turn_none_under first count n below = none_under first (first + count) (in_turn first count) n (in_turn_rising first count) below

pub turn_none_over : (first count n : ℕ) → first + count ≤ n → IsNoneOf (in_turn first count) n
turn_none_over first count n past = none_over first (first + count) (in_turn first count) n (in_turn_rising first count) past

pub turn_found : (first count n i : ℕ) → first ≤ n → i ≡ n - first → i < count → IsPlaceOf (in_turn first count) n i
turn_found first count n i low is below =
    let many = turn_long first count in
    (omega (arith, many, below), in_turn_place first count n low (omega (arith, low, is, below)) ∙ sym is)

turn_at : (first count i d : ℕ) → i < count → get_or (in_turn first count) i d ≡ first + i
turn_at first zero i d below = absurd (omega (arith, below))
turn_at first (suc count) zero d below = omega arith
turn_at first (suc count) (suc i) d below =
    let e : suc first + i ≡ first + suc i = omega arith in turn_at (suc first) count i d (omega (arith, below)) ∙ e

pub turn_below : (first count n k : ℕ) → k ≡ min (n - first) count → AreBelow n (in_turn first count) k
turn_below first count n k is = (
  λ i d low less.
      let at = turn_at first count i d (omega (arith, less, is)) in
      lt-ltb (get_or (in_turn first count) i d) n (omega (arith, at, less, is)),
  λ i d from below.
      let many = turn_long first count in
      let at = turn_at first count i d (omega (arith, below, many)) in
      not_below (get_or (in_turn first count) i d) (omega (arith, at, from, is, below, many)),
)
  where
    not_below : (m : ℕ) → n ≤ m → nat_lt m n ≡ false
    not_below m le = elim (leb_tells (suc m) n) [ inl t ↦ absurd (omega (arith, t.1, le)) | inr t ↦ t.0 ]

-- The first k numbers are those of k rows.
pub numbers_taken : (ms : List ℕ) (first n m k : ℕ) → m ≡ min k n
    → numbers_by (take k ms) first m ≡ take k (numbers_by ms first n)
numbers_taken [] first n m k many = by k (elim (leb_tells k n) [
  | inl t ↦
      let few : m ≡ k = omega (arith, many, t.1) in
      ap (in_turn first) few ∙ sym (listed_take (λ i. i) first n k t.1)
  | inr t ↦
      let all : m ≡ n = omega (arith, many, t.1) in
      ap (in_turn first) all ∙ sym (listed_whole (λ i. i) first n k (omega (arith, t.1)))
])
  where
    by : (j : ℕ) → in_turn first m ≡ take k (in_turn first n)
        → numbers_by (take j []) first m ≡ take k (in_turn first n)
    by zero is = is
    by (suc j) is = is
numbers_taken (x ∷ xs) first n m zero many = let none : m ≡ 0 = omega (arith, many) in ap (in_turn first) none
numbers_taken (x ∷ xs) first n m (suc k) many = refl
