-- Texts that lie one after the other: UTF-8 that is cut where characters begin.
use Rattle.std.proofs.Common.{
  ◌≡◌,
  inl,
  inr,
  ℕ,
  zero,
  suc,
  ◌+◌,
  ◌-◌,
  ◌*◌,
  ◌<◌,
  ◌≤◌,
  List,
  Bool,
  true,
  false,
  length,
  length-drop,
  take,
  drop,
  ap,
  subst,
  ◌∙◌,
  arith,
}
use Rattle.std.specs.Prelude.{Ok, Err, slice_range, if◌then◌else◌}
use Rattle.std.specs.Str.{is_utf8, IsUtf8, IsCharBoundary}
use Rattle.std.proofs.lemmas.Bool.{cases_lt}
use Rattle.std.proofs.lemmas.Str.{IsUtf8-between, IsCharBoundary-end, is_utf8-from_IsUtf8}
use Rattle.std.proofs.lemmas.List.{length-take, drop-take, take-take, drop-drop}
use Rattle.std.proofs.Math.Nat.{mul-le-mul_left}
use Rattle.values.specs.declared.faults.StreamFault.TheVariants as fault
use Rattle.values.specs.Datum.{Datum, null, text}
use Rattle.values.specs.Reading.{Reading, one, each, IsValid}
use Rattle.values.specs.declared.layout.OffsetWidth.{OffsetWidth}
use Rattle.values.specs.Layouts.{offset_bytes}
use Rattle.array_layout.specs.Buffers.{is_null, offset_at, slice_at}
use Rattle.array_layout.specs.Sound.{AreFit}
use Rattle.array_layout.specs.Cells.{text_of}
use Rattle.arrays.specs.Ranges.{where_valid}
use Rattle.arrays.proofs.RangeLemmas.{each-valid}

-- offsets that rise
pub rises_far : (at : ℕ → ℕ) (i n : ℕ) → ((k : ℕ) → i ≤ k → k < i + n → at k ≤ at (k + 1)) → at i ≤ at (i + n)
rises_far at i zero h = let e : i ≡ i + 0 = omega arith in subst (λ k. at i ≤ at k) e (omega arith)
rises_far at i (suc n) h =
    let here = h i (omega arith) (omega arith) in
    let rest = rises_far at (i + 1) n (λ k a b. h k (omega (arith, a)) (omega (arith, b))) in
    let e : i + 1 + n ≡ i + suc n = omega arith in
    subst (λ k. at i ≤ at k) e (omega (arith, here, rest))

pub offsets_rise :
    (o : OffsetWidth) (offsets : List ℕ) (n limit i j : ℕ) → AreFit o offsets n limit → i ≤ j → j ≤ n
    → offset_at o offsets i ≤ offset_at o offsets j
offsets_rise o offsets n limit i j fit up in_range =
    let e : i + (j - i) ≡ j = omega (arith, up) in
    subst (λ k. offset_at o offsets i ≤ offset_at o offsets k) e
    (rises_far (offset_at o offsets) i (j - i) (λ k a b. fit.rising k (omega (arith, b, up, in_range))))

pub offsets_end :
    (o : OffsetWidth) (offsets : List ℕ) (n limit i j : ℕ) → AreFit o offsets n limit → i < j → j ≤ n
    → offset_at o offsets j ≤ limit
offsets_end o offsets n limit i j fit up in_range =
    let e : (j - 1) + 1 ≡ j = omega (arith, up) in
    subst (λ k. offset_at o offsets k ≤ limit) e (fit.within (j - 1) (omega (arith, up, in_range)))

pub fit_less :
    (o : OffsetWidth) (offsets : List ℕ) (n m limit : ℕ) → AreFit o offsets n limit → m ≤ n → AreFit o offsets m limit
fit_less o offsets n m limit fit less =
    let most : offset_bytes o * (m + 1) ≤ offset_bytes o * (n + 1) =
    mul-le-mul_left (offset_bytes o) (omega (arith, less)) in
    record {
      room = omega (arith, most, fit.room);
      rising = λ i h. fit.rising i (omega (arith, h, less));
      within = λ i h. fit.within i (omega (arith, h, less));
    }

pub starts_above :
    (o : OffsetWidth) (offsets : List ℕ) (n limit from : ℕ) → AreFit o offsets n limit
    → (k : ℕ) → from ≤ k → k < n → offset_at o offsets from ≤ offset_at o offsets k
starts_above o offsets n limit from fit k low high =
    offsets_rise o offsets n limit from k fit low (omega (arith, high))

-- a part of a part
cut_again :
    (xs : List ℕ) (a b i j : ℕ) → a ≤ i → i ≤ j → j ≤ b
    → take ((j - a) - (i - a)) (drop (i - a) (slice_range xs a b)) ≡ slice_range xs i j
cut_again xs a b i j low up high =
    let long : b - a ≡ (i - a) + (b - i) = omega (arith, low, up, high) in
    let place : a + (i - a) ≡ i = omega (arith, low) in
    let short : (j - a) - (i - a) ≡ j - i = omega (arith, low, up) in
    let cut : drop (i - a) (slice_range xs a b) ≡ take (b - i) (drop i xs) =
    ap (λ n. drop (i - a) (take n (drop a xs))) long ∙ drop-take (i - a) (b - i) (drop a xs)
    ∙ ap (take (b - i)) (drop-drop (i - a) a xs ∙ ap (λ n. drop n xs) place) in
    ap (λ n. take n (drop (i - a) (slice_range xs a b))) short ∙ ap (take (j - i)) cut
    ∙ take-take (j - i) (b - i) (drop i xs) (omega (arith, high))

part_long : (xs : List ℕ) (a b : ℕ) → a ≤ b → b ≤ length xs → length (slice_range xs a b) ≡ b - a
part_long xs a b up in_range =
    let cut = length-take (b - a) (drop a xs) in
    let left = length-drop a xs in
    omega (arith, cut, left, up, in_range)

-- characters begin where slots do
abbrev pub BeginCharacters : OffsetWidth → List ℕ → List ℕ → ℕ → ℕ → Type 0
BeginCharacters o offsets t from to = (k : ℕ) → from ≤ k → k < to
    → IsCharBoundary t (offset_at o offsets k - offset_at o offsets from)

boundary_at :
    (o : OffsetWidth) (offsets values : List ℕ) (from to k : ℕ) → AreFit o offsets to (length values)
    → BeginCharacters o offsets (slice_range values (offset_at o offsets from) (offset_at o offsets to)) from to
    → from ≤ k → k ≤ to → from < to
    → IsCharBoundary (slice_range values (offset_at o offsets from) (offset_at o offsets to))
    (offset_at o offsets k - offset_at o offsets from)
boundary_at o offsets values from to k fit begin low high some =
    let a = offset_at o offsets from in
    let b = offset_at o offsets to in
    let whole = slice_range values a b in
    elim (cases_lt k to) [
      | inl l ↦ begin k low l
      | inr g ↦
          let last : to ≡ k = omega (arith, g, high) in
          let long : length whole ≡ b - a =
          part_long values a b
          (offsets_rise o offsets to (length values) from to fit (omega (arith, some)) (omega arith))
          (offsets_end o offsets to (length values) from to fit some (omega arith)) in
          subst (λ (n : ℕ). IsCharBoundary whole (offset_at o offsets n - a)) last
          (subst (IsCharBoundary whole) long (IsCharBoundary-end whole))
    ]

pub texts_stand :
    (o : OffsetWidth) (offsets values : List ℕ) (from to : ℕ) → AreFit o offsets to (length values)
    → IsUtf8 (slice_range values (offset_at o offsets from) (offset_at o offsets to))
    → BeginCharacters o offsets (slice_range values (offset_at o offsets from) (offset_at o offsets to)) from to
    → (k : ℕ) → from ≤ k → k < to → is_utf8 (slice_at o offsets values k) ≡ true
unfolding slice_at
texts_stand o offsets values from to fit utf8 begin k low high =
    let a = offset_at o offsets from in
    let b = offset_at o offsets to in
    let whole = slice_range values a b in
    let some : from < to = omega (arith, low, high) in
    let rise : offset_at o offsets k ≤ offset_at o offsets (k + 1) = fit.rising k high in
    let start : a ≤ offset_at o offsets k =
    offsets_rise o offsets to (length values) from k fit low (omega (arith, high)) in
    let end : offset_at o offsets (k + 1) ≤ b =
    offsets_rise o offsets to (length values) (k + 1) to fit (omega (arith, high)) (omega arith) in
    let between =
    IsUtf8-between whole (offset_at o offsets k - a) (offset_at o offsets (k + 1) - a) utf8 (omega (arith, rise, start))
    (boundary_at o offsets values from to k fit begin low (omega (arith, high)) some)
    (boundary_at o offsets values from to (k + 1) fit begin (omega (arith, low)) (omega (arith, high)) some) in
    is_utf8-from_IsUtf8 _
    (subst IsUtf8 (cut_again values a b (offset_at o offsets k) (offset_at o offsets (k + 1)) start rise end) between)

-- the same by the names of a call
pub texts_found :
    (o : OffsetWidth) (offsets values bytes t : List ℕ) (from to : ℕ) → AreFit o offsets to (length values)
    → bytes ≡ slice_range values (offset_at o offsets from) (offset_at o offsets to)
    → t ≡ bytes → IsUtf8 bytes
    → BeginCharacters o offsets t from to
    → (k : ℕ) → from ≤ k → k < to → is_utf8 (slice_at o offsets values k) ≡ true
texts_found o offsets values bytes t from to fit is same utf8 begin =
    let P : List ℕ → Type 0 = λ x. BeginCharacters o offsets x from to in
    texts_stand o offsets values from to fit (subst IsUtf8 is utf8) (subst P is (subst P same begin))

-- texts have no fault
text_valid : (t : List ℕ) → is_utf8 t ≡ true → IsValid (text_of t)
text_valid t h = by_test (is_utf8 t) h where
  by_test : (b : Bool) → b ≡ true → IsValid {X = Datum} (if b then Ok (text t) else Err (one fault.NotUtf8))
  by_test true e = tt
  by_test false e = cc

pub texts_valid :
    (o : OffsetWidth) (offsets values : List ℕ) (from to : ℕ)
    → ((k : ℕ) → from ≤ k → k < to → is_utf8 (slice_at o offsets values k) ≡ true)
    → from < to → IsValid (each (λ i. text_of (slice_at o offsets values i)) from (to - from))
texts_valid o offsets values from to are some =
    each-valid (λ i. text_of (slice_at o offsets values i)) from (to - from)
    (λ k low high. text_valid (slice_at o offsets values k) (are k low (omega (arith, high, some))))

null_or_valid : (b : Bool) (m : Reading Datum) → IsValid m → IsValid (if b then Ok null else m)
null_or_valid true m h = tt
null_or_valid false m h = h

pub texts_valid_too :
    (bits : List ℕ) (o : OffsetWidth) (offsets values : List ℕ) (from to : ℕ)
    → ((k : ℕ) → from ≤ k → k < to → is_utf8 (slice_at o offsets values k) ≡ true)
    → from < to → IsValid (each (where_valid bits (λ i. text_of (slice_at o offsets values i))) from (to - from))
unfolding where_valid
texts_valid_too bits o offsets values from to are some =
    each-valid (where_valid bits (λ i. text_of (slice_at o offsets values i))) from (to - from)
    (λ k low high. null_or_valid (is_null bits k) (text_of (slice_at o offsets values k))
    (text_valid (slice_at o offsets values k) (are k low (omega (arith, high, some)))))

pub ruleset text_laws = (offsets_rise, offsets_end, fit_less, starts_above, texts_found, texts_valid, texts_valid_too)
