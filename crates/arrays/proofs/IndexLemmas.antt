-- Indices that are read without their signs: those below a bound are the indices of the values.
use Rattle.std.proofs.Common.{
  ◌≡◌,
  ℕ,
  ℤ,
  pos,
  ◌+◌,
  ◌*◌,
  ◌-◌,
  ◌^◌,
  ◌<◌,
  ◌≤◌,
  ◌<ℤ◌,
  List,
  Bool,
  true,
  false,
  length,
  min,
  refl,
  ap,
  sym,
  subst,
  arith,
  inl,
  inr,
}
use Rattle.std.specs.Prelude.{Result, Option, Some, Err, get_or, slice_get, ◌-ℤ◌}
use Rattle.std.proofs.lemmas.Option.{slice_get-get_or}
use Rattle.std.proofs.Math.Nat.{mul-le-mul_left}
use Rattle.std.proofs.lemmas.Int.{ints}
use Rattle.std.proofs.lemmas.Bool.{le-ltb, lt-ltb, cases_lt}
use Rattle.byteorder.specs.Endian.{twos_complement}
use Rattle.values.specs.declared.faults.StreamFault.{StreamFault}
use Rattle.values.specs.declared.faults.StreamFault.TheVariants as fault
use Rattle.values.specs.Reading.{Reading, one, must, each, FailsWith, IsValid, Passes}
use Rattle.values.specs.Datum.{Datum, null}
use Rattle.values.specs.declared.layout.IntWidth.{IntWidth}
use Rattle.values.specs.declared.layout.Layout.{Layout}
use Rattle.values.specs.declared.layout.Layout.TheVariants.{
  Bool as Booleans,
  Int,
  Decimal,
  FixedSizeBinary,
  Utf8,
  Binary,
  List as Listed,
  Struct,
}
use Rattle.values.specs.Layouts.{bytes_in}
use Rattle.array_layout.specs.Buffers.{number_by, number_at, unsigned_at}
use Rattle.array_layout.specs.Cells.{coded_by, indexed}
use Rattle.arrays.specs.Encoded.{HasIndices, index_bound}
use Rattle.arrays.specs.Ranges.{where_valid}
use Rattle.arrays.proofs.DictionaryLemmas.{index_negative, index_past}

pub low-half : (w x : ℕ) → x < 2 ^ (8 * w - 1) → twos_complement w x ≡ pos x
low-half w x h = rw (lt-ltb x (2 ^ (8 * w - 1)) h) refl

pub high-half : (w x : ℕ) → 2 ^ (8 * w - 1) ≤ x → twos_complement w x ≡ pos x -ℤ pos (2 ^ (8 * w))
high-half w x h = rw (le-ltb x (2 ^ (8 * w - 1)) h) refl

negative : (w x : ℕ) → x < 2 ^ (8 * w) → 2 ^ (8 * w - 1) ≤ x → twos_complement w x <ℤ pos 0
negative w x small h = let is = high-half w x h in omega (arith, ints, is, small)

min-left : (n b x : ℕ) → x < min n b → x < n
min-left n b x h = grind (arith, h)

min-right : (n b x : ℕ) → x < min n b → x < b
min-right n b x h = grind (arith, h)

past-left : (n b x : ℕ) → min n b ≤ x → x < b → n ≤ x
past-left n b x h below = grind (arith, h, below)

-- below the bound a number is read as it is, and is below the number of values
number-below : (s : Bool) (w n x : ℕ) → x < index_bound s w n → number_by s w x ≡ pos x
number-below true w n x h = low-half w x (min-right n (2 ^ (8 * w - 1)) x h)
number-below false w n x h = refl

bound-below : (s : Bool) (w n x : ℕ) → x < index_bound s w n → x < n
bound-below true w n x h = min-left n (2 ^ (8 * w - 1)) x h
bound-below false w n x h = h

-- from the bound on it isn't an index
number-past : (s : Bool) (w x : ℕ) (ds : List Datum) → x < 2 ^ (8 * w) → index_bound s w (length ds) ≤ x
    → Err (one fault.DictionaryIndex) ≡ indexed ds (number_by s w x)
number-past true w x ds small h = elim (cases_lt x (2 ^ (8 * w - 1))) [
  | inl l ↦ rw (low-half w x l)
      (index_past ds (pos x) (let past = past-left (length ds) (2 ^ (8 * w - 1)) x h l in omega (arith, ints, past)))
  | inr g ↦ index_negative ds (twos_complement w x) (negative w x small g)
]
number-past false w x ds small h = index_past ds (pos x) (omega (arith, ints, h))

-- what is found at such a number

pub past-none : (s : Bool) (w : IntWidth) (x b : ℕ) (ds : List Datum) → x < 2 ^ (8 * bytes_in w)
    → b ≡ index_bound s (bytes_in w) (length ds) → b ≤ x
    → Err (one fault.DictionaryIndex) ≡ indexed ds (number_by s (bytes_in w) x)
past-none s w x b ds small is h = number-past s (bytes_in w) x ds small (omega (arith, h, sym is))

pub below-found : (s : Bool) (w : IntWidth) (x b : ℕ) (ds : List Datum) (o : Option Datum)
    → b ≡ index_bound s (bytes_in w) (length ds) → x < b → o ≡ slice_get ds x
    → must fault.DictionaryIndex o ≡ indexed ds (number_by s (bytes_in w) x)
below-found s w x b ds o is h found =
    rw (number-below s (bytes_in w) (length ds) x (omega (arith, h, is))) (ap (must fault.DictionaryIndex) found)

pub ruleset reading = (past-none, below-found)

-- the fault of a slot with such a number

bounded_valid : (ds : List Datum) (n : ℕ) → n < length ds → IsValid (indexed ds (pos n))
bounded_valid ds n below =
    let read : must fault.DictionaryIndex (slice_get ds n) ≡ must fault.DictionaryIndex (Some (get_or ds n null)) =
    ap (must fault.DictionaryIndex) (slice_get-get_or ds n null below) in
    subst IsValid (sym read) tt

pub below-valid :
    (s : Bool) (w : IntWidth) (indices : List ℕ) (i x b : ℕ) (ds : List Datum)
    → x ≡ unsigned_at (bytes_in w) indices i → b ≡ index_bound s (bytes_in w) (length ds) → x < b
    → IsValid (coded_by (Int w s) ds indices i)
unfolding number_at
below-valid s w indices i x b ds at is h =
    let P : ℕ → Type 0 = λ y. IsValid (indexed ds (number_by s (bytes_in w) y)) in
    let within : x < index_bound s (bytes_in w) (length ds) = omega (arith, h, is) in
    let below = bound-below s (bytes_in w) (length ds) x within in
    let Q : ℤ → Type 0 = λ z. IsValid (indexed ds z) in
    subst P at (subst Q (sym (number-below s (bytes_in w) (length ds) x within))
    (bounded_valid ds x below))

pub past-stands :
    (s : Bool) (w : IntWidth) (indices : List ℕ) (i x b : ℕ) (ds : List Datum)
    → x ≡ unsigned_at (bytes_in w) indices i → x < 2 ^ (8 * bytes_in w) → b ≡ index_bound s (bytes_in w) (length ds)
    → b ≤ x → FailsWith (coded_by (Int w s) ds indices i) fault.DictionaryIndex
unfolding number_at
past-stands s w indices i x b ds at small is h =
    let P : ℕ → Type 0 = λ y. FailsWith (indexed ds (number_by s (bytes_in w) y)) fault.DictionaryIndex in
    let Q : Reading Datum → Type 0 = λ m. FailsWith m fault.DictionaryIndex in
    subst P at (subst Q (past-none s w x b ds small is h) refl)

pub room-there : (w : IntWidth) (n i to : ℕ) → bytes_in w * to ≤ n → i < to → bytes_in w * (i + 1) ≤ n
room-there w n i to room below =
    let most : bytes_in w * (i + 1) ≤ bytes_in w * to = mul-le-mul_left (bytes_in w) (omega (arith, below)) in
    omega (arith, room, most)

pub ruleset judging = (below-valid, past-stands, room-there)

-- by the layout

pub numbers-room : (l : Layout) (indices : List ℕ) (w : IntWidth) (s : Bool) (n : ℕ) → HasIndices l indices n
    → l ≡ Int w s → bytes_in w * n ≤ length indices
numbers-room l indices w s n room is = let P : Layout → Type 0 = λ k. HasIndices k indices n in subst P is room

pub numbers-pass :
    (r : Result (Unit {0}) StreamFault) (bits : List ℕ) (l : Layout) (ds : List Datum) (indices : List ℕ) (i n : ℕ)
    (w : IntWidth) (s : Bool) → l ≡ Int w s → Passes r (each (where_valid bits (coded_by (Int w s) ds indices)) i n)
    → Passes r (each (where_valid bits (coded_by l ds indices)) i n)
numbers-pass r bits l ds indices i n w s is passes =
    let P : Layout → Type 0 = λ k. Passes r (each (where_valid bits (coded_by k ds indices)) i n) in
    subst P (sym is) passes

pub nulls-pass :
    (r : Result (Unit {0}) StreamFault) (bits : List ℕ) (l : Layout) (ds : List Datum) (indices : List ℕ) (i n : ℕ)
    → ((w : IntWidth) (s : Bool) → l ≡ Int w s → ⊥)
    → Passes r (each (where_valid bits (λ j. Err (one fault.DictionaryIndex))) i n)
    → Passes r (each (where_valid bits (coded_by l ds indices)) i n)
nulls-pass r bits Booleans ds indices i n none passes = passes
nulls-pass r bits (Int w s) ds indices i n none passes = absurd (none w s refl)
nulls-pass r bits (Decimal d) ds indices i n none passes = passes
nulls-pass r bits (FixedSizeBinary w) ds indices i n none passes = passes
nulls-pass r bits (Utf8 o) ds indices i n none passes = passes
nulls-pass r bits (Binary o) ds indices i n none passes = passes
nulls-pass r bits (Listed o) ds indices i n none passes = passes
nulls-pass r bits Struct ds indices i n none passes = passes

pub ruleset by_layout = (numbers-room, numbers-pass, nulls-pass)
