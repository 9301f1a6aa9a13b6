-- Numbers that are read have the bytes that they are read from.
use Rattle.std.proofs.Common.{
  ◌≡◌,
  ℕ,
  zero,
  suc,
  ◌+◌,
  ◌*◌,
  ◌-◌,
  ◌/◌,
  ◌%◌,
  ◌^◌,
  ◌<◌,
  ◌≤◌,
  List,
  [],
  ◌∷◌,
  length,
  take,
  drop,
  true,
  false,
  Bool,
  refl,
  ap,
  sym,
  ◌∙◌,
  arith,
  length-drop,
  inl,
  inr,
}
use Rattle.std.specs.Prelude.{slice_range, slice_index}
use Rattle.std.specs.Int.{w128, byte_at, bytes_low_first}
use Rattle.std.proofs.lemmas.List.{get_or-drop}
use Rattle.std.proofs.Math.Nat.{
  mul-add,
  mul-one,
  div-div-eq-div-mul,
  div-one,
  mod-eq_of_lt,
  pow-suc,
  mod-lt,
  mul-add-mod_self_right,
  add-mul,
  mul_assoc,
  add_assoc,
  div-add-mod',
  one-le-pow,
  mul-le-mul_right,
}
use Rattle.std.proofs.lemmas.Int.{ints}
use Rattle.std.proofs.lemmas.Bool.{cases_lt}
use Rattle.byteorder.specs.Endian.{little_bytes, little_number, little_from, low_bytes}
use Rattle.byteorder.specs.Numbers.{little_from-lt}
use Rattle.values.specs.Datum.{whole}
use Rattle.values.specs.declared.layout.IntWidth.{IntWidth}
use Rattle.values.specs.declared.layout.IntWidth.TheVariants as int
use Rattle.values.specs.Layouts.{bytes_in as width_of}
use Rattle.array_layout.specs.Buffers.{unsigned_at, number_by, number_at}
use Rattle.arrays.proofs.IndexLemmas.{low-half, high-half}
use Rattle.body_writer.specs.Slots.{number_in}

-- bytes that make a number are its bytes

digits : (a b x r : ℕ) → a < 256 → b < 256 → x * 256 + a ≡ b + 256 * r → (a ≡ b) × (x ≡ r)
digits a b x r h k e = (omega (arith, h, k, e), omega (arith, h, k, e))

byte_at-pow : (k x : ℕ) → byte_at k x ≡ x / 256 ^ k % 256
byte_at-pow zero x = ap (λ (y : ℕ). y % 256) (sym (div-one x))
byte_at-pow (suc k) x = refl

pow_pos256 : (n : ℕ) → zero < 256 ^ n
pow_pos256 n = let h = one-le-pow n 256 (omega arith) in omega arith

mod-split : (n : ℕ) {m c : ℕ} → zero < m → zero < c → n % (m * c) ≡ (n / c % m) * c + n % c
mod-split n {m} {c} hm hc =
    let a = mod-lt (n / c) hm in
    let b = mod-lt n hc in
    let top : (n / c % m + 1) * c ≤ m * c = mul-le-mul_right c (omega arith) in
    let expand : (n / c % m + 1) * c ≡ n / c % m * c + 1 * c = add-mul (n / c % m) 1 c in
    let split : n ≡ n / c / m * (m * c) + (n / c % m * c + n % c) =
    sym (div-add-mod' n c)
    ∙ ap (λ (x : ℕ). x * c + n % c) (sym (div-add-mod' (n / c) m))
    ∙ ap (λ (x : ℕ). x + n % c) (add-mul (n / c / m * m) (n / c % m) c
    ∙ ap (λ (x : ℕ). x + n / c % m * c) (mul_assoc (n / c / m) m c))
    ∙ add_assoc (n / c / m * (m * c)) (n / c % m * c) (n % c) in
    ap (λ (x : ℕ). x % (m * c)) split ∙ mul-add-mod_self_right (n / c / m) (m * c) (n / c % m * c + n % c)
    ∙ mod-eq_of_lt (omega arith)

take-next : (i k : ℕ) (xs : List ℕ) → i < length xs → slice_index xs i ∷ take k (drop (suc i) xs) ≡ take (suc k) (drop
    i xs)
take-next i k [] h = absurd (omega (arith, h))
take-next zero k (x ∷ xs) h = refl
take-next (suc i) k (x ∷ xs) h = take-next i k xs (omega (arith, h))

bytes-back :
    (j k i x : ℕ) (xs : List ℕ) → ((n : ℕ) → slice_index xs n < 256) → i + k ≤ length xs
    → x / 256 ^ j % 256 ^ k ≡ little_from i k xs
    → bytes_low_first j k x ≡ take k (drop i xs)
bytes-back j zero i x xs small room e = refl
bytes-back j (suc k) i x xs small room e =
    let shift : x / 256 ^ suc j ≡ x / 256 ^ j / 256 = ap (λ (p : ℕ). x / p) (pow-suc 256 j)
    ∙ sym (div-div-eq-div-mul x (256 ^ j) 256) in
    let split : x / 256 ^ j % 256 ^ suc k ≡ (x / 256 ^ j / 256 % 256 ^ k) * 256 + x / 256 ^ j % 256 =
    ap (λ (p : ℕ). x / 256 ^ j % p) (pow-suc 256 k) ∙ mod-split (x / 256 ^ j) {m = 256 ^ k} {c = 256} (pow_pos256 k)
    (omega arith) in
    let low : x / 256 ^ j % 256 < 256 = mod-lt (x / 256 ^ j) {m = 256} (omega arith) in
    let both = digits (x / 256 ^ j % 256) (slice_index xs i) (x / 256 ^ j / 256 % 256 ^ k) (little_from (suc i) k xs)
    low (small i) (sym split ∙ e) in
    let rest = bytes-back (suc j) k (suc i) x xs small (omega (arith, room)) (ap (λ (q : ℕ). q % 256 ^ k) shift
    ∙ both.1) in
    rw (byte_at-pow j x, both.0, rest) (take-next i k xs (omega (arith, room)))

pub number-bytes :
    (w : ℕ) (xs : List ℕ) → ((n : ℕ) → slice_index xs n < 256) → w ≤ length xs
    → little_bytes w (little_number w xs) ≡ take w xs
number-bytes w xs small room =
    let lt = little_from-lt 0 w xs small in
    bytes-back 0 w 0 (little_number w xs) xs small (omega (arith, room)) (ap (λ (y : ℕ). y % 256 ^ w) (div-one
    (little_number w xs)) ∙ mod-eq_of_lt lt)

-- the low bytes of a number that was read are the word

abbrev IsKept : ℕ → Type 0
IsKept w = (s : Bool) (x : ℕ) → x < 256 ^ w → low_bytes w128 w (number_by s w x) ≡ x

kept-8 : IsKept 8
kept-8 false x h = omega (arith, ints, h)
kept-8 true x h = elim (cases_lt x (2 ^ 63)) [
  | inl l ↦ rw (low-half 8 x l) (omega (arith, ints, h))
  | inr g ↦ rw
      (high-half 8 x g) (omega (arith, ints, h, g))
]

kept-1 : IsKept 1
kept-1 false x h = omega (arith, ints, h)
kept-1 true x h = elim (cases_lt x (2 ^ 7)) [
  | inl l ↦ rw (low-half 1 x l) (omega (arith, ints, h))
  | inr g ↦ rw
      (high-half 1 x g) (omega (arith, ints, h, g))
]

kept-2 : IsKept 2
kept-2 false x h = omega (arith, ints, h)
kept-2 true x h = elim (cases_lt x (2 ^ 15)) [
  | inl l ↦ rw (low-half 2 x l) (omega (arith, ints, h))
  | inr g ↦ rw
      (high-half 2 x g) (omega (arith, ints, h, g))
]

kept-4 : IsKept 4
kept-4 false x h = omega (arith, ints, h)
kept-4 true x h = elim (cases_lt x (2 ^ 31)) [
  | inl l ↦ rw (low-half 4 x l) (omega (arith, ints, h))
  | inr g ↦ rw
      (high-half 4 x g) (omega (arith, ints, h, g))
]

kept-16 : IsKept 16
kept-16 false x h = omega (arith, ints, h)
kept-16 true x h = elim (cases_lt x (2 ^ 127)) [
  | inl l ↦ rw (low-half 16 x l) (omega (arith, ints, h))
  | inr g ↦ rw
      (high-half 16 x g) (omega (arith, ints, h, g))
]

pub kept : (w : IntWidth) → IsKept (width_of w)
kept int.Bits8 = kept-1
kept int.Bits16 = kept-2
kept int.Bits32 = kept-4
kept int.Bits64 = kept-8

pub next-place : (n k : ℕ) → n * (k + 1) ≡ n * k + n
next-place n k = mul-add n k 1 ∙ ap (λ (m : ℕ). n * k + m) (mul-one n)

slot-word :
    (n : ℕ) (s : Bool) (xs : List ℕ) (k : ℕ) → ((i : ℕ) → slice_index xs i < 256) → IsKept n → n * (k + 1) ≤ length xs
    → little_bytes n (low_bytes w128 n (number_by s n (little_number n (drop (n * k) xs)))) ≡ slice_range xs (n * k) (n
    * (k + 1))
slot-word n s xs k small keeps room =
    let there : List ℕ = drop (n * k) xs in
    let tiny : (i : ℕ) → slice_index there i < 256 = λ i. let at = get_or-drop (n * k) xs i 0 in let b = small (n * k +
    i) in omega (arith, at, b) in
    let next = next-place n k in
    let left = length-drop (n * k) xs in
    let long : n ≤ length there = omega (arith, next, left, room) in
    let lt = little_from-lt 0 n there tiny in
    let e : n * (k + 1) - n * k ≡ n = omega (arith, next) in
    ap (little_bytes n) (keeps s (little_number n there) lt) ∙ number-bytes n there tiny long
    ∙ ap (λ j. take j there) (sym e)

-- the bytes of the number in slot k

pub int-bytes :
    (w : IntWidth) (s : Bool) (xs : List ℕ) (k : ℕ) → ((n : ℕ) → slice_index xs n < 256)
    → width_of w * (k + 1) ≤ length xs
    → little_bytes (width_of w) (number_in (width_of w) (whole (number_at s (width_of w) xs k))) ≡ slice_range xs
    (width_of w * k) (width_of w * (k + 1))
unfolding number_at unsigned_at
int-bytes w s xs k small room = slot-word (width_of w) s xs k small (kept w) room

pub decimal-bytes :
    (xs : List ℕ) (k : ℕ) → ((n : ℕ) → slice_index xs n < 256) → 16 * (k + 1) ≤ length xs
    → little_bytes 16 (number_in 16 (whole (number_at true 16 xs k))) ≡ slice_range xs (16 * k) (16 * (k + 1))
unfolding number_at unsigned_at
decimal-bytes xs k small room = slot-word 16 true xs k small kept-16 room
