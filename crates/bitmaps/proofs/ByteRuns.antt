-- Bits of consecutive whole bytes.
use Rattle.std.proofs.Common.{◌≡◌, ℕ, zero, suc, ◌+◌, ◌*◌, ◌/◌, ◌%◌, ◌^◌, ◌<◌, ◌≤◌, ◌==◌, List, [], ◌∷◌, ◌++◌, length, take, drop, refl, ap, sym, ◌∙◌, arith, Fits, w8, inl, inr, ◌-◌, subst}
use Rattle.std.specs.Prelude.{Bool, true, slice_index}
use Rattle.std.proofs.lemmas.Bool.{agree_below_at, cases_lt}
use Rattle.std.proofs.lemmas.Bool.Decides.{nat_tests}
use Rattle.std.proofs.Math.Facts.{Fits-of_lt}
use Rattle.std.proofs.Math.Nat.{pow-le-pow_right}
use Rattle.std.proofs.lemmas.List.{length-append, length-take}
use Rattle.bitmaps.specs.Bits.{bit_at, bits_at}
use Rattle.bitmaps.specs.Packed.{IsPacked, byte_of, packed, bytes_of}
use Rattle.bitmaps.proofs.Runs.{length-bits_at}
use Rattle.bitmaps.proofs.PackLemmas.{length-bytes_of}
use Rattle.bitmaps.proofs.PushLemmas.{byte-lt}

pub same-bits : (xs ys : List ℕ) (i j n : ℕ) → ((k : ℕ) → k < n → bit_at xs (i + k) ≡ bit_at ys (j + k))
    → bits_at xs i n ≡ bits_at ys j n
unfolding bits_at
same-bits xs ys i j zero same = refl
same-bits xs ys i j (suc n) same =
    let first : bit_at xs i ≡ bit_at ys j =
    ap (bit_at xs) (omega arith) ∙ same 0 (omega arith) ∙ ap (bit_at ys) (omega arith) in
    let rest = same-bits xs ys (i + 1) (j + 1) n
    (λ k below. ap (bit_at xs) (omega arith) ∙ same (k + 1) (omega (arith, below)) ∙ ap (bit_at ys) (omega arith)) in
    ap (λ b. b ∷ bits_at xs (i + 1) n) first ∙ ap (λ bs. bit_at ys j ∷ bs) rest

pub bits_at-add : (xs : List ℕ) (i m n : ℕ) → bits_at xs i (m + n) ≡ bits_at xs i m ++ bits_at xs (i + m) n
unfolding bits_at
bits_at-add xs i zero n = ap (λ k. bits_at xs i k) (omega arith) ∙ ap (λ k. bits_at xs k n) (omega arith)
bits_at-add xs i (suc m) n =
    let more : suc m + n ≡ suc (m + n) = omega arith in
    ap (bits_at xs i) more ∙ ap (λ bs. bit_at xs i ∷ bs) (bits_at-add xs (i + 1) m n)
    ∙ ap (λ k. bit_at xs i ∷ (bits_at xs (i + 1) m ++ bits_at xs k n)) (omega arith)

take-bits_at : (xs : List ℕ) (i m n : ℕ) → take m (bits_at xs i (m + n)) ≡ bits_at xs i m
unfolding bits_at
take-bits_at xs i zero n = refl
take-bits_at xs i (suc m) n =
    let more : suc m + n ≡ suc (m + n) = omega arith in
    ap (λ k. take (suc m) (bits_at xs i k)) more ∙ ap (λ bs. bit_at xs i ∷ bs) (take-bits_at xs (i + 1) m n)

drop-bits_at : (xs : List ℕ) (i m n : ℕ) → drop m (bits_at xs i (m + n)) ≡ bits_at xs (i + m) n
unfolding bits_at
drop-bits_at xs i zero n = ap (λ k. bits_at xs i k) (omega arith) ∙ ap (λ k. bits_at xs k n) (omega arith)
drop-bits_at xs i (suc m) n =
    let more : suc m + n ≡ suc (m + n) = omega arith in
    ap (λ k. drop (suc m) (bits_at xs i k)) more ∙ drop-bits_at xs (i + 1) m n
    ∙ ap (λ k. bits_at xs k n) (omega arith)

-- past the first byte

later-bit : (b : ℕ) (xs : List ℕ) (i : ℕ) → bit_at (b ∷ xs) (8 + i) ≡ bit_at xs i
later-bit b xs i =
    let byte : (8 + i) / 8 ≡ suc (i / 8) = omega arith in
    let bit : (8 + i) % 8 ≡ i % 8 = omega arith in
    ap (λ k. slice_index (b ∷ xs) k / 2 ^ ((8 + i) % 8) % 2 == 1) byte
    ∙ ap (λ k. slice_index xs (i / 8) / 2 ^ k % 2 == 1) bit

pub later-bits : (b : ℕ) (xs : List ℕ) (n : ℕ) → bits_at (b ∷ xs) 8 n ≡ bits_at xs 0 n
later-bits b xs n =
    same-bits (b ∷ xs) xs 8 0 n (λ k below. later-bit b xs k ∙ ap (bit_at xs) (omega arith))

-- Bytes are those that are packed of their bits.

one-byte : (b : ℕ) → b < 256 → byte_of (bits_at (b ∷ []) 0 8) ≡ b
unfolding bits_at
one-byte b below =
    let same : (byte_of (bits_at (b ∷ []) 0 8) == b) ≡ true =
    agree_below_at (λ n. byte_of (bits_at (n ∷ []) 0 8) == n) (λ n. true) 256 b refl below in
    grind (arith, nat_tests)

first-byte : (b : ℕ) (xs : List ℕ) → bits_at (b ∷ xs) 0 8 ≡ bits_at (b ∷ []) 0 8
unfolding bits_at
first-byte b xs = refl

packed-whole : (xs : List ℕ) → ((i : ℕ) → Fits w8 (slice_index xs i))
    → packed (length xs) (bits_at xs 0 (8 * length xs)) ≡ xs
packed-whole [] fits = refl
packed-whole (b ∷ xs) fits =
    let n = length xs in
    let more : 8 * suc n ≡ 8 + 8 * n = omega arith in
    let first : take 8 (bits_at (b ∷ xs) 0 (8 + 8 * n)) ≡ bits_at (b ∷ []) 0 8 =
    take-bits_at (b ∷ xs) 0 8 (8 * n) ∙ first-byte b xs in
    let rest : drop 8 (bits_at (b ∷ xs) 0 (8 + 8 * n)) ≡ bits_at xs 0 (8 * n) =
    drop-bits_at (b ∷ xs) 0 8 (8 * n) ∙ later-bits b xs (8 * n) in
    ap (λ k. packed (suc n) (bits_at (b ∷ xs) 0 k)) more
    ∙ ap (λ bs. byte_of bs ∷ packed n (drop 8 (bits_at (b ∷ xs) 0 (8 + 8 * n)))) first
    ∙ ap (λ x. x ∷ packed n (drop 8 (bits_at (b ∷ xs) 0 (8 + 8 * n)))) (one-byte b (fits 0).fits)
    ∙ ap (λ bs. b ∷ packed n bs) rest
    ∙ ap (λ ys. b ∷ ys) (packed-whole xs (λ i. fits (suc i)))

pub whole-packed : (xs : List ℕ) (n : ℕ) → n ≡ 8 * length xs → ((i : ℕ) → Fits w8 (slice_index xs i)) → IsPacked xs n
unfolding bytes_of
whole-packed xs n all fits =
    let count : length xs ≡ (length (bits_at xs 0 n) + 7) / 8 = omega (arith, all, length-bits_at xs 0 n) in
    sym (packed-whole xs fits) ∙ ap (λ k. packed (length xs) (bits_at xs 0 k)) (sym all)
    ∙ ap (λ k. packed k (bits_at xs 0 n)) count

-- Bytes that are added to bits that end with a whole byte.

pub bytes-full : (xs : List ℕ) (n : ℕ) → IsPacked xs n → n % 8 ≡ 0 → n ≡ 8 * length xs
bytes-full xs n packed whole =
    let len = ap length packed ∙ length-bytes_of (bits_at xs 0 n) in
    omega (arith, len, length-bits_at xs 0 n, whole)

bit-before : (xs ys : List ℕ) (k : ℕ) → k < 8 * length xs → bit_at (xs ++ ys) k ≡ bit_at xs k
bit-before [] ys k h = absurd (omega (arith, h))
bit-before (x ∷ xs) ys k h = elim (cases_lt k 8) [
  | inl low ↦
      let byte : k / 8 ≡ 0 = omega (arith, low) in
      ap (λ i. slice_index (x ∷ (xs ++ ys)) i / 2 ^ (k % 8) % 2 == 1) byte
      ∙ ap (λ i. slice_index (x ∷ xs) i / 2 ^ (k % 8) % 2 == 1) (sym byte)
  | inr high ↦
      let j : ℕ = k - 8 in
      let back : k ≡ 8 + j = omega (arith, high) in
      ap (bit_at (x ∷ (xs ++ ys))) back ∙ later-bit x (xs ++ ys) j
      ∙ bit-before xs ys j (omega (arith, h, high)) ∙ sym (later-bit x xs j) ∙ ap (bit_at (x ∷ xs)) (sym back)
]

bit-after : (xs ys : List ℕ) (k : ℕ) → bit_at (xs ++ ys) (8 * length xs + k) ≡ bit_at ys k
bit-after [] ys k = ap (bit_at ys) (omega arith)
bit-after (x ∷ xs) ys k =
    ap (bit_at (x ∷ (xs ++ ys))) (omega arith) ∙ later-bit x (xs ++ ys) (8 * length xs + k) ∙ bit-after xs ys k

pub bytes-pushed : (xs ys new : List ℕ) (n m : ℕ) → IsPacked xs n → n % 8 ≡ 0 → new ≡ xs ++ ys → m ≡ n + 8 * length ys
    → bits_at new 0 m ≡ bits_at xs 0 n ++ bits_at ys 0 (8 * length ys)
bytes-pushed xs ys new n m packed whole is count =
    let all = bytes-full xs n packed whole in
    ap (λ zs. bits_at zs 0 m) is ∙ ap (bits_at (xs ++ ys) 0) count ∙ bits_at-add (xs ++ ys) 0 n (8 * length ys)
    ∙ ap (λ bs. bs ++ bits_at (xs ++ ys) (0 + n) (8 * length ys))
    (same-bits (xs ++ ys) xs 0 0 n
    (λ k below. ap (bit_at (xs ++ ys)) (omega arith) ∙ bit-before xs ys k (omega (arith, below, all))
    ∙ ap (bit_at xs) (omega arith)))
    ∙ ap (λ bs. bits_at xs 0 n ++ bs)
    (same-bits (xs ++ ys) ys (0 + n) 0 (8 * length ys)
    (λ k below. ap (bit_at (xs ++ ys)) (omega (arith, all)) ∙ bit-after xs ys k ∙ ap (bit_at ys) (omega arith)))

packed-fits : (n : ℕ) (bs : List Bool) (i : ℕ) → slice_index (packed n bs) i < 2 ^ 8
packed-fits zero bs i = omega arith
packed-fits (suc n) bs zero =
    let few = length-take 8 bs in
    let most : length (take 8 bs) ≤ 8 = omega (arith, few) in
    let room : 2 ^ length (take 8 bs) ≤ 2 ^ 8 = pow-le-pow_right (omega arith) most in
    omega (arith, byte-lt (take 8 bs), room)
packed-fits (suc n) bs (suc i) = packed-fits n (drop 8 bs) i

append-fits : (xs ys : List ℕ) → ((i : ℕ) → slice_index xs i < 2 ^ 8) → ((i : ℕ) → Fits w8 (slice_index ys i)) → (i : ℕ)
    → Fits w8 (slice_index (xs ++ ys) i)
append-fits [] ys small fits i = fits i
append-fits (x ∷ xs) ys small fits zero = Fits-of_lt (small 0)
append-fits (x ∷ xs) ys small fits (suc i) = append-fits xs ys (λ k. small (suc k)) fits i

pub bytes-packed : (xs ys new : List ℕ) (n m : ℕ) → IsPacked xs n → n % 8 ≡ 0 → new ≡ xs ++ ys → m ≡ n + 8 * length ys
    → ((i : ℕ) → Fits w8 (slice_index ys i)) → IsPacked new m
unfolding bytes_of
bytes-packed xs ys new n m packed whole is count fits =
    let all = bytes-full xs n packed whole in
    let len = ap length is ∙ length-append xs ys in
    let bs = bits_at xs 0 n in
    let small : (i : ℕ) → slice_index xs i < 2 ^ 8 =
    λ i. subst (λ zs. slice_index zs i < 2 ^ 8) (sym packed) (packed-fits ((length bs + 7) / 8) bs i) in
    whole-packed new m (omega (arith, all, len, count))
    (subst (λ zs. (i : ℕ) → Fits w8 (slice_index zs i)) (sym is) (append-fits xs ys small fits))

pub ruleset byte_runs = (bytes-pushed, bytes-packed, bytes-full, length-bits_at)
