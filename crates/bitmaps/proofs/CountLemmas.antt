-- Ones of many bytes, as those of the one number that they form.
use Rattle.std.proofs.Common.{◌≡◌, ℕ, suc, ◌+◌, ◌*◌, ◌-◌, ◌/◌, ◌%◌, ◌^◌, ◌<◌, ◌≤◌, List, [], ◌∷◌, ◌++◌, length, refl, ap, sym, ◌∙◌, arith}
use Rattle.std.specs.Prelude.{Bool, slice_index}
use Rattle.std.specs.Int.Count.{ones as count_ones}
use Rattle.std.specs.Simd.Lanes.{number_l}
use Rattle.std.proofs.lemmas.Nat.{ones_cat, ones-le, div-add-mod', pow-add}
use Rattle.bitmaps.specs.Bits.{bit_at, bits_at, ones}
use Rattle.bitmaps.specs.Blocks.{AreBits}
use Rattle.bitmaps.proofs.ByteLemmas.{count_byte, count_none}
use Rattle.bitmaps.proofs.ByteRuns.{bits_at-add, later-bits, same-bits}

ones-append : (xs ys : List Bool) → ones (xs ++ ys) ≡ ones xs + ones ys
unfolding ones
ones-append [] ys = omega arith
ones-append (x ∷ xs) ys = let rest = ones-append xs ys in omega (arith, rest)

-- the first 256 bits are those of a block, in the form that a loop shows
pub count_block : (bytes block : List ℕ) (p n : ℕ) → AreBits 256 block (λ k. bit_at bytes (p + k)) → 256 ≤ n
    → ones (bits_at bytes p n) ≡ ones (bits_at block 0 256) + ones (bits_at bytes (p + 256) (n - 256))
count_block bytes block p n are many =
    let split : n ≡ 256 + (n - 256) = omega (arith, many) in
    let same = same-bits bytes block p 0 256 (λ k below. sym (are.each k below) ∙ ap (bit_at block) (omega arith)) in
    ap (λ k. ones (bits_at bytes p k)) split ∙ ap ones (bits_at-add bytes p 256 (n - 256))
    ∙ ones-append (bits_at bytes p 256) (bits_at bytes (p + 256) (n - 256))
    ∙ ap (λ bs. ones bs + ones (bits_at bytes (p + 256) (n - 256))) same

number-below : (xs : List ℕ) → ((i : ℕ) → i < length xs → slice_index xs i < 256) → number_l 256 xs < 256 ^ length xs
number-below [] small = omega arith
number-below (x ∷ xs) small =
    let rest = number-below xs (λ i below. small (suc i) (omega (arith, below))) in
    let longer : suc (length xs) ≡ 1 + length xs = omega arith in
    let power = ap (λ n. 256 ^ n) longer ∙ pow-add 256 1 (length xs) in
    omega (arith, rest, small 0 (omega arith), power)

number-ones : (xs : List ℕ) → ((i : ℕ) → i < length xs → slice_index xs i < 256)
    → ones (bits_at xs 0 (8 * length xs)) ≡ count_ones (number_l 256 xs)
unfolding count_ones
number-ones [] small = count_none [] 0
number-ones (x ∷ xs) small =
    let first = small 0 (omega arith) in
    let number = number_l 256 xs in
    let fewer : 8 * suc (length xs) - 8 ≡ 8 * length xs = omega arith in
    let turned : number * 2 ^ 8 + x ≡ x + 256 * number = omega arith in
    count_byte (x ∷ xs) 0 (8 * suc (length xs)) refl (omega arith) first
    ∙ ap (λ n. count_ones x + ones (bits_at (x ∷ xs) 8 n)) fewer
    ∙ ap (λ bs. count_ones x + ones bs) (later-bits x xs (8 * length xs))
    ∙ ap (λ n. count_ones x + n) (number-ones xs (λ i below. small (suc i) (omega (arith, below))))
    ∙ omega arith ∙ sym (ones_cat 8 number x first) ∙ ap count_ones turned

-- the words of 64 bits of a number below 2 ^ 256, whose ones are summed up

word-ones : (n : ℕ) → count_ones n ≡ count_ones (n % 2 ^ 64) + count_ones (n / 2 ^ 64)
word-ones n =
    ap count_ones (sym (div-add-mod' n (2 ^ 64))) ∙ ones_cat 64 (n / 2 ^ 64) (n % 2 ^ 64) (omega arith) ∙ omega arith

few-ones : (n : ℕ) → count_ones (n % 2 ^ 64) ≤ 64
few-ones n = ones-le 64 (n % 2 ^ 64) (omega arith)

unwrapped : (a b c d : ℕ) → a ≤ 64 → b ≤ 64 → c ≤ 64 → d ≤ 64
    → ((((0 + a) % 2 ^ 64 + b) % 2 ^ 64 + c) % 2 ^ 64 + d) % 2 ^ 64 ≡ a + (b + (c + d))
unwrapped a b c d h i j k = omega (arith, h, i, j, k)

four-words : (n : ℕ) → n < 2 ^ 256
    → ((((0 + count_ones (n % 2 ^ 64)) % 2 ^ 64 + count_ones (n / 2 ^ 64 % 2 ^ 64)) % 2 ^ 64
    + count_ones (n / 2 ^ 64 / 2 ^ 64 % 2 ^ 64)) % 2 ^ 64
    + count_ones (n / 2 ^ 64 / 2 ^ 64 / 2 ^ 64 % 2 ^ 64)) % 2 ^ 64 ≡ count_ones n
four-words n below =
    let second = n / 2 ^ 64 in
    let third = second / 2 ^ 64 in
    let last : third / 2 ^ 64 % 2 ^ 64 ≡ third / 2 ^ 64 = omega (arith, below) in
    unwrapped (count_ones (n % 2 ^ 64)) (count_ones (second % 2 ^ 64)) (count_ones (third % 2 ^ 64))
    (count_ones (third / 2 ^ 64 % 2 ^ 64)) (few-ones n) (few-ones second) (few-ones third) (few-ones (third / 2 ^ 64))
    ∙ ap (λ m. count_ones (n % 2 ^ 64) + (count_ones (second % 2 ^ 64) + (count_ones (third % 2 ^ 64) + count_ones m)))
    last
    ∙ ap (λ m. count_ones (n % 2 ^ 64) + (count_ones (second % 2 ^ 64) + m)) (sym (word-ones third))
    ∙ ap (λ m. count_ones (n % 2 ^ 64) + m) (sym (word-ones second)) ∙ sym (word-ones n)

pub count_words : (lanes : List ℕ) → length lanes ≡ 32 → ((i : ℕ) → i < length lanes → slice_index lanes i < 256)
    → ((((0 + count_ones (number_l 256 lanes % 2 ^ 64)) % 2 ^ 64
    + count_ones (number_l 256 lanes / 2 ^ 64 % 2 ^ 64)) % 2 ^ 64
    + count_ones (number_l 256 lanes / 2 ^ 64 / 2 ^ 64 % 2 ^ 64)) % 2 ^ 64
    + count_ones (number_l 256 lanes / 2 ^ 64 / 2 ^ 64 / 2 ^ 64 % 2 ^ 64)) % 2 ^ 64 ≡ ones (bits_at lanes 0 256)
count_words lanes long small =
    let bound : 256 ^ length lanes ≡ 2 ^ 256 = ap (λ n. 256 ^ n) long in
    let all : 8 * length lanes ≡ 256 = omega (arith, long) in
    four-words (number_l 256 lanes) (omega (arith, number-below lanes small, bound)) ∙ sym (number-ones lanes small)
    ∙ ap (λ n. ones (bits_at lanes 0 n)) all
