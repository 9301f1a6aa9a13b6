-- One more bit of packed bytes.
use Rattle.std.proofs.Common.{
  ◌≡◌,
  ℕ,
  zero,
  suc,
  ◌+◌,
  ◌*◌,
  ◌/◌,
  ◌%◌,
  ◌^◌,
  ◌<◌,
  ◌≤◌,
  List,
  [],
  ◌∷◌,
  ◌++◌,
  length,
  take,
  drop,
  refl,
  ap,
  sym,
  subst,
  ◌∙◌,
  arith,
  length-drop,
  Fits,
  w8,
}
use Rattle.std.specs.Prelude.{Bool, true, false, if◌then◌else◌, slice_index, slice_set}
use Rattle.std.proofs.Math.Nat.{pow-succ', pow-le-pow_right}
use Rattle.std.proofs.Math.Pow.{pow-lt}
use Rattle.std.proofs.Math.Facts.{Fits-of_lt}
use Rattle.std.proofs.lemmas.List.{length-append, take_all, take-append-le, drop-append-le}
use mir.Val.{bool_byte}
use Rattle.bitmaps.specs.Bits.{bits_at}
use Rattle.bitmaps.specs.Packed.{IsPacked, byte_of, packed, bytes_of}
use Rattle.bitmaps.proofs.Runs.{length-bits_at}
use Rattle.bitmaps.proofs.PackLemmas.{length-bytes_of}

abbrev bit : Bool → ℕ
bit b = if b then 1 else 0

bit-byte : (b : Bool) → bool_byte b ≡ bit b
bit-byte true = refl
bit-byte false = refl

-- A byte of bits is below the power of two of their number, and the next bit adds that power.

pub byte-lt : (bs : List Bool) → byte_of bs < 2 ^ length bs
byte-lt [] = omega arith
byte-lt (true ∷ bs) = let rest = byte-lt bs in let twice = pow-succ' 2 (length bs) in omega (arith, rest, twice)
byte-lt (false ∷ bs) = let rest = byte-lt bs in let twice = pow-succ' 2 (length bs) in omega (arith, rest, twice)

byte-append : (bs : List Bool) (b : Bool) → byte_of (bs ++ b ∷ []) ≡ byte_of bs + bit b * 2 ^ length bs
byte-append [] true = refl
byte-append [] false = refl
byte-append (a ∷ bs) true = let rest = byte-append bs true in let twice = pow-succ' 2 (length bs) in
    omega (arith, rest, twice)
byte-append (a ∷ bs) false = let rest = byte-append bs false in omega (arith, rest)

-- The last byte has unused bits.

shifted : (b : Bool) (r : ℕ) → r < 8 → bool_byte b * 2 ^ r % 256 ≡ bit b * 2 ^ r
shifted true r h = let small : 2 ^ r < 2 ^ 8 = pow-lt h in omega (arith, small)
shifted false r h = omega arith

last-lt : (n : ℕ) (bs : List Bool) (r : ℕ) → length bs ≡ 8 * n + r → r < 8 → slice_index (packed (suc n) bs) n < 2 ^ r
last-lt zero bs r e h =
    rw (take_all 8 bs (omega (arith, e, h))) (subst (λ k. byte_of bs < 2 ^ k) (omega (arith, e)) (byte-lt bs))
last-lt (suc n) bs r e h = let left = length-drop 8 bs in last-lt n (drop 8 bs) r (omega (arith, e, left)) h

no-carry : (x r : ℕ) (b : Bool) → x < 2 ^ r → r < 8 → x + bool_byte b * 2 ^ r % 256 < 2 ^ 8
no-carry x r true small h =
    let twice = pow-succ' 2 r in
    let last : 2 ^ r < 2 ^ 8 = pow-lt h in
    let up : suc r ≤ 8 = omega (arith, h) in
    let room : 2 ^ suc r ≤ 2 ^ 8 = pow-le-pow_right (omega arith) up in
    omega (arith, small, last, room, twice)
no-carry x r false small h = let last : 2 ^ r < 2 ^ 8 = pow-lt h in omega (arith, small, last)

packed-inside : (n : ℕ) (bs : List Bool) (b : Bool) (r : ℕ) → length bs ≡ 8 * n + r → r < 8 →
    slice_set (packed (suc n) bs) n (slice_index (packed (suc n) bs) n + bit b * 2 ^ r) ≡ packed (suc n) (bs ++ b ∷ [])
packed-inside zero bs b r e h =
    let all = length-append bs (b ∷ []) in
    rw (take_all 8 bs (omega (arith, e, h)), take_all 8 (bs ++ b ∷ []) (omega (arith, e, h, all)))
    (ap (λ x. x ∷ [])
    (subst (λ k. byte_of bs + bit b * 2 ^ k ≡ byte_of (bs ++ b ∷ [])) (omega (arith, e)) (sym (byte-append bs b))))
packed-inside (suc n) bs b r e h =
    let left = length-drop 8 bs in
    rw (take-append-le 8 bs (b ∷ []) (omega (arith, e)), drop-append-le 8 bs (b ∷ []) (omega (arith, e)))
    (ap (λ xs. byte_of (take 8 bs) ∷ xs) (packed-inside n (drop 8 bs) b r (omega (arith, e, left)) h))

packed-new : (n : ℕ) (bs : List Bool) (b : Bool) → length bs ≡ 8 * n
    → packed n bs ++ bit b ∷ [] ≡ packed (suc n) (bs ++ b ∷ [])
packed-new zero [] true e = refl
packed-new zero [] false e = refl
packed-new zero (a ∷ bs) b e = absurd (omega (arith, e))
packed-new (suc n) bs b e =
    let left = length-drop 8 bs in
    rw (take-append-le 8 bs (b ∷ []) (omega (arith, e)), drop-append-le 8 bs (b ∷ []) (omega (arith, e)))
    (ap (λ xs. byte_of (take 8 bs) ∷ xs) (packed-new n (drop 8 bs) b (omega (arith, e, left))))

-- What `push_bit` shows.

-- the bits, and how many bytes hold them
counts : (bytes : List ℕ) (n : ℕ) → length (bits_at bytes 0 n) ≡ n
counts bytes n = length-bits_at bytes 0 n

pub last-there : (bytes : List ℕ) (n : ℕ) → IsPacked bytes n → 0 < n % 8 → n / 8 < length bytes
last-there bytes n e h =
    let len = ap length e ∙ length-bytes_of (bits_at bytes 0 n) in
    let all = counts bytes n in
    omega (arith, len, all, h)

-- n bytes, where the last has unused bits
packed-short : (bytes : List ℕ) (n : ℕ) → IsPacked bytes n → 0 < n % 8
    → bytes ≡ packed (suc (n / 8)) (bits_at bytes 0 n)
unfolding bytes_of
packed-short bytes n e h =
    let all = counts bytes n in
    let count : (length (bits_at bytes 0 n) + 7) / 8 ≡ suc (n / 8) = omega (arith, all, h) in
    e ∙ ap (λ k. packed k (bits_at bytes 0 n)) count

packed-full : (bytes : List ℕ) (n : ℕ) → IsPacked bytes n → n % 8 ≡ 0 → bytes ≡ packed (n / 8) (bits_at bytes 0 n)
unfolding bytes_of
packed-full bytes n e h =
    let all = counts bytes n in
    let count : (length (bits_at bytes 0 n) + 7) / 8 ≡ n / 8 = omega (arith, all, h) in
    e ∙ ap (λ k. packed k (bits_at bytes 0 n)) count

packed-more : (bytes : List ℕ) (n : ℕ) (b : Bool)
    → packed (suc (n / 8)) (bits_at bytes 0 n ++ b ∷ []) ≡ bytes_of (bits_at bytes 0 n ++ b ∷ [])
unfolding bytes_of
packed-more bytes n b =
    let all = counts bytes n in
    let more = length-append (bits_at bytes 0 n) (b ∷ []) in
    let count : suc (n / 8) ≡ (length (bits_at bytes 0 n ++ b ∷ []) + 7) / 8 = omega (arith, all, more) in
    ap (λ k. packed k (bits_at bytes 0 n ++ b ∷ [])) count

pub byte-pushed : (bytes new : List ℕ) (n : ℕ) (b : Bool) → IsPacked bytes n → n % 8 ≡ 0
    → new ≡ bytes ++ bool_byte b ∷ []
    → new ≡ bytes_of (bits_at bytes 0 n ++ b ∷ [])
byte-pushed bytes new n b e h is =
    let all = counts bytes n in
    is ∙ ap (λ x. bytes ++ x ∷ []) (bit-byte b) ∙ ap (λ xs. xs ++ bit b ∷ []) (packed-full bytes n e h)
    ∙ packed-new (n / 8) (bits_at bytes 0 n) b (omega (arith, all, h)) ∙ packed-more bytes n b

last-small : (bytes : List ℕ) (n x : ℕ) → IsPacked bytes n → 0 < n % 8 → x ≡ slice_index bytes (n / 8) → x < 2 ^ (n % 8)
last-small bytes n x e h is =
    let all = counts bytes n in
    subst (λ y. y < 2 ^ (n % 8)) (sym (is ∙ ap (λ xs. slice_index xs (n / 8)) (packed-short bytes n e h)))
    (last-lt (n / 8) (bits_at bytes 0 n) (n % 8) (omega (arith, all)) (omega arith))

pub byte-fits : (bytes : List ℕ) (n x : ℕ) (b : Bool) → IsPacked bytes n → 0 < n % 8 → x ≡ slice_index bytes (n / 8) →
    Fits w8 (x + bool_byte b * 2 ^ (n % 8) % 256)
byte-fits bytes n x b e h is = Fits-of_lt (no-carry x (n % 8) b (last-small bytes n x e h is) (omega arith))

pub bit-pushed : (bytes : List ℕ) (n x : ℕ) (b : Bool) → IsPacked bytes n → 0 < n % 8 → x ≡ slice_index bytes (n / 8) →
    slice_set bytes (n / 8) (x + bool_byte b * 2 ^ (n % 8) % 256) ≡ bytes_of (bits_at bytes 0 n ++ b ∷ [])
bit-pushed bytes n x b e h is =
    let all = counts bytes n in
    let bs = bits_at bytes 0 n in
    let set-last : List ℕ → List ℕ = λ xs. slice_set xs (n / 8) (slice_index xs (n / 8) + bit b * 2 ^ (n % 8)) in
    ap (λ y. slice_set bytes (n / 8) (y + bool_byte b * 2 ^ (n % 8) % 256)) is
    ∙ ap (λ y. slice_set bytes (n / 8) (slice_index bytes (n / 8) + y)) (shifted b (n % 8) (omega arith))
    ∙ ap set-last (packed-short bytes n e h)
    ∙ packed-inside (n / 8) bs b (n % 8) (omega (arith, all)) (omega arith) ∙ packed-more bytes n b

pub ruleset pushing = (last-there, byte-pushed, byte-fits, bit-pushed)
