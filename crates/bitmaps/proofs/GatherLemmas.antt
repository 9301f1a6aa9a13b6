-- One more run of bits that are gathered.
use Rattle.std.proofs.Common.{◌≡◌, ℕ, zero, suc, ◌+◌, ◌*◌, ◌<◌, ◌≤◌, List, [], ◌∷◌, ◌++◌, length, take, drop, get_or, refl, ap, sym, ◌∙◌, arith, take-add, append_assoc}
use Rattle.std.specs.Prelude.{Bool, false}
use Rattle.std.proofs.lemmas.List.{length-append, length-take, take_all, drop_more}
use Rattle.bitmaps.specs.Bits.{bit_at, bits_at}
use Rattle.bitmaps.specs.Blocks.{AreBits, IsBegun}
use Rattle.bitmaps.proofs.Runs.{length-bits_at}

read-bits : (bytes : List ℕ) (bs : List Bool) (j i n : ℕ)
    → ((k : ℕ) → k < n → bit_at bytes (j + k) ≡ get_or bs (i + k) false) → i + n ≤ length bs
    → bits_at bytes j n ≡ take n (drop i bs)
unfolding bits_at
read-bits bytes bs j i zero same within = refl
read-bits bytes bs j i (suc n) same within =
    let first : bit_at bytes j ≡ get_or bs i false =
    ap (bit_at bytes) (omega arith) ∙ same 0 (omega arith) ∙ ap (λ k. get_or bs k false) (omega arith) in
    let rest = read-bits bytes bs (j + 1) (i + 1) n
    (λ k below. ap (bit_at bytes) (omega arith) ∙ same (k + 1) (omega (arith, below))
    ∙ ap (λ k. get_or bs k false) (omega arith)) (omega (arith, within)) in
    let split = drop_more bs i false (omega (arith, within)) in
    ap (λ b. b ∷ bits_at bytes (j + 1) n) first ∙ ap (λ cs. get_or bs i false ∷ cs) rest
    ∙ ap (take (suc n)) (sym split)

pub begun-bytes : (bs made new : List Bool) (bytes : List ℕ) (i n : ℕ) → IsBegun made bs → i ≡ length made
    → AreBits n bytes (λ k. get_or bs (i + k) false) → i + n ≤ length bs
    → new ≡ made ++ bits_at bytes 0 (8 * length bytes) → IsBegun new bs × (length new ≡ length made + n)
begun-bytes bs made new bytes i n begun place are within is =
    let here : bits_at bytes 0 (8 * length bytes) ≡ take n (drop (length made) bs) =
    ap (bits_at bytes 0) are.long
    ∙ read-bits bytes bs 0 i n (λ k below. ap (bit_at bytes) (omega arith) ∙ are.each k below) within
    ∙ ap (λ j. take n (drop j bs)) place in
    let count : length new ≡ length made + n =
    ap length is ∙ length-append made (bits_at bytes 0 (8 * length bytes))
    ∙ ap (λ k. length made + k) (length-bits_at bytes 0 (8 * length bytes) ∙ are.long) in
    let same : new ≡ take (length new) bs =
    is ∙ ap (λ cs. cs ++ bits_at bytes 0 (8 * length bytes)) begun.same
    ∙ ap (λ cs. take (length made) bs ++ cs) here
    ∙ sym (take-add (length made) n bs) ∙ ap (λ k. take k bs) (sym count) in
    (record { short = omega (arith, count, within, place); same = same }, count)

pub begun-bit : (bs made new : List Bool) (b : Bool) (i : ℕ) → IsBegun made bs → length made ≡ i → i < length bs
    → b ≡ get_or bs i false → new ≡ made ++ b ∷ [] → IsBegun new bs × (length new ≡ i + 1)
begun-bit bs made new b i begun here below bit is =
    let count : length new ≡ i + 1 = ap length is ∙ length-append made (b ∷ []) ∙ omega (arith, here) in
    let split = drop_more bs i false below in
    let one : take 1 (drop i bs) ≡ b ∷ [] = ap (take 1) split ∙ ap (λ c. c ∷ []) (sym bit) in
    let same : new ≡ take (length new) bs =
    is ∙ ap (λ cs. cs ++ b ∷ []) (begun.same ∙ ap (λ k. take k bs) here)
    ∙ ap (λ cs. take i bs ++ cs) (sym one) ∙ sym (take-add i 1 bs) ∙ ap (λ k. take k bs) (sym count) in
    (record { short = omega (arith, count, below); same = same }, count)

pub begun-end : (bs made : List Bool) (i : ℕ) → IsBegun made bs → length made ≡ i → length bs ≤ i → made ≡ bs
begun-end bs made i begun here past = begun.same ∙ take_all (length made) bs (omega (arith, here, past))

pub none-begun : (bs made : List Bool) → made ≡ [] → IsBegun made bs
none-begun bs made is = record {
  short = omega (arith, ap length is);
  same = is ∙ sym (ap (λ cs. take (length cs) bs) is);
}

-- Bits that are added after others.

pub bytes-added : (bs before made new : List Bool) (bytes : List ℕ) (i n : ℕ) → made ≡ before ++ take i bs
    → AreBits n bytes (λ k. get_or bs (i + k) false) → i + n ≤ length bs
    → new ≡ made ++ bits_at bytes 0 (8 * length bytes) → new ≡ before ++ take (i + n) bs
bytes-added bs before made new bytes i n added are within is =
    let here : bits_at bytes 0 (8 * length bytes) ≡ take n (drop i bs) =
    ap (bits_at bytes 0) are.long
    ∙ read-bits bytes bs 0 i n (λ k below. ap (bit_at bytes) (omega arith) ∙ are.each k below) within in
    is ∙ ap (λ cs. cs ++ bits_at bytes 0 (8 * length bytes)) added ∙ ap (λ cs. (before ++ take i bs) ++ cs) here
    ∙ append_assoc before (take i bs) (take n (drop i bs)) ∙ ap (λ cs. before ++ cs) (sym (take-add i n bs))

pub bit-added : (bs before made new : List Bool) (b : Bool) (i : ℕ) → made ≡ before ++ take i bs → i < length bs
    → b ≡ get_or bs i false → new ≡ made ++ b ∷ [] → new ≡ before ++ take (i + 1) bs
bit-added bs before made new b i added below bit is =
    let split = drop_more bs i false below in
    let one : take 1 (drop i bs) ≡ b ∷ [] = ap (take 1) split ∙ ap (λ c. c ∷ []) (sym bit) in
    is ∙ ap (λ cs. cs ++ b ∷ []) added ∙ ap (λ cs. (before ++ take i bs) ++ cs) (sym one)
    ∙ append_assoc before (take i bs) (take 1 (drop i bs)) ∙ ap (λ cs. before ++ cs) (sym (take-add i 1 bs))

pub all-added : (bs before made : List Bool) (i : ℕ) → made ≡ before ++ take i bs → length bs ≤ i
    → made ≡ before ++ bs
all-added bs before made i added past = added ∙ ap (λ cs. before ++ cs) (take_all i bs past)

pub added-short : (bs before made : List Bool) (i : ℕ) → i ≤ length bs → made ≡ before ++ take i bs
    → length made ≡ length before + i
added-short bs before made i within added =
    let few = length-take i bs in
    ap length added ∙ length-append before (take i bs) ∙ omega (arith, few, within)

pub ruleset adding = (bytes-added, bit-added, all-added, added-short)
