-- Runs of bits that are computed from runs of other bits.
use Rattle.std.proofs.Common.{
  ◌≡◌,
  ℕ,
  zero,
  suc,
  ◌+◌,
  ◌<◌,
  ◌≤◌,
  List,
  [],
  ◌∷◌,
  length,
  get_or,
  refl,
  ap,
  sym,
  ◌∙◌,
  arith,
}
use Rattle.std.specs.Prelude.{Bool, true, false, not, ◌&&◌, ◌||◌, if◌then◌else◌, map}
use Rattle.std.proofs.lemmas.List.{get_or-map, length-map}
use Rattle.bitmaps.specs.Bits.{bit_at, bits_at, pairwise, selected}
use Rattle.bitmaps.specs.Blocks.{AreBits}
use Rattle.bitmaps.proofs.Runs.{get_or-bits_at}

pub read-run : (n : ℕ) (read bytes : List ℕ) (offset len i : ℕ) → i + n ≤ len
    → AreBits n read (λ k. bit_at bytes (offset + i + k))
    → AreBits n read (λ k. get_or (bits_at bytes offset len) (i + k) false)
read-run n read bytes offset len i within are = record {
  long = are.long;
  each = λ k below.
      are.each k below ∙ ap (bit_at bytes) (omega arith)
      ∙ sym (get_or-bits_at bytes offset len (i + k) (omega (arith, within, below)));
}

pub length-pairwise : (f : Bool → Bool → Bool) (xs ys : List Bool) → length ys ≡ length xs
    → length (pairwise f xs ys) ≡ length xs
unfolding pairwise
length-pairwise f [] ys e = refl
length-pairwise f (x ∷ xs) [] e = absurd (omega (arith, e))
length-pairwise f (x ∷ xs) (y ∷ ys) e = ap suc (length-pairwise f xs ys (omega (arith, e)))

pub get_or-pairwise : (f : Bool → Bool → Bool) (xs ys : List Bool) (i : ℕ) → i < length xs → length ys ≡ length xs
    → get_or (pairwise f xs ys) i false ≡ f (get_or xs i false) (get_or ys i false)
unfolding pairwise
get_or-pairwise f [] ys i h e = absurd (omega (arith, h))
get_or-pairwise f (x ∷ xs) [] i h e = absurd (omega (arith, e))
get_or-pairwise f (x ∷ xs) (y ∷ ys) zero h e = refl
get_or-pairwise f (x ∷ xs) (y ∷ ys) (suc i) h e =
    get_or-pairwise f xs ys i (omega (arith, h)) (omega (arith, e))

pub length-selected : (ms xs ys : List Bool) → length xs ≡ length ms → length ys ≡ length ms
    → length (selected ms xs ys) ≡ length ms
unfolding selected
length-selected [] xs ys e f = refl
length-selected (m ∷ ms) [] ys e f = absurd (omega (arith, e))
length-selected (m ∷ ms) (x ∷ xs) [] e f = absurd (omega (arith, f))
length-selected (m ∷ ms) (x ∷ xs) (y ∷ ys) e f =
    ap suc (length-selected ms xs ys (omega (arith, e)) (omega (arith, f)))

pub get_or-selected : (ms xs ys : List Bool) (i : ℕ) → i < length ms → length xs ≡ length ms → length ys ≡ length ms
    → get_or (selected ms xs ys) i false ≡ (if get_or ms i false then get_or xs i false else get_or ys i false)
unfolding selected
get_or-selected [] xs ys i h e f = absurd (omega (arith, h))
get_or-selected (m ∷ ms) [] ys i h e f = absurd (omega (arith, e))
get_or-selected (m ∷ ms) (x ∷ xs) [] i h e f = absurd (omega (arith, f))
get_or-selected (m ∷ ms) (x ∷ xs) (y ∷ ys) zero h e f = refl
get_or-selected (m ∷ ms) (x ∷ xs) (y ∷ ys) (suc i) h e f =
    get_or-selected ms xs ys i (omega (arith, h)) (omega (arith, e)) (omega (arith, f))

-- what is computed from two runs

pub pair-run : (f : Bool → Bool → Bool) (n : ℕ) (read a b : List ℕ) (xs ys : List Bool) (i : ℕ)
    → AreBits n a (λ k. get_or xs (i + k) false) → AreBits n b (λ k. get_or ys (i + k) false)
    → AreBits n read (λ k. f (bit_at a k) (bit_at b k)) → length ys ≡ length xs
    → i + n ≤ length (pairwise f xs ys) → AreBits n read (λ k. get_or (pairwise f xs ys) (i + k) false)
pair-run f n read a b xs ys i run_a run_b are same within = record {
  long = are.long;
  each = λ k below.
      are.each k below ∙ ap (λ x. f x (bit_at b k)) (run_a.each k below)
      ∙ ap (f (get_or xs (i + k) false)) (run_b.each k below)
      ∙ sym (get_or-pairwise f xs ys (i + k) (omega (arith, within, below, length-pairwise f xs ys same)) same);
}

pub not-run : (n : ℕ) (read a : List ℕ) (xs : List Bool) (i : ℕ) → AreBits n a (λ k. get_or xs (i + k) false)
    → AreBits n read (λ k. not (bit_at a k)) → i + n ≤ length (map not xs)
    → AreBits n read (λ k. get_or (map not xs) (i + k) false)
not-run n read a xs i run_a are within = record {
  long = are.long;
  each = λ k below.
      are.each k below ∙ ap not (run_a.each k below)
      ∙ sym (get_or-map not xs (i + k) false false (omega (arith, within, below, length-map xs not)));
}

pub select-run : (n : ℕ) (read m a b : List ℕ) (ms xs ys : List Bool) (i : ℕ)
    → AreBits n m (λ k. get_or ms (i + k) false)
    → AreBits n a (λ k. get_or xs (i + k) false) → AreBits n b (λ k. get_or ys (i + k) false)
    → AreBits n read (λ k. if bit_at m k then bit_at a k else bit_at b k)
    → length xs ≡ length ms → length ys ≡ length ms → i + n ≤ length (selected ms xs ys)
    → AreBits n read (λ k. get_or (selected ms xs ys) (i + k) false)
select-run n read m a b ms xs ys i mask run_a run_b are e f within = record {
  long = are.long;
  each = λ k below.
      are.each k below ∙ ap (λ (t : Bool). if t then bit_at a k else bit_at b k) (mask.each k below)
      ∙ ap (λ t. if get_or ms (i + k) false then t else bit_at b k) (run_a.each k below)
      ∙ ap (λ t. if get_or ms (i + k) false then get_or xs (i + k) false else t) (run_b.each k below)
      ∙ sym (get_or-selected ms xs ys (i + k) (omega (arith, within, below, length-selected ms xs ys e f)) e f);
}

-- a selection by and, or and not

select-bit : (m a b : Bool) → ((m && a) || (not m && b)) ≡ (if m then a else b)
select-bit true true b = refl
select-bit true false b = refl
select-bit false a b = refl

pub select-bits : (n : ℕ) (read m a b ma nm nb : List ℕ) → AreBits n ma (λ k. bit_at m k && bit_at a k)
    → AreBits n nm (λ k. not (bit_at m k)) → AreBits n nb (λ k. bit_at nm k && bit_at b k)
    → AreBits n read (λ k. bit_at ma k || bit_at nb k)
    → AreBits n read (λ k. if bit_at m k then bit_at a k else bit_at b k)
select-bits n read m a b ma nm nb both none others are = record {
  long = are.long;
  each = λ k below.
      are.each k below ∙ ap (λ x. x || bit_at nb k) (both.each k below)
      ∙ ap (λ x. (bit_at m k && bit_at a k) || x)
      (others.each k below ∙ ap (λ x. x && bit_at b k) (none.each k below))
      ∙ select-bit (bit_at m k) (bit_at a k) (bit_at b k);
}

pub ruleset pairing = (length-pairwise, get_or-pairwise, length-selected, get_or-selected, get_or-map, length-map)
