-- What lies at a position is what is read there.
use Rattle.std.proofs.Common.{
  ◌≡◌,
  ℕ,
  ◌+◌,
  ◌*◌,
  ◌-◌,
  ◌^◌,
  ◌<◌,
  ◌≤◌,
  List,
  [],
  ◌++◌,
  length,
  drop,
  Some,
  refl,
  ap,
  sym,
  subst,
  ◌∙◌,
  arith,
  append_assoc,
  append-nil,
  length-append,
}
use Rattle.std.proofs.lemmas.List.{drop-drop, drop_at, take_at}
use Rattle.std.proofs.lemmas.Bool.{le-leb}
use Rattle.byteorder.specs.Endian.{little_bytes}
use Rattle.byteorder.specs.Numbers.{little_number-reads_back, length-bytes_low_first}
use Rattle.flatbuf.specs.Layout.{number_at, target_at, bytes_at, block_at}

-- these bytes lie at position p
pub record At (b : List ℕ) (p : ℕ) (xs : List ℕ) : Type 0 where
  pub rest : List ℕ
  pub is : drop p b ≡ xs ++ rest
  pub room : p + length xs ≤ length b

pub At-all : (b : List ℕ) → At b 0 b
At-all b = record { rest = []; is = sym (append-nil b); room = omega arith }

pub At-front : (b : List ℕ) (p : ℕ) (xs ys : List ℕ) → At b p (xs ++ ys) → At b p xs
At-front b p xs ys a =
    let room = a.room in
    record {
      rest = ys ++ a.rest;
      is = a.is
          ∙ append_assoc xs ys a.rest;
      room = omega (arith, room, length-append xs ys);
    }

pub At-back : (b : List ℕ) (p q : ℕ) (xs ys : List ℕ) → At b p (xs ++ ys) → p + length xs ≡ q → At b q ys
At-back b p q xs ys a e =
    let room = a.room in
    let P : ℕ → Type 0 = λ n. drop n b ≡ ys ++ a.rest in
    let moved : drop (p + length xs) b ≡ ys ++ a.rest =
    sym (drop-drop (length xs) p b) ∙ ap (drop (length xs)) (a.is ∙ append_assoc xs ys a.rest)
    ∙ drop_at xs (ys ++ a.rest) (length xs) refl in
    record { rest = a.rest; is = subst P e moved; room = omega (arith, room, e, length-append xs ys) }

pub number-at : (b : List ℕ) (p w n : ℕ) → n < 256 ^ w → At b p (little_bytes w n) → number_at w b p ≡ Some n
unfolding number_at
number-at b p w n small a =
    let room = a.room in
    let len = length-bytes_low_first 0 w n in
    let fits : p + w ≤ length b = omega (arith, room, len) in
    rw (le-leb (p + w) (length b) fits, a.is, little_number-reads_back w n a.rest small) refl

pub bytes-at : (b : List ℕ) (p : ℕ) (xs : List ℕ) → At b p xs → bytes_at (length xs) b p ≡ Some xs
unfolding bytes_at
bytes-at b p xs a = rw (le-leb (p + length xs) (length b) a.room, a.is, take_at xs a.rest (length xs) refl) refl

-- an offset points to its target
pub target-at : (b : List ℕ) (q p : ℕ) → q ≤ p → p < 2 ^ 32 → At b q (little_bytes 4 (p - q)) → target_at b q ≡ Some p
unfolding target_at
target-at b q p le short a =
    let small : p - q < 256 ^ 4 = omega arith in
    let back : q + (p - q) ≡ p = omega arith in
    rw (number-at b q 4 (p - q) small a, back) refl

pub block-at : (b : List ℕ) (p w n : ℕ) (xs : List ℕ) → n < 2 ^ 32 → length xs ≡ n * w → At b p (little_bytes 4 n)
    → At b (p + 4) xs → block_at w b p ≡ Some xs
unfolding block_at
block-at b p w n xs few e count elements =
    let small : n < 256 ^ 4 = omega arith in
    let P : ℕ → Type 0 = λ m. bytes_at m b (p + 4) ≡ Some xs in
    rw (number-at b p 4 n small count) (subst P e (bytes-at b (p + 4) xs elements))
