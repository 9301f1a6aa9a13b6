-- Slots that are copied as they lie, run by run: which of them are as they are to be, and which weren't checked yet.
use Rattle.std.proofs.Common.{
  ◌≡◌,
  ℕ,
  ◌+◌,
  ◌-◌,
  ◌*◌,
  ◌≤◌,
  List,
  ◌++◌,
  length,
  take,
  drop,
  ap,
  sym,
  ◌∙◌,
  append_assoc,
  arith,
  length-append,
  length-drop,
}
use Rattle.std.specs.Prelude.{replicate, slice_range}
use Rattle.std.proofs.lemmas.List.{drop-drop, drop-take, drop_at, length-replicate, length-take, take-append-drop, take-take, take_all, take_at}
use Rattle.std.proofs.Math.Nat.{mul-add}
use Rattle.std.proofs.Math.Seq.{take-append-add}

-- the first bytes of a slice, and those after them

take-slice : (xs : List ℕ) (a e t : ℕ) → a ≤ e → e ≤ t → take (e - a) (slice_range xs a t) ≡ slice_range xs a e
take-slice xs a e t h k = take-take (e - a) (t - a) (drop a xs) (omega (arith, h, k))

drop-slice : (xs : List ℕ) (a e t : ℕ) → a ≤ e → e ≤ t → drop (e - a) (slice_range xs a t) ≡ slice_range xs e t
drop-slice xs a e t h k =
    let long : t - a ≡ (e - a) + (t - e) = omega (arith, h, k) in
    let there : a + (e - a) ≡ e = omega (arith, h) in
    ap (λ n. drop (e - a) (take n (drop a xs))) long ∙ drop-take (e - a) (t - e) (drop a xs)
    ∙ ap (λ ys. take (t - e) ys) (drop-drop (e - a) a xs) ∙ ap (λ n. take (t - e) (drop n xs)) there

-- the bytes up to an index, and the next ones
take-on : (out : List ℕ) (place n : ℕ) → place ≤ length out → take (place + n) out ≡ take place out ++ take n (drop place out)
take-on out place n within =
    let size : length (take place out) ≡ place = let all = length-take place out in omega (arith, all, within) in
    ap (λ v. take (place + n) v) (sym (take-append-drop place out))
    ∙ ap (λ k. take (k + n) (take place out ++ drop place out)) (sym size)
    ∙ take-append-add (take place out) (drop place out) n

-- All bytes of `out` from an index on are those of `xs` from `a` up to `t`, as they were copied.
pub record IsCopied (xs out : List ℕ) (place a t : ℕ) : Type 0 where
  pub within : place ≤ length out
  pub rest : drop place out ≡ slice_range xs a t

-- how many they are
copied-size : (xs out : List ℕ) (place a t : ℕ) → t ≤ length xs → IsCopied xs out place a t → place + (t - a) ≡ length out
copied-size xs out place a t h c =
    let left = length-drop place out in
    let cut = length-take (t - a) (drop a xs) in
    let there = length-drop a xs in
    let same = ap length c.rest in
    omega (arith, left, cut, there, same, c.within, h)

pub copied-next :
    (xs out : List ℕ) (place a e t n : ℕ) → a ≤ e → e ≤ t → t ≤ length xs → n ≡ e - a → IsCopied xs out place a t
    → IsCopied xs out (place + n) e t
copied-next xs out place a e t n h k l is c = record {
  within = let size = copied-size xs out place a t l c in omega (arith, size, h, k, is);
  rest = sym (drop-drop n place out) ∙ ap (λ v. drop n v) c.rest ∙ ap (λ m. drop m (slice_range xs a t)) is
      ∙ drop-slice xs a e t h k;
}

-- what stays of them
pub copied-kept :
    (xs out : List ℕ) (place a e t n : ℕ) → a ≤ e → e ≤ t → n ≡ e - a → IsCopied xs out place a t
    → take (place + n) out ≡ take place out ++ slice_range xs a e
copied-kept xs out place a e t n h k is c =
    take-on out place n c.within ∙ ap (λ v. take place out ++ take n v) c.rest
    ∙ ap (λ m. take place out ++ take m (slice_range xs a t)) is
    ∙ ap (λ v. take place out ++ v) (take-slice xs a e t h k)

-- bytes that were overwritten with zeros
pub record IsCleared (out new : List ℕ) (place n : ℕ) : Type 0 where
  pub within : place + n ≤ length out
  pub bytes : new ≡ take place out ++ (replicate n 0 ++ drop (place + n) out)

pub cleared-kept :
    (out new : List ℕ) (place n : ℕ) → IsCleared out new place n → take (place + n) new ≡ take place out ++ replicate n 0
cleared-kept out new place n c =
    let all = length-take place out in
    let size : length (take place out) ≡ place = omega (arith, all, c.within) in
    ap (λ v. take (place + n) v) c.bytes
    ∙ ap (λ k. take (k + n) (take place out ++ (replicate n 0 ++ drop (place + n) out))) (sym size)
    ∙ take-append-add (take place out) (replicate n 0 ++ drop (place + n) out) n
    ∙ ap (λ v. take place out ++ v) (take_at (replicate n 0) (drop (place + n) out) n (length-replicate {A = ℕ} n 0))

cleared-rest : (out new : List ℕ) (place n : ℕ) → IsCleared out new place n → drop (place + n) new ≡ drop (place + n) out
cleared-rest out new place n c =
    let all = length-take place out in
    let zeros = length-replicate {A = ℕ} n 0 in
    let front = length-append (take place out) (replicate n 0) in
    ap (λ v. drop (place + n) v) (c.bytes ∙ sym (append_assoc (take place out) (replicate n 0) (drop (place + n) out)))
    ∙ drop_at (take place out ++ replicate n 0) (drop (place + n) out) (place + n)
    (omega (arith, all, zeros, front, c.within))

pub cleared-next :
    (xs out new : List ℕ) (place a e t n : ℕ) → a ≤ e → e ≤ t → t ≤ length xs → n ≡ e - a → IsCopied xs out place a t
    → IsCleared out new place n → IsCopied xs new (place + n) e t
cleared-next xs out new place a e t n h k l is copied c =
    let next = copied-next xs out place a e t n h k l is copied in
    let size = ap length c.bytes in
    let all = length-take place out in
    let zeros = length-replicate {A = ℕ} n 0 in
    let front = length-append (take place out) (replicate n 0 ++ drop (place + n) out) in
    let behind = length-append (replicate n 0) (drop (place + n) out) in
    record {
      within = omega (arith, size, all, zeros, front, behind, c.within);
      rest = cleared-rest out new place n c ∙ next.rest;
    }

-- Where nothing remains to be checked, all stays.
pub copied-end : (xs out : List ℕ) (place a t : ℕ) → t ≤ a → t ≤ length xs → IsCopied xs out place a t → take place out ≡ out
copied-end xs out place a t h l c =
    let size = copied-size xs out place a t l c in take_all place out (omega (arith, size, h))

-- how many bytes some slots have
pub run-size : (w at end : ℕ) → at ≤ end → w * (end - at) ≡ w * end - w * at
run-size w at end h =
    let past : at + (end - at) ≡ end = omega (arith, h) in
    let all : w * end ≡ w * at + w * (end - at) = sym (ap (λ n. w * n) past) ∙ mul-add w at (end - at) in
    omega (arith, all)
