-- Short texts are ordered by the numbers of their first eight bytes and of the other six, and then by their lengths.
use Rattle.std.proofs.Common.{◌≡◌, refl, ap, ap₂, sym, ◌∙◌, arith, true≢false}
use Rattle.std.proofs.lemmas.List.{length-drop, length-take-le, take_all}
use Rattle.std.specs.Prelude.{ℕ, Bool, true, false, not, zero, suc, ◌≤◌, List, [], ◌∷◌, take, drop, length}
use Rattle.std.specs.Cmp.Lexicographic.{slice_cmp}
use Rattle.std.specs.Bool.{◌==◌}
use Rattle.std.specs.Ordering.{nat_cmp, ordering_index, ordering_then}
use Rattle.std.specs.declared.cmp.Ordering.{Ordering}
use Rattle.std.specs.declared.cmp.Ordering.TheVariants.{Less, Equal, Greater}
use Rattle.values.specs.SmallBytes.{spelled}
use Rattle.values.proofs.WordLemmas.{AreBytes, parted, spelled-cmp}

taken : (n : ℕ) (xs : List ℕ) → AreBytes xs → AreBytes (take n xs)
taken zero xs h k = omega arith
taken (suc n) [] h k = omega arith
taken (suc n) (x ∷ xs) h zero = h 0
taken (suc n) (x ∷ xs) h (suc k) = taken n xs (λ j. h (suc j)) k

dropped : (n : ℕ) (xs : List ℕ) → AreBytes xs → AreBytes (drop n xs)
dropped zero xs h = h
dropped (suc n) [] h = h
dropped (suc n) (x ∷ xs) h = dropped n xs (λ j. h (suc j))

abbrev is-unlike : Ordering → Bool
is-unlike r = not (ordering_index r == 1)

-- the first order decides where it isn't `Equal`, and else the second does
decided : (r s : Ordering) → true ≡ is-unlike r → ordering_then r s ≡ r
decided Less s h = refl
decided Equal s h = absurd (true≢false h)
decided Greater s h = refl

passed-on : (r s : Ordering) → false ≡ is-unlike r → ordering_then r s ≡ s
passed-on Less s h = absurd (true≢false (sym h))
passed-on Equal s h = refl
passed-on Greater s h = absurd (true≢false (sym h))

-- 14 bytes are ordered by the numbers of the first eight, and of the last six
module _ (xs ys : List ℕ) (e : length xs ≡ 14) (f : length ys ≡ 14) (g : AreBytes xs) (h : AreBytes ys) where
  abbrev first : Ordering
  first = nat_cmp (spelled 0 (take 8 xs)) (spelled 0 (take 8 ys))

  abbrev second : Ordering
  second = nat_cmp (spelled 0 (take 6 (drop 8 xs))) (spelled 0 (take 6 (drop 8 ys)))

  last-six : (zs : List ℕ) → length zs ≡ 14 → take 6 (drop 8 zs) ≡ drop 8 zs
  last-six zs all = take_all 6 (drop 8 zs) (omega (arith, length-drop 8 zs))

  in-two : ordering_then first second ≡ slice_cmp nat_cmp xs ys
  in-two =
      ap₂ ordering_then
      (spelled-cmp 0 (take 8 xs) (take 8 ys)
      (length-take-le 8 xs (omega (arith, e)) ∙ sym (length-take-le 8 ys (omega (arith, f)))) (taken 8 xs g) (taken 8 ys h))
      (ap₂ (λ us vs. nat_cmp (spelled 0 us) (spelled 0 vs)) (last-six xs e) (last-six ys f)
      ∙ spelled-cmp 0 (drop 8 xs) (drop 8 ys)
      (omega (arith, e, f, length-drop 8 xs, length-drop 8 ys)) (dropped 8 xs g) (dropped 8 ys h))
      ∙ parted 8 xs ys (omega (arith, e)) (omega (arith, f))

  pub by-first : (r : Ordering) → r ≡ first → true ≡ is-unlike r → r ≡ slice_cmp nat_cmp xs ys
  by-first r is unlike = sym (decided r second unlike) ∙ ap (λ o. ordering_then o second) is ∙ in-two

  pub by-second : (q r : Ordering) → q ≡ first → false ≡ is-unlike q → r ≡ second → r ≡ slice_cmp nat_cmp xs ys
  by-second q r was alike is = is ∙ sym (passed-on first second (alike ∙ ap is-unlike was)) ∙ in-two
