-- The order of bytes by the numbers that they form.
use Rattle.std.proofs.Common.{◌≡◌, refl, ap, ap₂, sym, ◌∙◌, arith, true≢false}
use Rattle.std.proofs.Math.ListN.{get_or}
use Rattle.std.proofs.lemmas.List.{length-drop, length-take-le, drop-drop, take_all}
use Rattle.std.specs.Prelude.{ℕ, Bool, true, false, not, zero, suc, ◌+◌, ◌*◌, ◌<◌, ◌≤◌, List, [], ◌∷◌, take, drop, length, replicate}
use Rattle.std.specs.Cmp.{ranks, nat_cmp_is}
use Rattle.std.specs.Cmp.Lexicographic.{slice_cmp}
use Rattle.std.specs.Bool.{◌==◌}
use Rattle.std.specs.Ordering.{nat_cmp, ordering_index, ordering_then, MatchOrdering}
use Rattle.std.specs.declared.cmp.Ordering.{Ordering}
use Rattle.std.specs.declared.cmp.Ordering.TheVariants.{Less, Equal, Greater}
use Rattle.values.specs.SmallBytes.{spelled}

abbrev pub AreBytes : List ℕ → Type 0
AreBytes xs = (k : ℕ) → get_or xs k 0 < 256

rises : (a b : ℕ) (us vs : List ℕ) → length us ≡ length vs → AreBytes us → a < b → spelled a us < spelled b vs
rises a b [] [] e h l = l
rises a b [] (v ∷ vs) e h l = absurd (omega arith)
rises a b (u ∷ us) [] e h l = absurd (omega arith)
rises a b (u ∷ us) (v ∷ vs) e h l =
    let small : u < 256 = h 0 in
    rises (a * 256 + u) (b * 256 + v) us vs (omega arith) (λ k. h (suc k)) (omega arith)

pub spelled-cmp : (a : ℕ) (us vs : List ℕ) → length us ≡ length vs → AreBytes us → AreBytes vs
    → nat_cmp (spelled a us) (spelled a vs) ≡ slice_cmp nat_cmp us vs
spelled-cmp a [] [] e g h = sym (nat_cmp_is a a Equal refl)
spelled-cmp a [] (v ∷ vs) e g h = absurd (omega arith)
spelled-cmp a (u ∷ us) [] e g h = absurd (omega arith)
spelled-cmp a (u ∷ us) (v ∷ vs) e g h =
    by (nat_cmp u v) (ranks u v) (spelled-cmp (a * 256 + u) us vs (omega arith) (λ k. g (suc k)) (λ k. h (suc k)))
  where
    by : (r : Ordering) → MatchOrdering r (u < v) (u ≡ v) (v < u)
        → nat_cmp (spelled (a * 256 + u) us) (spelled (a * 256 + u) vs) ≡ slice_cmp nat_cmp us vs
        → nat_cmp (spelled (a * 256 + u) us) (spelled (a * 256 + v) vs) ≡ ordering_then r (slice_cmp nat_cmp us vs)
    by Less l rest =
        let below : u < v = l in
        sym (nat_cmp_is _ _ Less (rises (a * 256 + u) (a * 256 + v) us vs (omega arith) (λ k. g (suc k)) (omega arith)))
    by Greater l rest =
        let above : v < u = l in
        sym (nat_cmp_is _ _ Greater (rises (a * 256 + v) (a * 256 + u) vs us (omega arith) (λ k. h (suc k)) (omega arith)))
    by Equal l rest = ap (λ w. nat_cmp (spelled (a * 256 + u) us) (spelled (a * 256 + w) vs)) (sym l) ∙ rest

pub parted : (n : ℕ) (xs ys : List ℕ) → n ≤ length xs → n ≤ length ys
    → ordering_then (slice_cmp nat_cmp (take n xs) (take n ys)) (slice_cmp nat_cmp (drop n xs) (drop n ys))
    ≡ slice_cmp nat_cmp xs ys
parted zero xs ys f g = refl
parted (suc n) [] ys f g = absurd (omega arith)
parted (suc n) (x ∷ xs) [] f g = absurd (omega arith)
parted (suc n) (x ∷ xs) (y ∷ ys) f g = by (nat_cmp x y) (parted n xs ys (omega arith) (omega arith))
  where
    by : (r : Ordering)
        → ordering_then (slice_cmp nat_cmp (take n xs) (take n ys)) (slice_cmp nat_cmp (drop n xs) (drop n ys))
        ≡ slice_cmp nat_cmp xs ys
        → ordering_then (ordering_then r (slice_cmp nat_cmp (take n xs) (take n ys)))
        (slice_cmp nat_cmp (drop n xs) (drop n ys))
        ≡ ordering_then r (slice_cmp nat_cmp xs ys)
    by Less rest = refl
    by Greater rest = refl
    by Equal rest = rest

-- zeros after bytes: lists are ordered as they are with the zeros, and then by their lengths
least : (xs ys : List ℕ) (n : ℕ) → xs ≡ replicate n 0 → length xs ≡ length ys
    → ordering_then (slice_cmp nat_cmp xs ys) Less ≡ Less
least [] [] n e l = refl
least [] (y ∷ ys) n e l = refl
least (x ∷ xs) [] n e l = absurd (omega arith)
least (x ∷ xs) (y ∷ ys) zero e l = absurd (omega (arith, ap length e))
least (x ∷ xs) (y ∷ ys) (suc n) e l = by (nat_cmp x y) (ranks x y) (least xs ys n (ap (drop 1) e) (omega arith))
  where
    by : (r : Ordering) → MatchOrdering r (x < y) (x ≡ y) (y < x)
        → ordering_then (slice_cmp nat_cmp xs ys) Less ≡ Less
        → ordering_then (ordering_then r (slice_cmp nat_cmp xs ys)) Less ≡ Less
    by Less h rest = refl
    by Equal h rest = rest
    by Greater h rest =
        let above : y < x = h in
        let none : x ≡ 0 = ap (λ l. get_or l 0 0) e in
        absurd (omega arith)

greatest : (xs ys : List ℕ) (n : ℕ) → ys ≡ replicate n 0 → length xs ≡ length ys
    → ordering_then (slice_cmp nat_cmp xs ys) Greater ≡ Greater
greatest [] [] n e l = refl
greatest (x ∷ xs) [] n e l = refl
greatest [] (y ∷ ys) n e l = absurd (omega arith)
greatest (x ∷ xs) (y ∷ ys) zero e l = absurd (omega (arith, ap length e))
greatest (x ∷ xs) (y ∷ ys) (suc n) e l = by (nat_cmp x y) (ranks x y) (greatest xs ys n (ap (drop 1) e) (omega arith))
  where
    by : (r : Ordering) → MatchOrdering r (x < y) (x ≡ y) (y < x)
        → ordering_then (slice_cmp nat_cmp xs ys) Greater ≡ Greater
        → ordering_then (ordering_then r (slice_cmp nat_cmp xs ys)) Greater ≡ Greater
    by Greater h rest = refl
    by Equal h rest = rest
    by Less h rest =
        let below : x < y = h in
        let none : y ≡ 0 = ap (λ l. get_or l 0 0) e in
        absurd (omega arith)

level : (xs ys : List ℕ) (m n : ℕ) → xs ≡ replicate m 0 → ys ≡ replicate n 0 → length xs ≡ length ys
    → slice_cmp nat_cmp xs ys ≡ Equal
level [] [] m n e f l = refl
level [] (y ∷ ys) m n e f l = absurd (omega arith)
level (x ∷ xs) [] m n e f l = absurd (omega arith)
level (x ∷ xs) (y ∷ ys) zero n e f l = absurd (omega (arith, ap length e))
level (x ∷ xs) (y ∷ ys) (suc m) zero e f l = absurd (omega (arith, ap length f))
level (x ∷ xs) (y ∷ ys) (suc m) (suc n) e f l =
    let first = λ (zs : List ℕ). get_or zs 0 0 in
    ap (λ r. ordering_then r (slice_cmp nat_cmp xs ys)) (sym (nat_cmp_is x y Equal (ap first e ∙ sym (ap first f))))
    ∙ level xs ys m n (ap (drop 1) e) (ap (drop 1) f) (omega arith)

pub padded : (k l m n : ℕ) (xs ys : List ℕ) → length xs ≡ length ys → k ≤ length xs → l ≤ length ys
    → drop k xs ≡ replicate m 0 → drop l ys ≡ replicate n 0
    → ordering_then (slice_cmp nat_cmp xs ys) (nat_cmp k l) ≡ slice_cmp nat_cmp (take k xs) (take l ys)
padded zero zero m n xs ys e p q g h = ap₂ ordering_then (level xs ys m n g h e) (sym (nat_cmp_is 0 0 Equal refl))
padded zero (suc l) m n [] ys e p q g h = absurd (omega arith)
padded zero (suc l) m n (x ∷ xs) [] e p q g h = absurd (omega arith)
padded zero (suc l) m n (x ∷ xs) (y ∷ ys) e p q g h =
    ap (ordering_then (slice_cmp nat_cmp (x ∷ xs) (y ∷ ys))) (sym (nat_cmp_is 0 (suc l) Less (omega arith)))
    ∙ least (x ∷ xs) (y ∷ ys) m g e
padded (suc k) zero m n [] ys e p q g h = absurd (omega arith)
padded (suc k) zero m n (x ∷ xs) [] e p q g h = absurd (omega arith)
padded (suc k) zero m n (x ∷ xs) (y ∷ ys) e p q g h =
    ap (ordering_then (slice_cmp nat_cmp (x ∷ xs) (y ∷ ys))) (sym (nat_cmp_is (suc k) 0 Greater (omega arith)))
    ∙ greatest (x ∷ xs) (y ∷ ys) n h e
padded (suc k) (suc l) m n [] ys e p q g h = absurd (omega arith)
padded (suc k) (suc l) m n (x ∷ xs) [] e p q g h = absurd (omega arith)
padded (suc k) (suc l) m n (x ∷ xs) (y ∷ ys) e p q g h =
    by (nat_cmp x y) (padded k l m n xs ys (omega arith) (omega arith) (omega arith) g h)
  where
    lowered : nat_cmp (suc k) (suc l) ≡ nat_cmp k l
    lowered = by-rank (nat_cmp k l) (ranks k l)
      where
        by-rank : (r : Ordering) → MatchOrdering r (k < l) (k ≡ l) (l < k) → nat_cmp (suc k) (suc l) ≡ r
        by-rank Less m = let t : k < l = m in let le : suc k < suc l = omega arith in sym (nat_cmp_is _ _ Less le)
        by-rank Equal m = let t : k ≡ l = m in let eq : suc k ≡ suc l = omega arith in sym (nat_cmp_is _ _ Equal eq)
        by-rank Greater m = let t : l < k = m in let ge : suc l < suc k = omega arith in sym (nat_cmp_is _ _ Greater ge)

    by : (r : Ordering)
        → ordering_then (slice_cmp nat_cmp xs ys) (nat_cmp k l) ≡ slice_cmp nat_cmp (take k xs) (take l ys)
        → ordering_then (ordering_then r (slice_cmp nat_cmp xs ys)) (nat_cmp (suc k) (suc l))
        ≡ ordering_then r (slice_cmp nat_cmp (take k xs) (take l ys))
    by Less rest = refl
    by Greater rest = refl
    by Equal rest = ap (ordering_then (slice_cmp nat_cmp xs ys)) lowered ∙ rest

taken : (n : ℕ) (xs : List ℕ) → AreBytes xs → AreBytes (take n xs)
taken zero xs h k = omega arith
taken (suc n) [] h k = omega arith
taken (suc n) (x ∷ xs) h zero = h 0
taken (suc n) (x ∷ xs) h (suc k) = taken n xs (λ j. h (suc j)) k

dropped : (n : ℕ) (xs : List ℕ) → AreBytes xs → AreBytes (drop n xs)
dropped zero xs h = h
dropped (suc n) [] h = h
dropped (suc n) (x ∷ xs) h = dropped n xs (λ j. h (suc j))

word-cmp : (n : ℕ) (xs ys : List ℕ) → n ≤ length xs → n ≤ length ys → AreBytes xs → AreBytes ys
    → nat_cmp (spelled 0 (take n xs)) (spelled 0 (take n ys)) ≡ slice_cmp nat_cmp (take n xs) (take n ys)
word-cmp n xs ys e f g h =
    spelled-cmp 0 (take n xs) (take n ys) (length-take-le n xs e ∙ sym (length-take-le n ys f)) (taken n xs g) (taken n ys h)

abbrev is-unlike : Ordering → Bool
is-unlike r = not (ordering_index r == 1)

-- the first order decides where it isn't `Equal`, and else the second does
decided : (r s : Ordering) → true ≡ is-unlike r → ordering_then r s ≡ r
decided Less s h = refl
decided Equal s h = absurd (true≢false h)
decided Greater s h = refl

passed-on : (r s : Ordering) → false ≡ is-unlike r → ordering_then r s ≡ s
passed-on Less s h = absurd (true≢false (sym h))
passed-on Equal s h = refl
passed-on Greater s h = absurd (true≢false (sym h))

-- 22 bytes are ordered by the numbers of the first eight, of the next eight, and of the last six
module _ (xs ys : List ℕ) (e : length xs ≡ 22) (f : length ys ≡ 22) (g : AreBytes xs) (h : AreBytes ys) where
  abbrev first : Ordering
  first = nat_cmp (spelled 0 (take 8 xs)) (spelled 0 (take 8 ys))

  abbrev second : Ordering
  second = nat_cmp (spelled 0 (take 8 (drop 8 xs))) (spelled 0 (take 8 (drop 8 ys)))

  abbrev third : Ordering
  third = nat_cmp (spelled 0 (take 6 (drop 16 xs))) (spelled 0 (take 6 (drop 16 ys)))

  in-three : ordering_then first (ordering_then second third) ≡ slice_cmp nat_cmp xs ys
  in-three =
      let end = λ (zs : List ℕ) (all : length zs ≡ 22).
      take_all 6 (drop 16 zs) (omega (arith, length-drop 16 zs)) ∙ sym (drop-drop 8 8 zs) in
      let x-8 = length-drop 8 xs in
      let y-8 = length-drop 8 ys in
      let x-16 = length-drop 16 xs in
      let y-16 = length-drop 16 ys in
      ap₂ ordering_then (word-cmp 8 xs ys (omega arith) (omega arith) g h)
      (ap₂ ordering_then
      (word-cmp 8 (drop 8 xs) (drop 8 ys) (omega (arith, x-8)) (omega (arith, y-8)) (dropped 8 xs g) (dropped 8 ys h))
      (word-cmp 6 (drop 16 xs) (drop 16 ys) (omega (arith, x-16)) (omega (arith, y-16)) (dropped 16 xs g) (dropped 16 ys h)
      ∙ ap₂ (slice_cmp nat_cmp) (end xs e) (end ys f))
      ∙ parted 8 (drop 8 xs) (drop 8 ys) (omega (arith, x-8)) (omega (arith, y-8)))
      ∙ parted 8 xs ys (omega arith) (omega arith)

  pub by-first : (r : Ordering) → r ≡ first → true ≡ is-unlike r → r ≡ slice_cmp nat_cmp xs ys
  by-first r is unlike =
      sym (decided r (ordering_then second third) unlike)
      ∙ ap (λ o. ordering_then o (ordering_then second third)) is
      ∙ in-three

  pub by-second : (q r : Ordering) → q ≡ first → false ≡ is-unlike q → r ≡ second → true ≡ is-unlike r
      → r ≡ slice_cmp nat_cmp xs ys
  by-second q r was alike is unlike =
      sym (decided r third unlike)
      ∙ ap (λ o. ordering_then o third) is
      ∙ sym (passed-on first (ordering_then second third) (alike ∙ ap is-unlike was))
      ∙ in-three

  pub by-third : (p q r : Ordering) → p ≡ first → false ≡ is-unlike p → q ≡ second → false ≡ is-unlike q → r ≡ third
      → r ≡ slice_cmp nat_cmp xs ys
  by-third p q r was alike had level is =
      is
      ∙ sym (passed-on second third (level ∙ ap is-unlike had))
      ∙ sym (passed-on first (ordering_then second third) (alike ∙ ap is-unlike was))
      ∙ in-three
