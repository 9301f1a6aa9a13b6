-- Keys of different ranks are ordered by their ranks.
use Rattle.std.proofs.Common.{◌≡◌, inl, inr, ℕ, ℤ, ◌-◌, ◌<◌, ◌≤◌, ◌<ℤ◌, refl, ap, ap₂, sym, ◌∙◌, arith}
use Rattle.std.proofs.lemmas.Int.{ints}
use Rattle.std.proofs.lemmas.List.{drop_at, length-append, length-replicate, length-take, take_at}
use Rattle.std.specs.Cmp.{int_cmp_is, nat_cmp_is, ranks}
use Rattle.std.specs.Cmp.Lexicographic.{slice_cmp}
use Rattle.std.specs.Ordering.{MatchOrdering, nat_cmp, ordering_reverse, ordering_then}
use Rattle.std.specs.Prelude.{List, [], ◌∷◌, ◌++◌, drop, length, replicate, suc, take, zero}
use Rattle.std.specs.declared.cmp.Ordering.{Ordering}
use Rattle.std.specs.declared.cmp.Ordering.TheVariants.{Equal, Greater, Less}
use Rattle.values.specs.Datum.{Datum, truth, whole, text}
use Rattle.values.specs.Keys.{datum_of_key}
use Rattle.values.specs.Order.{datum_cmp}
use Rattle.values.proofs.KeyLaws.{keys-ordered}
use Rattle.values.proofs.WordLemmas.{AreBytes, spelled-cmp, padded}
use Rattle.values.specs.declared.key.Key.{Key}
use Rattle.key_ranks.specs.RankOrder.{RanksAreOrdered, key_cmp, key_total}
use Rattle.key_ranks.specs.Ranks.{IsCellRank, IsNumberRank, IsTextRank, first_word, half_ranks, key_ranks}

numbers-ranked : (n m : ℤ) (r s : ℕ) → IsNumberRank n r → IsNumberRank m s → r < s → n <ℤ m
numbers-ranked n m r s (inl (a, p)) (inl (b, q)) l = absurd (omega (arith, ints, p, q, l))
numbers-ranked n m r s (inl (a, p)) (inr (inl (q, b))) l = omega (arith, ints, a, p, q, l)
numbers-ranked n m r s (inl (a, p)) (inr (inr (b, q))) l = omega (arith, ints, a, b)
numbers-ranked n m r s (inr (inl (p, a))) (inl (b, q)) l = absurd (omega (arith, ints, q, l))
numbers-ranked n m r s (inr (inl (p, a))) (inr (inl (q, b))) l = omega (arith, ints, p, q, l)
numbers-ranked n m r s (inr (inl (p, a))) (inr (inr (b, q))) l = omega (arith, ints, p, a, b, q, l)
numbers-ranked n m r s (inr (inr (a, p))) (inl (b, q)) l = absurd (omega (arith, ints, q, l))
numbers-ranked n m r s (inr (inr (a, p))) (inr (inl (q, b))) l = absurd (omega (arith, ints, p, b, l))
numbers-ranked n m r s (inr (inr (a, p))) (inr (inr (b, q))) l = absurd (omega (arith, ints, p, q, l))

number-below : (n : ℤ) (r : ℕ) → IsNumberRank n r → r < half_ranks
number-below n r (inl (a, p)) = omega (arith, p)
number-below n r (inr (inl (p, a))) = a
number-below n r (inr (inr (a, p))) = omega (arith, p)

-- lists are ordered as their beginnings are, where these differ
by_beginnings : (n : ℕ) (xs ys : List ℕ) → slice_cmp nat_cmp (take n xs) (take n ys) ≡ Less
    → slice_cmp nat_cmp xs ys ≡ Less
by_beginnings zero xs ys h = absurd (cc)
by_beginnings (suc n) [] [] h = h
by_beginnings (suc n) [] (y ∷ ys) h = refl
by_beginnings (suc n) (x ∷ xs) [] h = h
by_beginnings (suc n) (x ∷ xs) (y ∷ ys) h = by (nat_cmp x y) (by_beginnings n xs ys) h
  where
    by : (o : Ordering) → (slice_cmp nat_cmp (take n xs) (take n ys) ≡ Less → slice_cmp nat_cmp xs ys ≡ Less)
        → ordering_then o (slice_cmp nat_cmp (take n xs) (take n ys)) ≡ Less
        → ordering_then o (slice_cmp nat_cmp xs ys) ≡ Less
    by Less rest e = refl
    by Equal rest e = rest e
    by Greater rest e = e

-- eight bytes, with zeros after fewer
abbrev eight : List ℕ → List ℕ
eight xs = take 8 xs ++ replicate (8 - length xs) 0

eight-long : (xs : List ℕ) → length (eight xs) ≡ 8
eight-long xs =
    let a = length-append (take 8 xs) (replicate (8 - length xs) 0) in
    let b = length-take 8 xs in
    let c = length-replicate {A = ℕ} (8 - length xs) 0 in
    omega (arith, a, b, c)

zeros : (n : ℕ) → AreBytes (replicate n 0)
zeros zero k = omega arith
zeros (suc n) zero = omega arith
zeros (suc n) (suc k) = zeros n k

all-bytes : (n : ℕ) (xs ys : List ℕ) → AreBytes xs → AreBytes ys → AreBytes (take n xs ++ ys)
all-bytes zero xs ys g h k = h k
all-bytes (suc n) [] ys g h k = h k
all-bytes (suc n) (x ∷ xs) ys g h zero = g 0
all-bytes (suc n) (x ∷ xs) ys g h (suc k) = all-bytes n xs ys (λ j. g (suc j)) h k

texts-ranked : (xs ys : List ℕ) (r s : ℕ) → IsTextRank xs r → IsTextRank ys s → r < s → slice_cmp nat_cmp xs ys ≡ Less
texts-ranked xs ys r s p q l =
    by_beginnings 8 xs ys
    (sym (ap₂ (slice_cmp nat_cmp) (beginning xs) (beginning ys))
    ∙ (sym (padded (length (take 8 xs)) (length (take 8 ys)) (8 - length xs) (8 - length ys) (eight xs) (eight ys)
    (eight-long xs ∙ sym (eight-long ys)) (shorter xs) (shorter ys) (rest xs) (rest ys))
    ∙ ap (λ o. ordering_then o (nat_cmp (length (take 8 xs)) (length (take 8 ys)))) below))
  where
    beginning : (zs : List ℕ) → take (length (take 8 zs)) (eight zs) ≡ take 8 zs
    beginning zs = take_at (take 8 zs) (replicate (8 - length zs) 0) (length (take 8 zs)) refl

    rest : (zs : List ℕ) → drop (length (take 8 zs)) (eight zs) ≡ replicate (8 - length zs) 0
    rest zs = drop_at (take 8 zs) (replicate (8 - length zs) 0) (length (take 8 zs)) refl

    shorter : (zs : List ℕ) → length (take 8 zs) ≤ length (eight zs)
    shorter zs =
        let a = length-append (take 8 zs) (replicate (8 - length zs) 0) in
        omega (arith, a)

    lower : first_word xs < first_word ys
    lower = omega (arith, p.1, p.4, q.1, q.3, l)

    below : slice_cmp nat_cmp (eight xs) (eight ys) ≡ Less
    below =
        sym (spelled-cmp 0 (eight xs) (eight ys) (eight-long xs ∙ sym (eight-long ys))
        (all-bytes 8 xs _ p.0 (zeros (8 - length xs))) (all-bytes 8 ys _ q.0 (zeros (8 - length ys))))
        ∙ sym (nat_cmp_is _ _ Less lower)

pub cell-below : (a : Datum) (r : ℕ) → IsCellRank a r → r < key_ranks
cell-below (truth x) r p = omega (arith, p)
cell-below (whole n) r p = omega (arith, number-below n r p)
cell-below (text t) r p = p.2
cell-below a r p = omega (arith, p)

cells-ranked : (a b : Datum) (r s : ℕ) → IsCellRank a r → IsCellRank b s → r < s → datum_cmp a b ≡ Less
cells-ranked (truth x) (truth y) r s p q l = absurd (omega (arith, p, q, l))
cells-ranked (truth x) b r s p q l = refl
cells-ranked (whole n) (truth y) r s p q l = absurd (omega (arith, q, l))
cells-ranked (whole n) (whole m) r s p q l = sym (int_cmp_is n m Less (numbers-ranked n m r s p q l))
cells-ranked (whole n) b r s p q l = refl
cells-ranked (text t) (truth y) r s p q l = absurd (omega (arith, q, l))
cells-ranked (text t) (whole m) r s p q l = absurd (omega (arith, p.1, number-below m s q, l))
cells-ranked (text t) (text u) r s p q l = texts-ranked t u r s p q l
cells-ranked (text t) b r s p q l = refl
cells-ranked a b r s p q l = absurd (omega (arith, p, l, cell-below b s q))

pub keys_ranked : RanksAreOrdered
keys_ranked x y r s p q l = keys-ordered x y ∙ cells-ranked (datum_of_key x) (datum_of_key y) r s p q l

-- keys of different ranks are ordered as these
pub unlike_ranked : (x y : Key) (r s : ℕ) (o : Ordering) → IsCellRank (datum_of_key x) r → IsCellRank (datum_of_key y) s
    → o ≡ nat_cmp r s → (o ≡ Equal → ⊥) → o ≡ key_cmp x y
unlike_ranked x y r s o p q is unlike = by (nat_cmp r s) (ranks r s) is
  where
    by : (v : Ordering) → MatchOrdering v (r < s) (r ≡ s) (s < r) → o ≡ v → o ≡ key_cmp x y
    by Less l e = e ∙ sym (keys_ranked x y r s p q l)
    by Equal l e = absurd (unlike e)
    by Greater l e = e ∙ sym (key_total.antisymm x y ∙ ap ordering_reverse (keys_ranked y x s r q p l))
