-- Numbers in ascending order: those below a bound that are among others.
use Rattle.std.proofs.Common.{◌≡◌, ℕ, ◌+◌, ◌<◌, List, [], ◌∷◌, ◌++◌, true, false, cond, length, map, refl, ap, subst, ◌∙◌, append-nil, arith, sym}
use Rattle.std.specs.Prelude.{filter}
use Rattle.std.specs.List.{range_with_len}
use Rattle.std.proofs.lemmas.List.{map-id}
use Rattle.std.proofs.lemmas.List.FromFn.{filter_of_map_range_with_len_more, get_or-range_with_len, length-range_with_len}
use Rattle.std.proofs.lemmas.List.Kept.{AllPairs-filter}
use Rattle.values.specs.Coded.{AreAscending}
use Rattle.view_config.specs.Dict.{ascending}
use Rattle.view_config.specs.Numbers.{is_number_in}

filter_more : (ns : List ℕ) (n : ℕ)
    → ascending ns (n + 1) ≡ ascending ns n ++ cond (is_number_in ns n) (n ∷ []) []
filter_more ns n =
    let more = filter_of_map_range_with_len_more (is_number_in ns) (λ k. k) 0 n n (omega arith) in
    subst (λ (xs : List ℕ). filter (is_number_in ns) xs ≡ ascending ns n ++ cond (is_number_in ns n) (n ∷ []) [])
    (map-id (range_with_len 0 (n + 1)))
    (subst (λ (xs : List ℕ).
    filter (is_number_in ns) (map (λ k. k) (range_with_len 0 (n + 1)))
    ≡ filter (is_number_in ns) xs ++ cond (is_number_in ns n) (n ∷ []) [])
    (map-id (range_with_len 0 n)) more)

pub number_taken : (ns : List ℕ) (n : ℕ) (xs : List ℕ) → is_number_in ns n ≡ true → xs ≡ ascending ns n
    → xs ++ n ∷ [] ≡ ascending ns (n + 1)
number_taken ns n xs h e = rw (filter_more ns n) (rw h (ap (λ ys. ys ++ n ∷ []) e))

pub number_left : (ns : List ℕ) (n : ℕ) (xs : List ℕ) → is_number_in ns n ≡ false → xs ≡ ascending ns n
    → xs ≡ ascending ns (n + 1)
number_left ns n xs h e = rw (filter_more ns n) (rw h (e ∙ sym (append-nil (ascending ns n))))

pub ruleset numbers_ascending = (number_taken, number_left)

range-ascending : (a n : ℕ) → AreAscending (range_with_len a n)
range-ascending a n i j d below within =
    let last : j < n = subst (λ (m : ℕ). j < m) (length-range_with_len a n) within in
    rw (get_or-range_with_len a n i d (omega (arith, below, last)))
    (rw (get_or-range_with_len a n j d last) (omega (arith, below)))

pub ascending-ascends : (ns : List ℕ) (n : ℕ) → AreAscending (ascending ns n)
ascending-ascends ns n = AllPairs-filter (λ j k. j < k) (is_number_in ns) (range_with_len 0 n) (range-ascending 0 n)
