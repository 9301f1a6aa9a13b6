-- Sort keys of different ranks are ordered by their ranks.
use Rattle.std.proofs.Common.{◌≡◌, ℕ, ◌<◌, refl, ap, sym, ◌∙◌, arith}
use Rattle.std.specs.Cmp.{ranks}
use Rattle.std.specs.Ordering.{MatchOrdering, nat_cmp, ordering_reverse, ordering_then}
use Rattle.std.specs.Prelude.{List, [], ◌∷◌}
use Rattle.std.specs.declared.cmp.Ordering.{Ordering}
use Rattle.std.specs.declared.cmp.Ordering.TheVariants.{Equal, Greater, Less}
use Rattle.values.specs.Keys.{datum_of_key}
use Rattle.key_ranks.proofs.RankLemmas.{cell-below, keys_ranked}
use Rattle.top_rows.specs.EntryOrder.{sort_keys_cmp, sort_keys_total, tied_cmp}
use Rattle.top_rows.specs.declared.sort_key.SortKey.{SortKey}
use Rattle.top_rows.specs.declared.sort_key.SortKey.TheVariants as sort_key
use Rattle.top_rows.specs.Ranks.{IsRank}

sort-keys_ranked : (xs ys : List SortKey) (r s : ℕ) → IsRank xs r → IsRank ys s → r < s → sort_keys_cmp xs ys ≡ Less
sort-keys_ranked [] [] r s p q l = absurd (omega (arith, p, q, l))
sort-keys_ranked [] (y ∷ ys) r s p q l = refl
sort-keys_ranked (x ∷ xs) [] r s p q l = absurd (omega (arith, q, l))
sort-keys_ranked (sort_key.Ascending x ∷ xs) (sort_key.Ascending y ∷ ys) r s p q l =
    ap (λ o. ordering_then o (sort_keys_cmp xs ys)) (keys_ranked x y r s p q l)
sort-keys_ranked (sort_key.Ascending x ∷ xs) (y ∷ ys) r s p q l = refl
sort-keys_ranked (sort_key.Descending x ∷ xs) (sort_key.Ascending y ∷ ys) r s p q l =
    absurd (omega (arith, p.0, cell-below (datum_of_key y) s q, l))
sort-keys_ranked (sort_key.Descending x ∷ xs) (sort_key.Descending y ∷ ys) r s p q l =
    ap (λ o. ordering_then o (sort_keys_cmp xs ys))
    (keys_ranked y.0 x.0 _ _ q.2 p.2 (omega (arith, p.0, p.1, q.0, q.1, l)))
sort-keys_ranked (sort_key.Descending x ∷ xs) (sort_key.Missing ∷ ys) r s p q l = refl
sort-keys_ranked (sort_key.Missing ∷ xs) (sort_key.Ascending y ∷ ys) r s p q l =
    absurd (omega (arith, p, cell-below (datum_of_key y) s q, l))
sort-keys_ranked (sort_key.Missing ∷ xs) (sort_key.Descending y ∷ ys) r s p q l = absurd (omega (arith, p, q.1, l))
sort-keys_ranked (sort_key.Missing ∷ xs) (sort_key.Missing ∷ ys) r s p q l = absurd (omega (arith, p, q, l))

-- the order of sort keys is that of their ranks, and then their own
ranked-first : (xs ys : List SortKey) (r s : ℕ) → IsRank xs r → IsRank ys s
    → ordering_then (nat_cmp r s) (sort_keys_cmp xs ys) ≡ sort_keys_cmp xs ys
ranked-first xs ys r s p q = by (nat_cmp r s) (ranks r s)
  where
    by : (o : Ordering) → MatchOrdering o (r < s) (r ≡ s) (s < r) → ordering_then o (sort_keys_cmp xs ys) ≡ sort_keys_cmp xs ys
    by Less l = sym (sort-keys_ranked xs ys r s p q l)
    by Equal l = refl
    by Greater l =
        sym (sort_keys_total.antisymm xs ys ∙ ap ordering_reverse (sort-keys_ranked ys xs s r q p l))

-- entries of different ranks are ordered by these
pub entries-ranked : {N : Type 0} (cmp : N → N → Ordering) (p q : List SortKey × N) (r s : ℕ) (o : Ordering)
    → IsRank p.0 r → IsRank q.0 s → o ≡ nat_cmp r s → (o ≡ Equal → ⊥) → o ≡ tied_cmp cmp p q
entries-ranked cmp p q r s o f g is unlike =
    sym (ordered o unlike (ap (λ w. ordering_then w (sort_keys_cmp p.0 q.0)) is ∙ ranked-first p.0 q.0 r s f g))
  where
    ordered : (w : Ordering) → (w ≡ Equal → ⊥) → ordering_then w (sort_keys_cmp p.0 q.0) ≡ sort_keys_cmp p.0 q.0
        → tied_cmp cmp p q ≡ w
    ordered Less u h = ap (λ w. ordering_then w (cmp p.1 q.1)) (sym h)
    ordered Equal u h = absurd (u refl)
    ordered Greater u h = ap (λ w. ordering_then w (cmp p.1 q.1)) (sym h)
