-- The order of lists by the first of their elements.
use Rattle.std.proofs.Common.{◌≡◌, refl, ap, ap₂, ◌∙◌, true≢false}
use Rattle.std.specs.Prelude.{ℕ, zero, suc, true, ◌&&◌, not, List, [], ◌∷◌, take, nat_eq}
use Rattle.std.specs.Cmp.{unsigned_ties}
use Rattle.std.specs.Cmp.Lexicographic.{pointwise, slice_cmp}
use Rattle.std.specs.Ordering.{nat_cmp, ordering_then, is_eq}
use Rattle.std.specs.declared.cmp.Ordering.{Ordering}
use Rattle.std.specs.declared.cmp.Ordering.TheVariants.{Less, Equal, Greater}

pub heads-settle : (n : ℕ) (xs ys : List ℕ) → true ≡ not (pointwise nat_eq (take n xs) (take n ys))
    → slice_cmp nat_cmp (take n xs) (take n ys) ≡ slice_cmp nat_cmp xs ys
heads-settle zero xs ys h = absurd (true≢false h)
heads-settle (suc n) [] [] h = absurd (true≢false h)
heads-settle (suc n) [] (y ∷ ys) h = refl
heads-settle (suc n) (x ∷ xs) [] h = refl
heads-settle (suc n) (x ∷ xs) (y ∷ ys) h = by (nat_cmp x y) refl (λ g. heads-settle n xs ys g)
  where
    by : (o : Ordering) → nat_cmp x y ≡ o
        → (true ≡ not (pointwise nat_eq (take n xs) (take n ys))
        → slice_cmp nat_cmp (take n xs) (take n ys) ≡ slice_cmp nat_cmp xs ys)
        → ordering_then o (slice_cmp nat_cmp (take n xs) (take n ys)) ≡ ordering_then o (slice_cmp nat_cmp xs ys)
    by Less e rest = refl
    by Greater e rest = refl
    by Equal e rest =
        rest (h ∙ ap (λ b. not (b && pointwise nat_eq (take n xs) (take n ys))) (unsigned_ties x y ∙ ap is_eq e))

pub settled-by-heads : {head other : List ℕ} (n : ℕ) (xs ys : List ℕ) → head ≡ take n xs → other ≡ take n ys
    → true ≡ not (pointwise nat_eq head other) → slice_cmp nat_cmp head other ≡ slice_cmp nat_cmp xs ys
settled-by-heads n xs ys h g d =
    ap₂ (slice_cmp nat_cmp) h g
    ∙ heads-settle n xs ys (d ∙ ap₂ (λ left right. not (pointwise nat_eq left right)) h g)
