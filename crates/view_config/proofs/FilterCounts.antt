-- The filters that a filter is made of, as loops count them.
use Rattle.std.proofs.Common.{◌≡◌, ℕ, zero, suc, ◌+◌, ◌<◌, ◌≤◌, List, [], ◌∷◌, length, drop, get_or, sym, ap, subst}
use Rattle.std.proofs.Common.{◌∙◌, arith}
use Rattle.std.proofs.lemmas.List.{drop_all, drop_more}
use Rattle.view_lang.specs.Filter.{Filter, all_of, compare, filter_size, negation, null_in, one_of, parts_of}
use Rattle.view_lang.specs.Filter.{parts_size}

-- there is a filter
pub some_filter : (f : Filter) → 1 ≤ filter_size f
some_filter (compare c k o) = omega arith
some_filter (null_in k) = omega arith
some_filter (negation f) = omega arith
some_filter (all_of fs) = omega arith
some_filter (one_of fs) = omega arith

part-size : (fs : List Filter) (i : ℕ) (d : Filter) → i < length fs
    → filter_size (get_or fs i d) ≤ parts_size (parts_of fs)
part-size [] i d h = absurd (omega (arith, h))
part-size (e ∷ fs) zero d h = omega arith
part-size (e ∷ fs) (suc i) d h = let rest = part-size fs i d (omega (arith, h)) in omega (arith, rest)

pub part_smaller :
    (fs : List Filter) (i : ℕ) (d e : Filter) → e ≡ get_or fs i d → i < length fs
    → filter_size e ≤ parts_size (parts_of fs)
part_smaller fs i d e is h = subst (λ x. filter_size x ≤ parts_size (parts_of fs)) (sym is) (part-size fs i d h)

pub parts_step :
    (fs : List Filter) (k : ℕ) (e d : Filter) → e ≡ get_or fs k d → k < length fs
    → parts_size (parts_of (drop k fs)) ≡ filter_size e + parts_size (parts_of (drop (k + 1) fs))
parts_step fs k e d is below =
    let split : drop k fs ≡ e ∷ drop (k + 1) fs =
    drop_more fs k d below ∙ ap (λ c. c ∷ drop (k + 1) fs) (sym is) in
    ap (λ (gs : List Filter). parts_size (parts_of gs)) split

pub parts_end : (fs : List Filter) (k : ℕ) → length fs ≤ k → parts_size (parts_of (drop k fs)) ≡ 0
parts_end fs k past = ap (λ (gs : List Filter). parts_size (parts_of gs)) (drop_all k fs past)

pub ruleset counting = (some_filter, part_smaller, parts_step, parts_end)
