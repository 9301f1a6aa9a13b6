-- Arrays as lists of values, by their lengths.
use Rattle.std.proofs.Common.{◌≡◌, suc, ◌<◌, List, [], ◌∷◌, length, get_or, drop, refl, ap, arith, None, String, Global}
use Rattle.toml.specs.Data.{no_items, item}
use Rattle.std.specs.Prelude.{◌≢◌}
use Rattle.view_config.specs.Tree.{sole, pair, headed, count_items, count_members}
use Rattle.toml.specs.View.{view, items_view, members_view}
use Rattle.toml.specs.declared.value.Value.{Value}

pub one-item : (vs : List Value) (d : Value) → length vs ≡ 1 → items_view vs ≡ item (view (get_or vs 0 d)) no_items
one-item [] d h = absurd (omega (arith, h))
one-item (v ∷ []) d h = refl
one-item (v ∷ w ∷ vs) d h = absurd (omega (arith, h))

pub two-items :
    (vs : List Value) (d e : Value) → length vs ≡ 2
    → items_view vs ≡ item (view (get_or vs 0 d)) (item (view (get_or vs 1 e)) no_items)
two-items [] d e h = absurd (omega (arith, h))
two-items (v ∷ []) d e h = absurd (omega (arith, h))
two-items (v ∷ w ∷ []) d e h = refl
two-items (v ∷ w ∷ x ∷ vs) d e h = absurd (omega (arith, h))

pub sole-none : (vs : List Value) → length vs ≢ 1 → sole (items_view vs) ≡ None
sole-none [] h = refl
sole-none (v ∷ []) h = absurd (h refl)
sole-none (v ∷ w ∷ vs) h = refl

pub pair-none : (vs : List Value) → length vs ≢ 2 → pair (items_view vs) ≡ None
pair-none [] h = refl
pair-none (v ∷ []) h = refl
pair-none (v ∷ w ∷ []) h = absurd (h refl)
pair-none (v ∷ w ∷ x ∷ vs) h = refl

pub headed-item : (vs : List Value) (d : Value) → 0 < length vs
    → items_view vs ≡ item (view (get_or vs 0 d)) (items_view (drop 1 vs))
headed-item [] d h = absurd (omega (arith, h))
headed-item (v ∷ vs) d h = refl

pub headed-none : (vs : List Value) → length vs ≡ 0 → headed (items_view vs) ≡ None
headed-none [] h = refl
headed-none (v ∷ vs) h = absurd (omega (arith, h))

pub ruleset arrays = (one-item, two-items, sole-none, pair-none, headed-item, headed-none)

pub count-items : (vs : List Value) → count_items (items_view vs) ≡ length vs
count-items [] = refl
count-items (v ∷ vs) = ap (λ n. suc n) (count-items vs)

pub count-members : (es : List (String Global × Value)) → count_members (members_view es) ≡ length es
count-members [] = refl
count-members (e ∷ es) = ap (λ n. suc n) (count-members es)

pub ruleset counts = (count-items, count-members)
