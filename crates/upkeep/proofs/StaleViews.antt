-- Loops over the states of views, and over numbers.
use Rattle.std.proofs.Common.{◌≡◌, ℕ, zero, suc, ◌+◌, ◌<◌, ◌++◌, All, Bool, true, false, List, [], ◌∷◌, add-one, arith, count_by, get_or, length, map, refl, ap, subst, sym, take, ◌∙◌}
use Rattle.std.specs.Prelude.{cond, slice_set}
use Rattle.std.proofs.Math.Seq.{take-suc}
use Rattle.std.proofs.lemmas.List.{map-append}
use Rattle.std.proofs.lemmas.List.Elements.{All-cons, All-head, All-nil, All-tail}
use Rattle.std.proofs.lemmas.List.Sums.{sum_by-cons}
use Rattle.view_lang.specs.Config.{Table, View}
use Rattle.upkeep.specs.Stores.{Rows}
use Rattle.upkeep.specs.ViewStates.{AreLinks, EachIsCurrent, IsMaterialized, KeepsLinks, stale_in}
use Rattle.upkeep.specs.declared.view_state.ViewState.{ViewState}

-- marked one after the other

abbrev IsStale : ViewState → Type 0
IsStale s = s.stale ≡ true

marked_more : (i : ℕ) (ss : List ViewState) (s : ViewState) → All IsStale (take i ss) → i < length ss → IsStale s
    → All IsStale (take (suc i) (slice_set ss i s))
marked_more i [] s so_far below stale = absurd (omega (arith, below))
marked_more zero (x ∷ xs) s so_far below stale = All-cons IsStale s [] stale (All-nil IsStale)
marked_more (suc i) (x ∷ xs) s so_far below stale =
    All-cons IsStale x (take (suc i) (slice_set xs i s)) (All-head IsStale x (take i xs) so_far)
    (marked_more i xs s (All-tail IsStale x (take i xs) so_far) (omega (arith, below)) stale)

pub stale_more : (i : ℕ) (ss : List ViewState) (s : ViewState) → All IsStale (take i ss) → i < length ss
    → s.stale ≡ true
    → All IsStale (take (i + 1) (slice_set ss i s))
stale_more i ss s so_far below stale =
    subst (λ n. All IsStale (take n (slice_set ss i s))) (sym (add-one i)) (marked_more i ss s so_far below stale)

-- counted

pub counted : (ss : List ViewState) → count_by (λ (b : Bool). b) (stale_in ss) ≡ count_by (λ (s : ViewState). s.stale)
    ss
counted [] = refl
counted (s ∷ ss) =
    sum_by-cons (λ (b : Bool). cond b 1 0) s.stale (stale_in ss) ∙ ap (λ n. cond s.stale 1 0 + n) (counted ss)
    ∙ sym (sum_by-cons (λ (x : ViewState). cond x.stale 1 0) s ss)

-- fresh states

current_more :
    (tables : List Table) (rows : Rows) (views : List View) (states : List ViewState) (v : View) (s : ViewState)
    → EachIsCurrent tables rows [] views states → IsMaterialized v s.kept []
    → AreLinks tables v s.kept s.links × KeepsLinks s.links []
    → EachIsCurrent tables rows [] (views ++ v ∷ []) (states ++ s ∷ [])
current_more tables rows [] [] v s each kept links = (λ fresh. (kept, links), tt)
current_more tables rows [] (t ∷ ts) v s each kept links = absurd each
current_more tables rows (w ∷ ws) [] v s each kept links = absurd each
current_more tables rows (w ∷ ws) (t ∷ ts) v s each kept links =
    (each.0, current_more tables rows ws ts v s each.1 kept links)

pub fresh_more :
    (tables : List Table) (rows : Rows) (views : List View) (i : ℕ) (old new : List ViewState) (v : View) (s :
    ViewState)
    → EachIsCurrent tables rows [] (take i views) old → i < length views → v ≡ get_or views i v
    → IsMaterialized v s.kept [] → AreLinks tables v s.kept s.links × KeepsLinks s.links [] → new ≡ old ++ s ∷ []
    → EachIsCurrent tables rows [] (take (i + 1) views) new
fresh_more tables rows views i old new v s each below at kept links more =
    let next : take (i + 1) views ≡ take i views ++ v ∷ [] =
    ap (λ n. take n views) (add-one i) ∙ take-suc views i v below ∙ ap (λ x. take i views ++ x ∷ []) (sym at) in
    subst (λ (ss : List ViewState). EachIsCurrent tables rows [] (take (i + 1) views) ss) (sym more)
    (subst (λ (vs : List View). EachIsCurrent tables rows [] vs (old ++ s ∷ [])) (sym next)
    (current_more tables rows (take i views) old v s each kept links))

pub fresh_stale :
    (views : List View) (i : ℕ) (old new : List ViewState) (s : ViewState)
    → stale_in old ≡ map (λ (_ : View). false) (take i views) → i < length views → (v : View) → v ≡ get_or views i v
    → s.stale ≡ false → new ≡ old ++ s ∷ [] → stale_in new ≡ map (λ (_ : View). false) (take (i + 1) views)
fresh_stale views i old new s so_far below v at fresh more =
    let next : take (i + 1) views ≡ take i views ++ v ∷ [] =
    ap (λ n. take n views) (add-one i) ∙ take-suc views i v below ∙ ap (λ x. take i views ++ x ∷ []) (sym at) in
    ap stale_in more ∙ map-append (λ (x : ViewState). x.stale) old (s ∷ [])
    ∙ ap (λ bs. bs ++ s.stale ∷ []) so_far
    ∙ ap (λ b. map (λ (_ : View). false) (take i views) ++ b ∷ []) fresh
    ∙ sym (ap (map (λ (_ : View). false)) next ∙ map-append (λ (_ : View). false) (take i views) (v ∷ []))
