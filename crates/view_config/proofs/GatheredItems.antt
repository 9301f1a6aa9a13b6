-- Loops that gather: what was read, and what is left to read, are the whole. Items are left from a number on, and those
-- entries that the iterator still gives.
use Rattle.std.proofs.Common.{◌≡◌, ℕ, ◌+◌, ◌<◌, ◌≤◌, List, [], ◌∷◌, ◌++◌, String, Global, string_bytes, length, get_or}
use Rattle.std.proofs.Common.{drop, refl, ap, sym, subst, ◌∙◌, append_assoc, append-nil, Ok, Err}
use Rattle.std.proofs.lemmas.List.{drop_all, drop_more}
use Rattle.toml.specs.Data.{Data}
use Rattle.toml.specs.View.{view, items_view, members_view}
use Rattle.toml.specs.declared.value.Value.{Value}
use Rattle.values.specs.Reading.{both, cons, FailsWith, with_front}
use Rattle.values.proofs.Readings.{both_left, front_none}
use Rattle.view_config.specs.Reading.{Reading, Fails}
use Rattle.view_config.specs.Tree.{each_item, each_member}
use Rattle.view_config.proofs.Causes.{fails_along}
use Rattle.view_config.specs.declared.faults.ConfigFault.{ConfigFault}

items-step : {X : Type 0} (f : Data → Reading X) (vs : List Value) (i : ℕ) (d : Value) → i < length vs
    → each_item f (items_view (drop i vs))
    ≡ both cons (f (view (get_or vs i d))) (each_item f (items_view (drop (i + 1) vs)))
unfolding each_item
items-step f vs i d h = rw (drop_more vs i d h) refl

front-cons :
    {X : Type 0} (xs : List X) (x : X) (m : Reading (List X))
    → with_front (xs ++ x ∷ []) m ≡ with_front xs (both cons (Ok x) m)
front-cons xs x (Ok ys) = ap (λ zs. Ok zs) (simp append_assoc)
front-cons xs x (Err fs) = refl

front-stands : {X : Type 0} (xs : List X) (m : Reading (List X)) (c : ConfigFault) → FailsWith m c
    → FailsWith (with_front xs m) c
front-stands xs (Ok ys) c h = h
front-stands xs (Err fs) c h = h

pub items_front_step :
    {X : Type 0} (f : Data → Reading X) (vs : List Value) (i : ℕ) (d : Value) (xs : List X) (x : X)
    (w : Reading (List X)) → i < length vs
    → f (view (get_or vs i d)) ≡ Ok x → with_front xs (each_item f (items_view (drop i vs))) ≡ w
    → with_front (xs ++ x ∷ []) (each_item f (items_view (drop (i + 1) vs))) ≡ w
items_front_step f vs i d xs x w h e k =
    let r : Reading (List _) = each_item f (items_view (drop (i + 1) vs)) in
    let P : Reading _ → Type 0 = λ a. with_front xs (both cons a r) ≡ w in
    let Q : Reading (List _) → Type 0 = λ m. with_front xs m ≡ w in
    front-cons xs x r ∙ subst P e (subst Q (items-step f vs i d h) k)

pub items_front_fails :
    {X : Type 0} (f : Data → Reading X) (vs : List Value) (i : ℕ) (d : Value) (xs : List X) (c : ConfigFault)
    (w : Reading (List X)) → i < length vs → Fails c (f (view (get_or vs i d)))
    → with_front xs (each_item f (items_view (drop i vs))) ≡ w → Fails c w
items_front_fails f vs i d xs c w h s k =
    let r : Reading (List _) = each_item f (items_view (drop (i + 1) vs)) in
    let Q : Reading (List _) → Type 0 = λ m. with_front xs m ≡ w in
    let j : with_front xs (both cons (f (view (get_or vs i d))) r) ≡ w = subst Q (items-step f vs i d h) k in
    let P : (e : ConfigFault) → Reading (List _) → Type 0 = λ e m. FailsWith m e in
    fails_along c (f (view (get_or vs i d))) w
    (λ e t. subst (P e) j (front-stands xs _ e (both_left cons (f (view (get_or vs i d))) r e t))) s

pub items_front_end :
    {X : Type 0} (f : Data → Reading X) (vs : List Value) (i : ℕ) (xs : List X) (w : Reading (List X)) → length vs ≤ i
    → with_front xs (each_item f (items_view (drop i vs))) ≡ w → w ≡ Ok xs
unfolding each_item
items_front_end f vs i xs w h k =
    let Q : List Value → Type 0 = λ us. with_front xs (each_item f (items_view us)) ≡ w in
    sym (subst Q (drop_all i vs h) k) ∙ ap (λ zs. Ok zs) (append-nil xs)

pub ruleset gathering = (front_none, items_front_step, items_front_fails, items_front_end)

pub entries_front_step :
    {X : Type 0} (f : List ℕ → Data → Reading X) (k : String Global) (v : Value) (es : List (String Global × Value))
    (xs : List X) (x : X) (w : Reading (List X)) → f (string_bytes k) (view v) ≡ Ok x
    → with_front xs (each_member f (members_view ((k, v) ∷ es))) ≡ w
    → with_front (xs ++ x ∷ []) (each_member f (members_view es)) ≡ w
unfolding each_member
entries_front_step f k v es xs x w e h =
    let r : Reading (List _) = each_member f (members_view es) in
    let P : Reading _ → Type 0 = λ a. with_front xs (both cons a r) ≡ w in
    front-cons xs x r ∙ subst P e h

pub entries_front_fails :
    {X : Type 0} (f : List ℕ → Data → Reading X) (k : String Global) (v : Value) (es : List (String Global × Value))
    (xs : List X)
    (c : ConfigFault) (w : Reading (List X)) → Fails c (f (string_bytes k) (view v))
    → with_front xs (each_member f (members_view ((k, v) ∷ es))) ≡ w → Fails c w
unfolding each_member
entries_front_fails f k v es xs c w s h =
    let r : Reading (List _) = each_member f (members_view es) in
    let a : Reading _ = f (string_bytes k) (view v) in
    let P : (e : ConfigFault) → Reading (List _) → Type 0 = λ e m. FailsWith m e in
    fails_along c a w (λ e t. subst (P e) h (front-stands xs _ e (both_left cons a r e t))) s

pub entries_front_end :
    {X : Type 0} (f : List ℕ → Data → Reading X) (xs : List X) (w : Reading (List X))
    → with_front xs (each_member f (members_view [])) ≡ w → w ≡ Ok xs
unfolding each_member
entries_front_end f xs w h = sym h ∙ ap (λ zs. Ok zs) (append-nil xs)

pub ruleset entering = (front_none, entries_front_step, entries_front_fails, entries_front_end)
