-- One value and its count: inserting one, and removing one.
use Rattle.std.proofs.Common.{◌≡◌, refl, ap, sym, ◌∙◌, arith, ℕ, zero, suc, ◌+◌, ◌-◌, ◌<◌, ◌≤◌}
use Rattle.std.specs.Prelude.{Bool, true, false, cond, [], ◌∷◌, Some, None, nat_lt}
use Rattle.std.specs.List.Sorted.{IsStrictlySortedBy}
use Rattle.std.specs.Ordering.{is_eq}
use Rattle.std.specs.declared.cmp.Ordering.TheVariants.{Equal}
use Rattle.std.proofs.lemmas.List.Elements.{All-cons, All-nil}
use Rattle.values.specs.declared.key.Key.{Key}
use Rattle.group_state.specs.Counts.{had, put_times, take_times, taken}
use Rattle.group_state.specs.FewValues.{IsThere}
use Rattle.group_state.specs.Keys.{key_cmp}
use Rattle.group_state.specs.OneValue.{CanTake, counted_once}
use Rattle.group_state.proofs.FewValues.{AreFew, Entries, had_there, no_values, put_there, take_last, take_there}

pub none_once : (k : Key) → counted_once k 0 ≡ []
none_once k = refl

pub some_once : (k : Key) (n : ℕ) → 0 < n → counted_once k n ≡ (k, n) ∷ []
some_once k zero some = absurd (omega (arith, some))
some_once k (suc n) some = refl

pub few_once : (k : Key) (n : ℕ) → AreFew (counted_once k n)
unfolding IsStrictlySortedBy
few_once k zero = no_values
few_once k (suc n) = ((tt, tt), All-cons (λ m. 0 < m) (suc n) [] (omega arith) (All-nil (λ m. 0 < m)))

pub take_none : (k q : Key) → CanTake k (counted_once q 0)
take_none k q = tt

pub take_same : (k q : Key) (n : ℕ) → key_cmp k q ≡ Equal → CanTake k (counted_once q n)
take_same k q zero same = tt
take_same k q (suc n) same = same

pub put_first : (k : Key) (m : ℕ) (es : Entries) → 0 < m → es ≡ [] → counted_once k m ≡ put_times k m es
put_first k m es some none =
    let all : 0 + m ≡ m = omega arith in
    some_once k m some ∙ ap (λ (n : ℕ). (k, n) ∷ []) (sym all) ∙ ap (λ (xs : Entries). put_times k m xs) (sym none)

is_here : (k q : Key) (n : ℕ) → key_cmp k q ≡ Equal → IsThere k 0 ((q, n) ∷ [])
is_here k q n same = record { within = omega arith; past = tt; at = λ e is. let h : (q, n) ≡ e = cc in ap (λ (x : Key × ℕ). key_cmp k x.0) (sym h) ∙ same }

pub had_once : (k q : Key) (n : ℕ) → 0 < n → CanTake k (counted_once q n) → had (counted_once q n) k ≡ n
had_once k q zero some same = absurd (omega (arith, some))
had_once k q (suc n) some same = had_there k 0 ((q, suc n) ∷ []) (q, suc n) (is_here k q (suc n) same) refl

pub put_more : (k q : Key) (n m : ℕ) → 0 < n → CanTake k (counted_once q n)
    → counted_once q (n + m) ≡ put_times k m (counted_once q n)
put_more k q zero m some same = absurd (omega (arith, some))
put_more k q (suc n) m some same =
    some_once q (suc n + m) (omega arith)
    ∙ sym (put_there k 0 ((q, suc n) ∷ []) (q, suc n) (is_here k q (suc n) same) refl m)

pub take_fewer : (k q : Key) (n m : ℕ) → key_cmp k q ≡ Equal → m < n
    → counted_once q (n - m) ≡ take_times k m (counted_once q n)
take_fewer k q zero m same fewer = absurd (omega (arith, fewer))
take_fewer k q (suc n) m same fewer =
    let many : nat_lt m (suc n) ≡ true = grind (arith, fewer) in
    some_once q (suc n - m) (omega (arith, fewer))
    ∙ sym (take_there k 0 ((q, suc n) ∷ []) (q, suc n) (is_here k q (suc n) same) refl m many)

pub take_all_of : (k q : Key) (n m : ℕ) → key_cmp k q ≡ Equal → n ≤ m → [] ≡ take_times k m (counted_once q n)
take_all_of k q zero m same all = refl
take_all_of k q (suc n) m same all =
    let last : nat_lt m (suc n) ≡ false = grind (arith, all) in
    sym (take_last k 0 ((q, suc n) ∷ []) (q, suc n) (is_here k q (suc n) same) refl m last)

pub take_other : (k q : Key) (n m : ℕ) → is_eq (key_cmp k q) ≡ false → counted_once q n ≡ take_times k m (counted_once q n)
take_other k q zero m other = refl
take_other k q (suc n) m other =
    ap (λ (b : Bool). taken k m ((q, suc n) ∷ []) (cond b (Some (suc n)) None)) (sym other)
