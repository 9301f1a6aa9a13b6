-- Which rows hold which keys determines all that is stored.
use Rattle.view_lang.proofs.ExactKeys.{key_exact}
use Rattle.lookups.proofs.SameEntries.{same-entries}
use Rattle.lookups.specs.Refers.{RefersToAll, found_at, is_among, is_bare, key_cmp, numbers_in}
use Rattle.std.proofs.Common.{◌≡◌, refl, ap, sym, ◌∙◌, subst, true≢false}
use Rattle.std.proofs.lemmas.Map.Lookups.{exact_unsigned}
use Rattle.std.specs.BTreeMap.{is_at}
use Rattle.std.specs.Cmp.{IsTotalOrder, nat_cmp_total, tied_itself}
use Rattle.std.specs.List.Sorted.{IsStrictlySortedBy}
use Rattle.std.specs.Map.{keys_of, lookup}
use Rattle.std.specs.Ordering.{is_eq, nat_cmp}
use Rattle.std.specs.Prelude.{◌||◌, ℕ, Bool, true, false, cond, List, [], ◌∷◌, map, Option, Some, None}
use Rattle.std.specs.declared.cmp.Ordering.{Ordering}
use Rattle.values.specs.contracts.key.KeyOrd.TheImpl.Laws.{total-law}

abbrev Up : List ℕ → Type 0
Up ns = IsStrictlySortedBy nat_cmp ns

-- numbers as entries without values
abbrev paired : List ℕ → List (ℕ × Unit {0})
paired ns = map (λ n. (n, tt)) ns

keys-paired : (ns : List ℕ) → keys_of (paired ns) ≡ ns
keys-paired [] = refl
keys-paired (n ∷ ns) = ap (λ (l : List ℕ). n ∷ l) (keys-paired ns)

abbrev if_there : Bool → Option (Unit {0})
if_there b = cond b (Some tt) None

at-paired : (m : ℕ) (ns : List ℕ) → lookup (is_at (nat_cmp m)) (paired ns) ≡ if_there (is_among ns m)
at-paired m [] = refl
at-paired m (n ∷ ns) =
    elim (is_at (nat_cmp m) n) as
    (λ b. cond b (Some tt) (lookup (is_at (nat_cmp m)) (paired ns)) ≡ if_there (b || is_among ns m))
    [ true ↦ refl | false ↦ at-paired m ns ]

same-numbers : (ns ms : List ℕ) → Up ns → Up ms → ((n : ℕ) → is_among ns n ≡ is_among ms n) → ns ≡ ms
same-numbers ns ms s t h =
    let x = subst Up (sym (keys-paired ns)) s in
    let y = subst Up (sym (keys-paired ms)) t in
    let e = same-entries nat_cmp_total exact_unsigned (paired ns) (paired ms) x y
    (λ m. at-paired m ns ∙ ap if_there (h m) ∙ sym (at-paired m ms)) in
    sym (keys-paired ns) ∙ ap keys_of e ∙ keys-paired ms

first-among : (n : ℕ) (ns : List ℕ) → is_among (n ∷ ns) n ≡ true
first-among n ns = ap (λ (r : Ordering). is_eq r || is_among ns n) (tied_itself nat_cmp_total n)

same-found : (a b : Option (List ℕ)) → is_bare a ≡ false → is_bare b ≡ false → Up (numbers_in a) → Up (numbers_in b)
    → ((n : ℕ) → is_among (numbers_in a) n ≡ is_among (numbers_in b) n) → a ≡ b
same-found None None x y s t h = refl
same-found None (Some []) x y s t h = absurd (true≢false y)
same-found None (Some (m ∷ ms)) x y s t h = absurd (true≢false (sym (first-among m ms) ∙ sym (h m)))
same-found (Some []) b x y s t h = absurd (true≢false x)
same-found (Some (n ∷ ns)) None x y s t h = absurd (true≢false (sym (first-among n ns) ∙ h n))
same-found (Some (n ∷ ns)) (Some ms) x y s t h = ap Some (same-numbers (n ∷ ns) ms s t h)

pub key_total : IsTotalOrder key_cmp
key_total = total-law

pub refers-to-all : RefersToAll
refers-to-all rows others r o h =
    same-entries key_total key_exact rows others r.ascending o.ascending
    (λ k. same-found (found_at rows k) (found_at others k) (r.numbers.not_bare k) (o.numbers.not_bare k)
    (r.numbers.ascending k) (o.numbers.ascending k) (h k))

pub ruleset referrers_law = (refers-to-all)
