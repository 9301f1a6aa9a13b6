-- A filter is true of a row where its parts are: those that the main table decides, and the others.
use Rattle.std.proofs.Common.{
  ◌≡◌,
  ℕ,
  Bool,
  true,
  false,
  ◌&&◌,
  ◌||◌,
  not,
  List,
  [],
  ◌∷◌,
  Option,
  None,
  Some,
  refl,
  ap,
  ap₂,
  sym,
  ◌∙◌,
  true≢false,
}
use Rattle.std.specs.List.{AllByRecursion, list_any}
use Rattle.values.specs.Datum.{Datum, is_null}
use Rattle.view_lang.specs.Cells.{cell_at}
use Rattle.view_lang.specs.Filter.{Filter, Filters, all_of, compare, negation, no_part, null_in, one_of, part}
use Rattle.view_lang.specs.Truth.{
  Truth,
  both,
  compared,
  either,
  is_true,
  negated,
  operand_of,
  passes,
  truth,
  truth_of_all,
  truth_of_any,
}
use Rattle.view_lang.specs.declared.filter.Operand.{Operand}
use Rattle.view_lang.specs.declared.filter.Operand.TheVariants as operand
use Rattle.sub_groups.specs.FilterParts.{
  conjuncts,
  fails_main,
  fails_other,
  is_decided,
  is_known,
  is_main,
  is_main_part,
  name_only,
  names_only,
  operand_names,
  parts_in,
  passes_main,
  passes_others,
}

pub both_true : (a b : Bool) → (a && b) ≡ true → (a ≡ true) × (b ≡ true)
both_true true b h = (refl, h)
both_true false b h = absurd (true≢false (sym h))

-- Rows with the same cells in the columns that a filter names.

module _ (p : ℕ → Bool) (x y : List Datum) (same : (k : ℕ) → p k ≡ true → cell_at x k ≡ cell_at y k) where
  operand_alike : (o : Operand) → operand_names p o ≡ true → operand_of x o ≡ operand_of y o
  operand_alike (operand.Constant d) h = refl
  operand_alike (operand.Column k) h = same k h

  mutual
    unfolding truth truth_of_all truth_of_any

    pub truth_alike : (f : Filter) → names_only p f ≡ true → truth x f ≡ truth y f
    truth_alike (compare c k o) h =
        let hs = both_true (p k) (operand_names p o) h in ap₂ (compared c) (same k hs.0) (operand_alike o hs.1)
    truth_alike (null_in k) h = ap (λ d. Some (is_null d)) (same k h)
    truth_alike (negation f) h = ap negated (truth_alike f h)
    truth_alike (all_of fs) h = all_alike fs h
    truth_alike (one_of fs) h = any_alike fs h

    all_alike : (fs : Filters) → name_only p fs ≡ true → truth_of_all x fs ≡ truth_of_all y fs
    all_alike no_part h = refl
    all_alike (part f fs) h =
        let hs = both_true (names_only p f) (name_only p fs) h in ap₂ both (truth_alike f hs.0) (all_alike fs hs.1)

    any_alike : (fs : Filters) → name_only p fs ≡ true → truth_of_any x fs ≡ truth_of_any y fs
    any_alike no_part h = refl
    any_alike (part f fs) h =
        let hs = both_true (names_only p f) (name_only p fs) h in ap₂ either (truth_alike f hs.0) (any_alike fs hs.1)

-- Truths of parts.

not_true : (row : List Datum) (f : Filter) → Bool
not_true row f = not (is_true (truth row f))

true_of_both : (a b : Truth) → is_true (both a b) ≡ (is_true a && is_true b)
true_of_both (Some true) b = refl
true_of_both (Some false) b = refl
true_of_both None (Some true) = refl
true_of_both None (Some false) = refl
true_of_both None None = refl

and_not : (a b : Bool) → (a && not b) ≡ not (not a || b)
and_not true b = refl
and_not false b = refl

all_true : (row : List Datum) (fs : Filters)
    → is_true (truth_of_all row fs) ≡ not (list_any (λ f. not (is_true (truth row f))) (parts_in fs))
unfolding truth_of_all
all_true row no_part = refl
all_true row (part f fs) =
    true_of_both (truth row f) (truth_of_all row fs)
    ∙ ap (λ b. is_true (truth row f) && b) (all_true row fs)
    ∙ and_not (is_true (truth row f)) (list_any (λ f. not (is_true (truth row f))) (parts_in fs))

one_part : (b : Bool) → b ≡ not (not b || false)
one_part true = refl
one_part false = refl

passes_parts : (f : Option Filter) (row : List Datum)
    → passes f row ≡ not (list_any (λ f. not (is_true (truth row f))) (conjuncts f))
unfolding passes truth
passes_parts None row = refl
passes_parts (Some (compare c k o)) row = one_part (is_true (truth row (compare c k o)))
passes_parts (Some (null_in k)) row = one_part (is_true (truth row (null_in k)))
passes_parts (Some (negation f)) row = one_part (is_true (truth row (negation f)))
passes_parts (Some (all_of fs)) row = all_true row fs
passes_parts (Some (one_of fs)) row = one_part (is_true (truth row (one_of fs)))

step_split : (a b ra rb rc : Bool) → (not ra && not rb) ≡ not rc
    → (not ((a && b) || ra) && not ((not a && b) || rb)) ≡ not (b || rc)
step_split true true ra rb rc h = refl
step_split true false ra rb rc h = h
step_split false true true rb rc h = refl
step_split false true false rb rc h = refl
step_split false false ra rb rc h = h

any_split : {X : Type 0} (p q : X → Bool) (xs : List X)
    → (not (list_any (λ x. p x && q x) xs) && not (list_any (λ x. not (p x) && q x) xs)) ≡ not (list_any q xs)
any_split p q [] = refl
any_split p q (x ∷ xs) =
    step_split (p x) (q x) (list_any (λ x. p x && q x) xs) (list_any (λ x. not (p x) && q x) xs) (list_any q xs)
    (any_split p q xs)

pub passes_both : (n : ℕ) (f : Option Filter) (row : List Datum)
    → passes f row ≡ (passes_main n f row && passes_others n f row)
passes_both n f row =
    passes_parts f row ∙ sym (any_split (is_main_part n) (λ g. not (is_true (truth row g))) (conjuncts f))

-- Rows on which the parts have the same truths.

any_alike_by : {X : Type 0} (p q : X → Bool) (xs : List X) → AllByRecursion (λ x. p x ≡ q x) xs
    → list_any p xs ≡ list_any q xs
any_alike_by p q [] h = refl
any_alike_by p q (x ∷ xs) h = ap₂ (λ a b. a || b) h.0 (any_alike_by p q xs h.1)

every : {X : Type 0} (P : X → Type 0) → ((x : X) → P x) → (xs : List X) → AllByRecursion P xs
every P f [] = tt
every P f (x ∷ xs) = (f x, every P f xs)

each : {X : Type 0} (P Q : X → Type 0) → ((x : X) → P x → Q x) → (xs : List X) → AllByRecursion P xs → AllByRecursion Q xs
each P Q f [] h = tt
each P Q f (x ∷ xs) h = (f x h.0, each P Q f xs h.1)

main_same : (n : ℕ) (x y : List Datum) → ((k : ℕ) → is_main n k ≡ true → cell_at x k ≡ cell_at y k) → (f : Filter)
    → (b : Bool) → is_main_part n f ≡ b → (b && not (is_true (truth x f))) ≡ (b && not (is_true (truth y f)))
main_same n x y same f true e = ap (λ t. not (is_true t)) (truth_alike (is_main n) x y same f e)
main_same n x y same f false e = refl

pub main_alike : (n : ℕ) (f : Option Filter) (x y : List Datum)
    → ((k : ℕ) → is_main n k ≡ true → cell_at x k ≡ cell_at y k) → passes_main n f x ≡ passes_main n f y
main_alike n f x y same =
    ap not
    (any_alike_by (fails_main n x) (fails_main n y) (conjuncts f)
    (every (λ g. fails_main n x g ≡ fails_main n y g) (λ g. main_same n x y same g (is_main_part n g) refl) (conjuncts f)))

other_same :
    (n : ℕ) (keys : List ℕ) (x y : List Datum) → ((k : ℕ) → is_known n keys k ≡ true → cell_at x k ≡ cell_at y k)
    → (f : Filter) → is_decided n keys f ≡ true → (b : Bool) → is_main_part n f ≡ b
    → (not b && not (is_true (truth x f))) ≡ (not b && not (is_true (truth y f)))
other_same n keys x y same f is true e = refl
other_same n keys x y same f is false e =
    let known : names_only (is_known n keys) f ≡ true = sym (ap (λ b. b || names_only (is_known n keys) f) e) ∙ is in
    ap (λ t. not (is_true t)) (truth_alike (is_known n keys) x y same f known)

pub others_alike :
    (n : ℕ) (keys : List ℕ) (f : Option Filter) (x y : List Datum)
    → ((k : ℕ) → is_known n keys k ≡ true → cell_at x k ≡ cell_at y k)
    → AllByRecursion (λ g. is_decided n keys g ≡ true) (conjuncts f) → passes_others n f x ≡ passes_others n f y
others_alike n keys f x y same decided =
    ap not
    (any_alike_by (fails_other n x) (fails_other n y) (conjuncts f)
    (each (λ g. is_decided n keys g ≡ true) (λ g. fails_other n x g ≡ fails_other n y g)
    (λ g is. other_same n keys x y same g is (is_main_part n g) refl) (conjuncts f) decided))
