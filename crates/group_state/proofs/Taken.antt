-- Lists converted to parts and back, item by item.
use Rattle.view_lang.proofs.LastEntries.{entry-next}
use Rattle.std.proofs.Common.{◌≡◌, ap, sym, ◌∙◌, subst}
use Rattle.std.proofs.lemmas.List.Elements.{All-head, All-push, All-tail}
use Rattle.std.proofs.lemmas.List.{append_assoc, map-append}
use Rattle.std.specs.BTreeMap.{insert_entry}
use Rattle.std.specs.Cmp.{IsTotalOrder}
use Rattle.std.specs.List.{All}
use Rattle.std.specs.List.Sorted.{IsStrictlySortedBy}
use Rattle.std.specs.Map.{keys_of}
use Rattle.std.specs.Prelude.{◌++◌, List, [], ◌∷◌, map}
use Rattle.std.specs.declared.cmp.Ordering.{Ordering}

-- the next item is appended to those that were converted
pub taken-next : {A B : Type 0} (f : A → B) (xs ys : List A) (x : A) (b : B) (left rest all : List B)
    → ys ≡ xs ++ x ∷ [] → left ≡ b ∷ rest → f x ≡ b → map f xs ++ left ≡ all → map f ys ++ rest ≡ all
taken-next f xs ys x b left rest all new is same whole =
    ap (λ l. map f l ++ rest) new
    ∙ ap (λ l. l ++ rest) (map-append f xs (x ∷ []))
    ∙ ap (λ c. (map f xs ++ c ∷ []) ++ rest) same
    ∙ append_assoc (map f xs) (b ∷ []) rest
    ∙ ap (λ l. map f xs ++ l) (sym is)
    ∙ whole

pub all-next : {A : Type 0} (P : A → Type 0) (xs ys : List A) (x : A) → ys ≡ xs ++ x ∷ [] → All P xs → P x → All P ys
all-next P xs ys x new all one = subst (All P) (sym new) (All-push P xs x all one)

module _ {A : Type 0} (P : A → Type 0) (x : A) (left rest : List A) (is : left ≡ x ∷ rest) (all : All P left) where
  pub first-left : P x
  first-left = All-head P x rest (subst (All P) is all)

  pub rest-left : All P rest
  rest-left = All-tail P x rest (subst (All P) is all)

-- the next item is inserted into what was rebuilt
pub made-next : {A K X : Type 0} (R : K → K → Ordering) → IsTotalOrder R → (f : A → K × X) (es fs : List (K × X))
    (k : K) (v : X) (x : A) (left rest all : List A) → left ≡ x ∷ rest → f x ≡ (k, v) → fs ≡ insert_entry R es k v
    → es ++ map f left ≡ map f all → IsStrictlySortedBy R (keys_of (map f all)) → fs ++ map f rest ≡ map f all
made-next R o f es fs k v x left rest all is same new whole s =
    ap (λ l. l ++ map f rest) new
    ∙ entry-next R o es k v (map f rest) (map f all)
    (ap (λ e. es ++ e ∷ map f rest) (sym same) ∙ ap (λ l. es ++ map f l) (sym is) ∙ whole) s

-- the next item is the last of what was rebuilt
pub pushed-next : {A B : Type 0} (f : A → B) (es fs : List B) (b : B) (x : A) (left rest : List A) (all : List B)
    → left ≡ x ∷ rest → f x ≡ b → fs ≡ es ++ b ∷ [] → es ++ map f left ≡ all → fs ++ map f rest ≡ all
pushed-next f es fs b x left rest all is same new whole =
    ap (λ l. l ++ map f rest) new
    ∙ append_assoc es (b ∷ []) (map f rest)
    ∙ ap (λ c. es ++ c ∷ map f rest) (sym same)
    ∙ ap (λ l. es ++ map f l) (sym is)
    ∙ whole
