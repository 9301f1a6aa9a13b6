-- Lists taken apart and made again, one item after the other.
use Rattle.std.proofs.Common.{◌≡◌, ap, sym, ◌∙◌, subst}
use Rattle.std.proofs.lemmas.List.Elements.{All-push, All-tail}
use Rattle.std.proofs.lemmas.List.{append_assoc, map-append}
use Rattle.std.specs.List.{All}
use Rattle.std.specs.Prelude.{◌++◌, List, [], ◌∷◌, map}

-- the first of the remaining items is added to those that were taken out
pub taken-next : {A B : Type 0} (f : A → B) (xs ys : List A) (x : A) (b : B) (left rest all : List B)
    → ys ≡ xs ++ x ∷ [] → left ≡ b ∷ rest → f x ≡ b → map f xs ++ left ≡ all → map f ys ++ rest ≡ all
taken-next f xs ys x b left rest all new is same whole =
    ap (λ l. map f l ++ rest) new
    ∙ ap (λ l. l ++ rest) (map-append f xs (x ∷ []))
    ∙ ap (λ c. (map f xs ++ c ∷ []) ++ rest) same
    ∙ append_assoc (map f xs) (b ∷ []) rest
    ∙ ap (λ l. map f xs ++ l) (sym is)
    ∙ whole

pub all-next : {A : Type 0} (P : A → Type 0) (xs ys : List A) (x : A) → ys ≡ xs ++ x ∷ [] → All P xs → P x → All P ys
all-next P xs ys x new all one = subst (All P) (sym new) (All-push P xs x all one)

pub rest-left : {A : Type 0} (P : A → Type 0) (x : A) (left rest : List A) → left ≡ x ∷ rest → All P left → All P rest
rest-left P x left rest is all = All-tail P x rest (subst (All P) is all)

-- the first of the remaining items comes last in what is made again
pub pushed-next : {A B : Type 0} (f : A → B) (es fs : List B) (b : B) (x : A) (left rest : List A) (all : List B)
    → left ≡ x ∷ rest → f x ≡ b → fs ≡ es ++ b ∷ [] → es ++ map f left ≡ all → fs ++ map f rest ≡ all
pushed-next f es fs b x left rest all is same new whole =
    ap (λ l. l ++ map f rest) new
    ∙ append_assoc es (b ∷ []) (map f rest)
    ∙ ap (λ c. es ++ c ∷ map f rest) (sym same)
    ∙ ap (λ l. es ++ map f l) (sym is)
    ∙ whole
