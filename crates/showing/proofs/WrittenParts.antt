-- What is written part by part: what was written so far, with what remains to be written, is the whole.
use Rattle.std.proofs.Common.{◌≡◌, List, ℕ, [], ◌++◌, ap, refl, sym, subst, ◌∙◌, append_assoc, append-nil}
use Rattle.std.specs.Prelude.{Option, Result, Ok, Err, OnOk}
use Rattle.std.specs.Io.KnownBytes.{Appends}
use Rattle.std.proofs.KnownBytes.{Appends-nil, Appends-trans}

pub record Leaves (a b : Option (List ℕ)) (left whole : List ℕ) : Type 0 where
  pub done : List ℕ
  pub wrote : Appends a b done
  pub is : done ++ left ≡ whole

pub leaves-all : (a : Option (List ℕ)) (left whole : List ℕ) → left ≡ whole → Leaves a a left whole
leaves-all a left whole e = record { done = []; wrote = Appends-nil a; is = e }

pub leaves-less :
    (a b c : Option (List ℕ)) (left text rest whole : List ℕ) → Leaves a b left whole → Appends b c text
    → left ≡ text ++ rest
    → Leaves a c rest whole
leaves-less a b c left text rest whole so more e = record {
  done = so.done ++ text;
  wrote = Appends-trans a b c so.done text so.wrote more;
  is = append_assoc so.done text rest ∙ ap (λ t. so.done ++ t) (sym e) ∙ so.is;
}

pub leaves-none : (a b : Option (List ℕ)) (left whole : List ℕ) → Leaves a b left whole → left ≡ [] → Appends a b whole
leaves-none a b left whole so e =
    subst (Appends a b) (sym (append-nil so.done) ∙ ap (λ t. so.done ++ t) (sym e) ∙ so.is) so.wrote

-- one text more, after what separates it from the one before
pub leaves-item :
    (a b c d : Option (List ℕ)) (left led text rest whole : List ℕ) → Leaves a b left whole → Appends b c led
    → Appends c d text
    → left ≡ led ++ (text ++ rest)
    → Leaves a d rest whole
leaves-item a b c d left led text rest whole so first second e =
    leaves-less a c d (text ++ rest) text rest whole (leaves-less a b c left led (text ++ rest) whole so first e) second
    refl

-- a name and its value after a colon
pub leaves-member :
    (a b c d e f : Option (List ℕ)) (left led name colon value rest whole : List ℕ) → Leaves a b left whole
    → Appends b c led → Appends c d name → Appends d e colon → Appends e f value
    → left ≡ led ++ ((name ++ (colon ++ value)) ++ rest)
    → Leaves a f rest whole
leaves-member a b c d e f left led name colon value rest whole so first second third fourth is =
    leaves-item a b c f left led (name ++ (colon ++ value)) rest whole so first
    (Appends-trans c d f name (colon ++ value) second (Appends-trans d e f colon value third fourth))
    is

-- and what ends the whole
pub leaves-end :
    {E : Type 0} (r : Result (Unit {0}) E) (a b c : Option (List ℕ)) (left whole ending : List ℕ) → Leaves a b left whole
    → left ≡ []
    → OnOk r (Appends b c ending)
    → OnOk r (Appends a c (whole ++ ending))
leaves-end (Ok u) a b c left whole ending so none last =
    Appends-trans a b c whole ending (leaves-none a b left whole so none) last
leaves-end (Err e) a b c left whole ending so none last = tt
