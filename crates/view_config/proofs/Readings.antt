-- The parts of a reading without a fault.
use Rattle.std.proofs.Common.{◌≡◌, ◌⊎◌, inl, inr, List, [], refl, subst, Ok, Err, Some, Option, Bool, true, false}
use Rattle.std.specs.Prelude.{All, if◌then◌else◌}
use Rattle.std.proofs.lemmas.List.Elements.{All-nil, All-cons}
use Rattle.toml.specs.Data.{Data, Items, no_items, item}
use Rattle.values.specs.Reading.{◌>>=◌, cons, FaultsOf}
use Rattle.values.proofs.Readings.{both_Ok}
use Rattle.view_config.specs.Reading.{Reading}
use Rattle.view_config.specs.Tree.{each_item}
use Rattle.view_config.specs.declared.faults.ConfigFault.{ConfigFault}

-- what is read first, and what is read of it
pub bound :
    {X Y : Type 0} {P : Type 0} (m : Reading X) (f : X → Reading Y) (y : Y) → (m >>= f) ≡ Ok y
    → ((x : X) → m ≡ Ok x → f x ≡ Ok y → P) → P
bound (Ok x) f y e k = k x refl e
bound (Err fs) f y e k = cc

-- what passes a test
pub test_Some :
    {X : Type 0} (b : Bool) (x y : X) (o : Option X) → (if b then Some x else o) ≡ Some y → (x ≡ y) ⊎ (o ≡ Some y)
test_Some true x y o e = inl cc
test_Some false x y o e = inr e

pub test_Ok :
    {X : Type 0} (b : Bool) (m : Reading X) (fs : FaultsOf ConfigFault) (x : X) → (if b then m else Err fs) ≡ Ok x
    → (b ≡ true) × (m ≡ Ok x)
test_Ok true m fs x e = (refl, e)
test_Ok false m fs x e = cc

-- What holds of each item that is read holds of all of them.
pub items_all :
    {X : Type 0} (P : X → Type 0) (f : Data → Reading X) (ds : Items) (xs : List X)
    → ((d : Data) (x : X) → f d ≡ Ok x → P x)
    → each_item f ds ≡ Ok xs → All P xs
unfolding each_item
items_all P f no_items xs h e = let k : [] ≡ xs = cc in subst (λ (zs : List _). All P zs) k (All-nil P)
items_all P f (item d ds) xs h e =
    let p = both_Ok cons (f d) (each_item f ds) xs e in
    subst (λ (zs : List _). All P zs) p.4 (All-cons P p.0 p.1 (h d p.0 p.2) (items_all P f ds p.1 h p.3))
