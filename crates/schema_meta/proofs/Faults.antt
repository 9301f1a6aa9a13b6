-- A fault of a part is a fault of the whole, and a fault of the whole is one of a part.
use Rattle.std.proofs.Common.{◌≡◌, ◌⊎◌, inl, inr, Bool, true, false, Option, None, Some, Ok, Err, refl, ap, sym, subst}
use Rattle.values.specs.declared.faults.StreamFault.{StreamFault}
use Rattle.values.specs.Reading.{Reading, ◌>>=◌, FailsWith}
use Rattle.values.proofs.Readings.{both_left, both_right}
use Rattle.field_types.specs.Reads.{readable, needs, checked}

pub bind_left : {X Y : Type 0} (m : Reading X) (f : X → Reading Y) (c : StreamFault) → FailsWith m c → FailsWith (m >>= f) c
bind_left (Ok x) f c h = absurd h
bind_left (Err fs) f c h = h

pub bind_right :
    {X Y : Type 0} (m : Reading X) (f : X → Reading Y) (c : StreamFault) (x : X) → m ≡ Ok x → FailsWith (f x) c
    → FailsWith (m >>= f) c
bind_right m f c x e h = let P : Reading _ → Type 0 = λ r. FailsWith (r >>= f) c in subst P (sym e) h

pub bind_found :
    {X Y : Type 0} (m : Reading X) (f : X → Reading Y) (c : StreamFault) → FailsWith (m >>= f) c
    → FailsWith m c ⊎ ((x : X) × (m ≡ Ok x) × FailsWith (f x) c)
bind_found (Ok x) f c h = inr (x, refl, h)
bind_found (Err fs) f c h = inl h

pub needs_found : (d : StreamFault) (b : Bool) (c : StreamFault) → FailsWith (needs d b) c → (b ≡ false) × (d ≡ c)
needs_found d true c h = absurd h
needs_found d false c h = (refl, h)

pub needs_stands : (d : StreamFault) (b : Bool) (c : StreamFault) → b ≡ false → d ≡ c → FailsWith (needs d b) c
needs_stands d true c e h = absurd (cc)
needs_stands d false c e h = h

pub needed : (c : StreamFault) (b : Bool) (u : Unit {0}) → needs c b ≡ Ok u → b ≡ true
needed c true u e = refl
needed c false u e = absurd (cc)

pub passed : {X : Type 0} (c : StreamFault) (b : Bool) (x y : X) → checked c b x ≡ Ok y → (b ≡ true) × (x ≡ y)
passed c true x y e = (refl, cc)
passed c false x y e = absurd (cc)

pub checked_found : {X : Type 0} (d : StreamFault) (b : Bool) (x : X) (c : StreamFault) → FailsWith (checked d b x) c
    → (b ≡ false) × (d ≡ c)
checked_found d true x c h = absurd h
checked_found d false x c h = (refl, h)

pub checked_stands : {X : Type 0} (d : StreamFault) (b : Bool) (x : X) (c : StreamFault) → b ≡ false → d ≡ c
    → FailsWith (checked d b x) c
checked_stands d true x c e h = absurd (cc)
checked_stands d false x c e h = h

pub readable_found : {X : Type 0} (o : Option X) (x : X) → readable o ≡ Ok x → o ≡ Some x
readable_found None x e = absurd (cc)
readable_found (Some y) x e = cc

pub readable_some : {X : Type 0} (o : Option X) (x : X) → o ≡ Some x → readable o ≡ Ok x
readable_some o x e = ap (λ m. readable m) e

pub ruleset faults = (bind_left, both_left, both_right)
