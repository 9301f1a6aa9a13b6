-- The outcome of reading a part tells whether it is refused, and a refused part that the whole is.
use Rattle.std.proofs.Common.{◌≡◌, Option, None, Some, Result, Ok, Err, is_err, true, refl, subst, sym}
use Rattle.values.specs.Reading.{◌>>=◌, both, FailsWith}
use Rattle.view_config.specs.Places.{Finds}
use Rattle.view_config.specs.Reading.{Answers, Fails, Reading}
use Rattle.view_config.specs.declared.faults.ConfigFault.{ConfigFault}
use Rattle.view_config.specs.declared.faults.ConfigFault.TheVariants as fault

-- a part that was read, or one that is refused
abbrev pub Judges : {X Y : Type 0} → (X → Y) → Reading Y → Option X → Type 0
Judges view m (Some x) = m ≡ Ok (view x)
Judges view m None = is_err m ≡ true

stands-err : {X : Type 0} (c : ConfigFault) (m : Reading X) → FailsWith m c → is_err m ≡ true
stands-err c (Ok x) h = absurd h
stands-err c (Err fs) h = refl

pub judged :
    {X Y : Type 0} (view : X → Y) (read : Result X ConfigFault) (m : Reading Y) (found : Option X)
    → Answers view read m → Finds read found → Judges view m found
judged view (Ok x) m found a f = subst (Judges view m) (sym f) a
judged view (Err fault.Memory) m found a f = absurd f
judged view (Err c) m found a f = subst (Judges view m) (sym f) (stands-err c m a)

pub read-as :
    {X Y : Type 0} (view : X → Y) (read : Result X ConfigFault) (m : Reading Y) (found : Option X) (x : X)
    → Answers view read m → Finds read found → found ≡ Some x → m ≡ Ok (view x)
read-as view read m found x a f e = subst (Judges view m) e (judged view read m found a f)

pub err_first : {X Y : Type 0} (m : Reading X) (f : X → Reading Y) → is_err m ≡ true → is_err (m >>= f) ≡ true
err_first (Ok x) f h = absurd (cc)
err_first (Err fs) f h = refl

pub err_left :
    {X Y Z : Type 0} (g : X → Y → Z) (a : Reading X) (b : Reading Y) → is_err a ≡ true → is_err (both g a b) ≡ true
err_left g (Ok x) b h = absurd (cc)
err_left g (Err fs) (Ok y) h = refl
err_left g (Err fs) (Err gs) h = refl

pub err_right :
    {X Y Z : Type 0} (g : X → Y → Z) (a : Reading X) (b : Reading Y) → is_err b ≡ true → is_err (both g a b) ≡ true
err_right g a (Ok y) h = absurd (cc)
err_right g (Ok x) (Err gs) h = refl
err_right g (Err fs) (Err gs) h = refl

pub ruleset refusing = (judged, err_first, err_left, err_right)
