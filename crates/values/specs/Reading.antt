-- What bytes mean, which may be invalid: a value, or a set of faults that isn't empty. A definition of this form says
-- at once which value is read, and which faults are found.
use Rattle.std.specs.Prelude.{
  ◌≡◌,
  ◌⊎◌,
  ℕ,
  zero,
  suc,
  ◌+◌,
  Bool,
  true,
  false,
  Option,
  None,
  Some,
  Result,
  Ok,
  Err,
  List,
  [],
  ◌∷◌,
  ◌++◌,
}
use Rattle.values.specs.declared.faults.StreamFault.{StreamFault}
use Rattle.values.specs.declared.faults.StreamFault.TheVariants as fault

infixl 10 ◌>>=◌
-- one fault, or those of two sets
pub data FaultsOf (F : Type 0) : Type 0 where
  one : F → FaultsOf F
  several : FaultsOf F → FaultsOf F → FaultsOf F

abbrev pub IsAmong : {F : Type 0} → FaultsOf F → F → Type 0
IsAmong (one d) c = d ≡ c
IsAmong (several fs gs) c = IsAmong fs c ⊎ IsAmong gs c

abbrev pub ReadingOf : Type 0 → Type 0 → Type 0
ReadingOf F X = Result X (FaultsOf F)

-- what a stream's bytes mean
abbrev pub Faults : Type 0
Faults = FaultsOf StreamFault

abbrev pub Reading : Type 0 → Type 0
Reading X = ReadingOf StreamFault X

-- What depends on something unreadable isn't read: it adds no fault.
abbrev pub ◌>>=◌ : {F X Y : Type 0} → ReadingOf F X → (X → ReadingOf F Y) → ReadingOf F Y
Ok x >>= f = f x
Err fs >>= f = Err fs

-- Two things that are read each by itself: the faults are those of both.
abbrev pub both : {F X Y Z : Type 0} → (X → Y → Z) → ReadingOf F X → ReadingOf F Y → ReadingOf F Z
both join (Ok x) (Ok y) = Ok (join x y)
both join (Ok x) (Err gs) = Err gs
both join (Err fs) (Ok y) = Err fs
both join (Err fs) (Err gs) = Err (several fs gs)

-- the value, or this fault where there is none
abbrev pub must : {F X : Type 0} → F → Option X → ReadingOf F X
must c None = Err (one c)
must c (Some x) = Ok x

-- this fault where the test holds
abbrev pub refused_if : {F : Type 0} → F → Bool → ReadingOf F (Unit {0})
refused_if c true = Err (one c)
refused_if c false = Ok tt

-- joining functions for `both`
abbrev pub first : {X Y : Type 0} → X → Y → X
first x y = x

abbrev pub second : {X Y : Type 0} → X → Y → Y
second x y = y

abbrev pub cons : {X : Type 0} → X → List X → List X
cons x xs = x ∷ xs

abbrev pub append_to : {X : Type 0} → List X → List X → List X
append_to xs ys = xs ++ ys

-- a reading whose value is changed by a function
abbrev pub mapped : {F X Y : Type 0} → (X → Y) → ReadingOf F X → ReadingOf F Y
mapped f (Ok x) = Ok (f x)
mapped f (Err fs) = Err fs

-- the n readings from number i on
unfoldable pub each : {F X : Type 0} → (ℕ → ReadingOf F X) → ℕ → ℕ → ReadingOf F (List X)
each f i zero = Ok []
each f i (suc n) = both cons (f i) (each f (i + 1) n)

-- this is one of the faults
abbrev pub FailsWith : {F X : Type 0} → ReadingOf F X → F → Type 0
FailsWith (Ok x) c = ⊥
FailsWith (Err fs) c = IsAmong fs c

-- there is no fault
abbrev pub IsValid : {F X : Type 0} → ReadingOf F X → Type 0
IsValid (Ok x) = Unit {0}
IsValid (Err fs) = ⊥

-- A refusal is right: it names one of the faults, or memory was refused.
abbrev pub Fails : {X : Type 0} → StreamFault → Reading X → Type 0
Fails fault.Memory m = Unit {0}
Fails c m = FailsWith m c

-- What a call answers that reads without taking memory: `Ok` exactly where there is no fault, and then the value as
-- contracts see it; otherwise one of the faults.
abbrev pub Yields : {F X Y : Type 0} → (X → Y) → Result X F → ReadingOf F Y → Type 0
Yields view (Ok x) m = m ≡ Ok (view x)
Yields view (Err c) m = FailsWith m c

-- the same of a call that takes memory, which may be refused
abbrev pub Answers : {X Y : Type 0} → (X → Y) → Result X StreamFault → Reading Y → Type 0
Answers view (Ok x) m = m ≡ Ok (view x)
Answers view (Err c) m = Fails c m

-- what a check answers that gives no value: `Ok` exactly where there is no fault
abbrev pub Passes : {F X : Type 0} → Result (Unit {0}) F → ReadingOf F X → Type 0
Passes (Ok u) m = IsValid m
Passes (Err c) m = FailsWith m c

-- What remains to be read decides the whole: the invariant of a loop that checks one thing after another.
pub record Decides {F X Y : Type 0} (rest : ReadingOf F X) (whole : ReadingOf F Y) : Type 0 where
  pub valid : IsValid rest → IsValid whole
  pub fault : (c : F) → FailsWith rest c → FailsWith whole c

-- a list that is read after another: the invariant of a loop that gathers
abbrev pub with_front : {F X : Type 0} → List X → ReadingOf F (List X) → ReadingOf F (List X)
with_front xs m = mapped (append_to xs) m
