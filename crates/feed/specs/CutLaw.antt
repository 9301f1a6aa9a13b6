-- A feed's events are a function of its bytes, however they are cut into pieces.
use Rattle.std.specs.Prelude.{◌≡◌, ℕ, ◌+◌, ◌++◌, ◌<◌, ◌≤◌, List, None, Some, Ok, Err, length}
use Rattle.values.specs.Reading.{Faults, Reading, mapped}
use Rattle.feed.specs.Events.{Event, Given, given}
use Rattle.feed.specs.States.{FeedState, after_push, gives}

-- counted from n bytes before
abbrev pub shifted : ℕ → Reading Given → Reading Given
shifted n m = mapped (λ g. given (n + g.used) g.event) m

-- A piece without an event may be joined with the next.
abbrev pub PartialJoins : Type 0
PartialJoins =
    (s : FeedState) (p q : List ℕ) (g : Given) → gives s p ≡ Ok g → g.event ≡ None
    → gives s (p ++ q) ≡ shifted (length p) (gives (after_push s p (Ok g)) q)

-- More bytes change neither a whole message nor the faults.
abbrev pub WholeStays : Type 0
WholeStays =
    (s : FeedState) (p q : List ℕ) (used : ℕ) (e : Event) → gives s p ≡ Ok (given used (Some e))
    → gives s (p ++ q) ≡ Ok (given used (Some e))

abbrev pub FaultsStay : Type 0
FaultsStay = (s : FeedState) (p q : List ℕ) (fs : Faults) → gives s p ≡ Err fs → gives s (p ++ q) ≡ Err fs

-- A whole message uses some of the piece, and no more than it has. Without one all of the piece is used.
abbrev pub WholeUses : Type 0
WholeUses = (s : FeedState) (p : List ℕ) (used : ℕ) (e : Event) → gives s p ≡ Ok (given used (Some e))
    → (0 < used) × (used ≤ length p)

abbrev pub PartialUses : Type 0
PartialUses = (s : FeedState) (p : List ℕ) (used : ℕ) → gives s p ≡ Ok (given used None) → used ≡ length p
