-- What is stored for rows by number: nothing of those that are released.
use Rattle.std.specs.Prelude.{◌≡◌, ◌⊎◌, ℕ, suc, ◌≤◌, ◌++◌, ◌||◌, Bool, nat_lt, true, false, if◌then◌else◌, nat_eq, List, [], ◌∷◌, Some, slice_get}
use Rattle.row_keys.specs.Listed.{listed}
use Rattle.row_keys.specs.declared.numbers.Entry.{Entry}
use Rattle.row_keys.specs.declared.numbers.RetainedEntry.{RetainedEntry}

-- the entry of a released row: the position of the null key
abbrev pub gone_entry : Entry
gone_entry = record { key = 0; is_live = false; is_new = false }

-- the entry of number n
abbrev pub entry_in : List RetainedEntry → ℕ → Entry
entry_in [] n = gone_entry
entry_in (k ∷ ks) n = if nat_eq k.number n then k.entry else entry_in ks n

-- the entries of all numbers below `len`
abbrev pub all_entries : List RetainedEntry → ℕ → List Entry
all_entries kept len = listed (entry_in kept) 0 len

-- Numbers rise, from `from` on and below `len`.
abbrev pub AreInOrder : ℕ → List RetainedEntry → ℕ → Type 0
AreInOrder from [] len = from ≤ len
AreInOrder from (k ∷ ks) len = (from ≤ k.number) × AreInOrder (suc k.number) ks len

-- the entry of number n is retained at position p
pub record IsRetainedAt (kept : List RetainedEntry) (n p : ℕ) : Type 0 where
  pub one : RetainedEntry
  pub there : slice_get kept p ≡ Some one
  pub number : one.number ≡ n

-- the retained entries where the entry of number n is another
pub record Changes (old : List RetainedEntry) (n : ℕ) (entry : Entry) (new : List RetainedEntry) : Type 0 where
  pub order : (len : ℕ) → AreInOrder 0 old len → AreInOrder 0 new len
  pub here : (len : ℕ) → AreInOrder 0 old len → entry_in new n ≡ entry
  pub others : (len i : ℕ) → AreInOrder 0 old len → (i ≡ n → ⊥) → entry_in new i ≡ entry_in old i

-- whether it isn't that of a released row
abbrev pub is_kept : RetainedEntry → Bool
is_kept k = nat_lt 0 k.entry.key || k.entry.is_live || k.entry.is_new

-- whether the last entry is of number n
abbrev pub EndsAt : List RetainedEntry → ℕ → Bool → Type 0
EndsAt ks n true = (front : List RetainedEntry) × (k : RetainedEntry) × (ks ≡ front ++ k ∷ []) × (k.number ≡ n)
EndsAt ks n false =
    (ks ≡ []) ⊎ ((front : List RetainedEntry) × (k : RetainedEntry) × (ks ≡ front ++ k ∷ []) × (k.number ≡ n → ⊥))
