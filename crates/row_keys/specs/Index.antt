-- How rows are found by their keys. Each row stores the position of its key in a table of keys, and each key has a
-- holder: the row that was last added with it. So the live row with a key is its holder, unless that was retracted.
--
--     number    0    1    2     3
--     entry     0    1    0     1     the position of the row's key
--     live      no   no   yes   no    row 2 replaced row 0, and row 3 row 1 and was then retracted
--
--     place     0    1
--     key       p    q
--     holder    2    3
use Rattle.std.specs.Prelude.{
  ◌≡◌,
  ◌⊎◌,
  ℕ,
  zero,
  suc,
  ◌<◌,
  ◌^◌,
  Bool,
  true,
  List,
  [],
  ◌∷◌,
  ◌++◌,
  Some,
  get_or,
  length,
  map,
  set,
  slice_get,
}
use Rattle.values.specs.declared.key.Key.{Key}
use Rattle.values.specs.declared.key.Key.TheVariants as key
use Rattle.row_keys.specs.Entries.{AreInOrder, all_entries}
use Rattle.row_keys.specs.declared.numbers.Entry.{Entry}
use Rattle.row_keys.specs.declared.numbers.RetainedEntry.{RetainedEntry}
use Rattle.row_keys.specs.Numbers.{Numbered, live_count, numbered}

abbrev pub seen : List Key → Entry → Numbered
seen keys e = numbered (get_or keys e.key key.Null) e.is_live

abbrev pub seen_all : List Key → List Entry → List Numbered
seen_all keys entries = map (seen keys) entries

-- row n is live, and its key is the one at that position
abbrev pub HoldsPlace : List Entry → ℕ → ℕ → Type 0
HoldsPlace entries place n = (e : Entry) × (slice_get entries n ≡ Some e) × (e.key ≡ place) × (e.is_live ≡ true)

-- the key at this position has no holder, or one that isn't live with it
abbrev pub IsFree : List ℕ → List Entry → ℕ → Type 0
IsFree holders entries place = (n : ℕ) → slice_get holders place ≡ Some n → HoldsPlace entries place n → ⊥

-- Row n becomes the holder of the key at this position, which has a holder or is the next one.
abbrev pub Puts : List ℕ → ℕ → ℕ → List ℕ → Type 0
Puts old place n new = ((place ≡ length old) × (new ≡ old ++ n ∷ [])) ⊎ ((place < length old) × (new ≡ set old place n))

abbrev pub flagged : Bool → List Entry → ℕ → List Entry
flagged b [] n = []
flagged b (e ∷ es) zero = record { key = e.key; is_live = b; is_new = e.is_new } ∷ es
flagged b (e ∷ es) (suc n) = e ∷ flagged b es n

-- Position 0 is that of the null key, which is the key of released rows. It is assigned before the first row is added.
abbrev pub StartsWithNull : List Key → List ℕ → List Key → List ℕ → Type 0
StartsWithNull keys holders keys_new holders_new =
    ((0 < length keys) × (keys_new ≡ keys) × (holders_new ≡ holders))
    ⊎ ((keys ≡ []) × (holders ≡ []) × (keys_new ≡ key.Null ∷ []) × (holders_new ≡ 0 ∷ []))

-- What holds of keys, holders and entries. A row that added its key has a key after those of all rows before it, so
-- that the key can be removed when the row is.
pub record IsIndex (keys : List Key) (holders : List ℕ) (entries : List Entry) (live : ℕ) : Type 0 where
  pub as_many : length holders ≡ length keys
  pub keyed : (n : ℕ) (e : Entry) → slice_get entries n ≡ Some e → e.key < length keys
  pub held : (n : ℕ) (e : Entry) → slice_get entries n ≡ Some e → e.is_live ≡ true → slice_get holders e.key ≡ Some n
  pub stacked :
      (m n : ℕ) (e f : Entry) → m < n → slice_get entries m ≡ Some e → slice_get entries n ≡ Some f → f.is_new ≡ true
      → e.key < f.key
  pub counted : live ≡ live_count (seen_all keys entries)
  pub null_first : 0 < length keys → slice_get keys 0 ≡ Some key.Null
  pub after_null : (n : ℕ) (e : Entry) → slice_get entries n ≡ Some e → e.is_new ≡ true → 0 < e.key

-- The same of retained entries: there are no more numbers than can be counted.
pub record IsRetainedIndex (keys : List Key) (holders : List ℕ) (kept : List RetainedEntry)
    (len live : ℕ) : Type 0 where
  pub index : IsIndex keys holders (all_entries kept len) live
  pub order : AreInOrder 0 kept len
  pub bound : len < 2 ^ 63
