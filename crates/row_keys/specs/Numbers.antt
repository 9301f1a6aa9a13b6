-- Rows by number and key: each row has a key, and is live or retracted.
use Rattle.std.specs.Prelude.{
  ◌≡◌,
  ℕ,
  zero,
  suc,
  Bool,
  true,
  false,
  if◌then◌else◌,
  List,
  [],
  ◌∷◌,
  ◌++◌,
  Option,
  None,
  Some,
  refl,
  slice_get,
}
use Rattle.std.specs.Coded.{Coded, code_by, coded×, coded_bool, coded_list}
use Rattle.values.specs.Datum.{is_null}
use Rattle.values.specs.Keys.{datum_of_key}
use Rattle.values.specs.contracts.key.Key.{the_row}
use Rattle.values.specs.declared.key.Key.{Key}
use Rattle.values.specs.declared.key.Key.TheVariants as key

pub record Numbered : Type 0 where
  pub key : Key
  pub live : Bool

abbrev pub numbered : Key → Bool → Numbered
numbered key live = record { key = key; live = live }

abbrev pub numbers_code : Coded (List Numbered)
numbers_code =
    coded_list
    (code_by (Key × Bool) (coded× the_row.coded coded_bool) (λ n. (n.key, n.live)) (λ p. numbered p.0 p.1) (λ _. refl))

abbrev pub no_row : Numbered
no_row = numbered key.Null false

-- row n is there with this key: live, or retracted
abbrev pub IsAt : List Numbered → ℕ → Key → Bool → Type 0
IsAt rows n k b = slice_get rows n ≡ Some (numbered k b)

-- no live row has this key
abbrev pub IsUnused : List Numbered → Key → Type 0
IsUnused rows k = (n : ℕ) → IsAt rows n k true → ⊥

-- no two live rows have one key
abbrev pub AreDistinct : List Numbered → Type 0
AreDistinct rows = (m n : ℕ) (k : Key) → IsAt rows m k true → IsAt rows n k true → m ≡ n

-- row n has become live, or was retracted
abbrev pub turned : Bool → List Numbered → ℕ → List Numbered
turned b [] n = []
turned b (x ∷ xs) zero = numbered x.key b ∷ xs
turned b (x ∷ xs) (suc n) = x ∷ turned b xs n

-- how many rows are live
abbrev pub live_count : List Numbered → ℕ
live_count [] = 0
live_count (x ∷ xs) = if x.live then suc (live_count xs) else live_count xs

-- A row with this key is added at the end, unless a live row has it: then that one's number is found.
abbrev pub Pushes : List Numbered → Key → Option ℕ → List Numbered → Type 0
Pushes old k None new = IsUnused old k × (new ≡ old ++ numbered k true ∷ [])
Pushes old k (Some n) new = IsAt old n k true × (new ≡ old)

-- Row n is retracted, and one with its key is added at the end.
abbrev pub Replaces : List Numbered → ℕ → List Numbered → Type 0
Replaces old n new = (k : Key) → IsAt old n k true → new ≡ turned false old n ++ numbered k true ∷ []

-- These rows are live, each when its turn comes, and are retracted.

abbrev pub turned_off : List ℕ → List Numbered → List Numbered
turned_off [] rows = rows
turned_off (n ∷ ns) rows = turned_off ns (turned false rows n)

abbrev pub AreLive : List ℕ → List Numbered → Type 0
AreLive [] rows = Unit {0}
AreLive (n ∷ ns) rows = ((k : Key) × IsAt rows n k true) × AreLive ns (turned false rows n)

-- Row n was retracted, and isn't released, and no live row has its key.
abbrev pub CanTurnOn : List Numbered → ℕ → Type 0
CanTurnOn rows n = (k : Key) × IsAt rows n k false × IsUnused rows k × (is_null (datum_of_key k) ≡ false)

-- These rows were retracted, and become live, the last one first. When its turn comes no live row has its key.

abbrev pub revived : List ℕ → List Numbered → List Numbered
revived [] rows = rows
revived (n ∷ ns) rows = turned true (revived ns rows) n

abbrev pub CanRevive : List ℕ → List Numbered → Type 0
CanRevive [] rows = Unit {0}
CanRevive (n ∷ ns) rows = CanRevive ns rows × CanTurnOn (revived ns rows) n
