-- The keys of rows by their numbers.
use Rattle.std.proofs.Common.{
  ◌≡◌,
  ℕ,
  zero,
  suc,
  ◌+◌,
  ◌<◌,
  List,
  [],
  ◌∷◌,
  ◌++◌,
  length,
  map,
  take,
  get_or,
  ap,
  sym,
  ◌∙◌,
  arith,
}
use Rattle.std.proofs.Math.Seq.{take-suc}
use Rattle.std.proofs.lemmas.List.{map-append}
use Rattle.values.specs.Datum.{Datum}
use Rattle.values.specs.Keys.{datum_of_key}
use Rattle.values.specs.declared.key.Key.{Key}
use Rattle.view_lang.specs.Config.{Table}
use Rattle.view_lang.specs.Contents.{key_in}
use Rattle.row_keys.specs.Numbers.{Numbered, no_row}
use Rattle.row_keys.specs.Slots.{Slot, keys_at, row_of}
use Rattle.row_keys.specs.Stored.{AreKeyed, joined}

key_there : (t : Table) (rows : List (List Datum)) (xs : List Numbered) (n : ℕ) → AreKeyed t rows xs → n < length xs
    → datum_of_key (get_or xs n no_row).key ≡ key_in t (row_of (joined rows xs) n)
key_there t [] [] n keyed below = absurd (omega (arith, below))
key_there t [] (x ∷ xs) n keyed below = absurd keyed
key_there t (r ∷ rs) [] n keyed below = absurd keyed
key_there t (r ∷ rs) (x ∷ xs) zero keyed below = sym keyed.0
key_there t (r ∷ rs) (x ∷ xs) (suc n) keyed below = key_there t rs xs n keyed.1 (omega (arith, below))

pub key_more :
    (t : Table) (rows : List (List Datum)) (xs : List Numbered) (numbers : List ℕ) (i : ℕ) (keys after : List Key)
    (key : Key) → AreKeyed t rows xs → i < length numbers → get_or numbers i 0 < length xs
    → map datum_of_key keys ≡ keys_at t (take i numbers) (joined rows xs)
    → key ≡ (get_or xs (get_or numbers i 0) no_row).key
    → after ≡ keys ++ key ∷ [] → map datum_of_key after ≡ keys_at t (take (i + 1) numbers) (joined rows xs)
key_more t rows xs numbers i keys after key keyed below there so_far is pushed =
    let slots : List Slot = joined rows xs in
    let n : ℕ = get_or numbers i 0 in
    let here : datum_of_key key ≡ key_in t (row_of slots n) = ap datum_of_key is ∙ key_there t rows xs n keyed there in
    let e : i + 1 ≡ suc i = omega arith in
    ap (map datum_of_key) pushed ∙ map-append datum_of_key keys (key ∷ [])
    ∙ ap (λ ds. ds ++ datum_of_key key ∷ []) so_far ∙ ap (λ d. keys_at t (take i numbers) slots ++ d ∷ []) here
    ∙ sym (map-append (λ m. key_in t (row_of slots m)) (take i numbers) (n ∷ []))
    ∙ ap (λ ms. keys_at t ms slots) (sym (ap (λ m. take m numbers) e ∙ take-suc numbers i 0 below))
