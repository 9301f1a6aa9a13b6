-- Where the live rows of a store lie.
use Rattle.std.proofs.Common.{◌≡◌, ℕ, ◌<◌, All, true, List, [], ◌∷◌, get_or, length, map, refl, ap, ap₂, ◌∙◌, arith}
use Rattle.std.proofs.lemmas.List.Elements.{All-head, All-tail, All-weaker}
use Rattle.std.specs.Prelude.{IfSome, None, Option, Some}
use Rattle.std.proofs.lemmas.Option.{IfSome_then, slice_get_within}
use Rattle.values.specs.Datum.{Datum}
use Rattle.view_lang.specs.Config.{Table}
use Rattle.view_lang.specs.Rows.{IsRow}
use Rattle.row_keys.specs.Numbers.{Numbered}
use Rattle.row_keys.specs.Locations.{row_if}
use Rattle.row_keys.specs.Slots.{no_slot, row_of}
use Rattle.row_keys.specs.Stored.{IsStored, joined}
use Rattle.row_keys.proofs.HeldRows.{rows_right}
use Rattle.row_keys.proofs.LiveRows.{held_long, live_row_is, live_within}
use Rattle.row_keys.proofs.StoreStates.{row_lies}

abbrev IsLiveIn : List (List Datum) → List Numbered → ℕ → Type 0
IsLiveIn rows xs n = (get_or (joined rows xs) n no_slot).live ≡ true

module _ (t : Table) (rows : List (List Datum)) (xs : List Numbered) (stored : IsStored t rows xs) where
  live_at_once : (n : ℕ) → IsLiveIn rows xs n → get_or rows n [] ≡ row_of (joined rows xs) n
  live_at_once n is =
      (row_lies t rows xs n (get_or rows n []) stored (live_within (joined rows xs) n is) refl).0

  live_size : (n : ℕ) → IsLiveIn rows xs n → length (get_or rows n []) ≡ length t.columns
  live_size n is =
      let right = rows_right t rows xs stored.keyed stored.given stored.right in
      ap length (live_at_once n is)
      ∙ held_long t.columns (row_of (joined rows xs) n)
      (live_row_is (IsRow t.columns) (joined rows xs) n right is).held

  pub live_wide : (numbers : List ℕ) → All (IsLiveIn rows xs) numbers
      → All (λ n. length (get_or rows n []) ≡ length t.columns) numbers
  live_wide numbers lives =
      All-weaker (IsLiveIn rows xs) (λ n. length (get_or rows n []) ≡ length t.columns) live_size numbers lives

  pub live_kept : (numbers : List ℕ) → All (IsLiveIn rows xs) numbers
      → All (λ n. 0 < length (get_or rows n [])) numbers
  live_kept numbers lives =
      let key = slice_get_within t.columns t.key stored.table.key.0 stored.table.key.1 in
      let some : 0 < length t.columns = omega (arith, key) in
      All-weaker (IsLiveIn rows xs) (λ n. 0 < length (get_or rows n []))
      (λ n is. let size = live_size n is in omega (arith, size, some)) numbers lives

  pub live_mapped : (numbers : List ℕ) → All (IsLiveIn rows xs) numbers
      → map (λ n. get_or rows n []) numbers ≡ map (row_of (joined rows xs)) numbers
  live_mapped [] lives = refl
  live_mapped (n ∷ ns) lives =
      ap₂ (λ r rs. r ∷ rs) (live_at_once n (All-head (IsLiveIn rows xs) n ns lives))
      (live_mapped ns (All-tail (IsLiveIn rows xs) n ns lives))

  -- rows that may exist or not

  abbrev IsLiveIf : Option ℕ → Type 0
  IsLiveIf o = IfSome o (IsLiveIn rows xs)

  pub live_wide_if : (numbers : List (Option ℕ)) → All IsLiveIf numbers
      → All (λ o. IfSome o (λ n. length (get_or rows n []) ≡ length t.columns)) numbers
  live_wide_if numbers lives =
      All-weaker IsLiveIf (λ o. IfSome o (λ n. length (get_or rows n []) ≡ length t.columns))
      (λ o some. IfSome_then o some live_size) numbers lives

  pub live_kept_if : (numbers : List (Option ℕ)) → All IsLiveIf numbers
      → All (λ o. IfSome o (λ n. 0 < length (get_or rows n []))) numbers
  live_kept_if numbers lives =
      let key = slice_get_within t.columns t.key stored.table.key.0 stored.table.key.1 in
      let some : 0 < length t.columns = omega (arith, key) in
      All-weaker IsLiveIf (λ o. IfSome o (λ n. 0 < length (get_or rows n [])))
      (λ o is. IfSome_then o is (λ n live. let size = live_size n live in omega (arith, size, some))) numbers lives

  pub live_mapped_if : (numbers : List (Option ℕ)) → All IsLiveIf numbers
      → map (row_if (λ n. get_or rows n [])) numbers ≡ map (row_if (row_of (joined rows xs))) numbers
  live_mapped_if [] lives = refl
  live_mapped_if (None ∷ os) lives = ap (λ rs. [] ∷ rs) (live_mapped_if os (All-tail IsLiveIf None os lives))
  live_mapped_if (Some n ∷ os) lives =
      ap₂ (λ r rs. r ∷ rs) (live_at_once n (All-head IsLiveIf (Some n) os lives))
      (live_mapped_if os (All-tail IsLiveIf (Some n) os lives))
