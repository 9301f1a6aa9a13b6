-- Rows by key made again from the parts.
use Rattle.view_lang.proofs.LastEntries.{entry-next, found-next}
use Rattle.lookups.proofs.Exactness.{key_total}
use Rattle.lookups.specs.ReferrersParts.{entry_with}
use Rattle.lookups.specs.Refers.{IsOrdered, RowsByKey, key_cmp, numbers_in}
use Rattle.lookups.specs.declared.parts.KeyNumbers.{KeyNumbers}
use Rattle.std.proofs.Common.{◌≡◌, ap, sym, ◌∙◌, subst}
use Rattle.std.specs.BTreeMap.{insert_entry}
use Rattle.std.specs.List.Sorted.{IsStrictlySortedBy}
use Rattle.std.specs.Ordering.{nat_cmp}
use Rattle.std.specs.Prelude.{◌++◌, ℕ, List, ◌∷◌, map, Option}

-- where the first of the remaining keys is added to those that are there
module _ (es : RowsByKey) (left rest all : List KeyNumbers) (x : KeyNumbers) (is : left ≡ x ∷ rest)
    (so_far : es ++ map entry_with left ≡ map entry_with all) (ordered : IsOrdered (map entry_with all)) where
  whole : es ++ map entry_with (x ∷ rest) ≡ map entry_with all
  whole = ap (λ (l : List KeyNumbers). es ++ map entry_with l) (sym is) ∙ so_far

  pub numbers-ascend : IsStrictlySortedBy nat_cmp x.numbers.items
  numbers-ascend =
      subst (λ (found : Option (List ℕ)). IsStrictlySortedBy nat_cmp (numbers_in found))
      (found-next key_cmp key_total es x.key x.numbers.items (map entry_with rest) (map entry_with all) whole
      ordered.ascending)
      (ordered.numbers.ascending x.key)

  pub entries-next : (fs : RowsByKey) (ns : List ℕ) → ns ≡ x.numbers.items → fs ≡ insert_entry key_cmp es x.key ns
      → fs ++ map entry_with rest ≡ map entry_with all
  entries-next fs ns same made =
      ap (λ (l : RowsByKey). l ++ map entry_with rest)
      (made ∙ ap (λ (l : List ℕ). insert_entry key_cmp es x.key l) same)
      ∙ entry-next key_cmp key_total es x.key x.numbers.items (map entry_with rest) (map entry_with all) whole
      ordered.ascending
