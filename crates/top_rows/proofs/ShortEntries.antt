-- Entries whose sort keys are stored as short ones are ordered as these are.
use Rattle.std.proofs.Common.{◌≡◌, refl, ap, sym, ◌∙◌, subst, ℕ}
use Rattle.std.specs.BTreeMap.{is_at}
use Rattle.std.specs.BTreeSet.{insert_key}
use Rattle.std.specs.List.Sorted.{IsStrictlySortedBy}
use Rattle.std.specs.Prelude.{List, [], ◌∷◌, map, suc, take, zero}
use Rattle.std.specs.Set.{remove_key}
use Rattle.std.specs.Ordering.{ordering_then}
use Rattle.std.specs.declared.cmp.Ordering.{Ordering}
use Rattle.top_rows.proofs.MappedKeys.{insert-mapped, remove-mapped, sorted-mapped}
use Rattle.top_rows.specs.EntryOrder.{sort_keys_cmp, tied_cmp}
use Rattle.top_rows.specs.ShortEntries.{short_entry}
use Rattle.top_rows.specs.declared.sort_key.SortKey.{SortKey}

-- Values of K that stand for sort keys and are ordered as these are, with names of N.
module _ {K N : Type 0} (cmp : K → K → Ordering) (name_cmp : N → N → Ordering) (sort_keys : K → List SortKey)
    (ordered : (x y : K) → sort_keys_cmp (sort_keys x) (sort_keys y) ≡ cmp x y)
  where
    abbrev pub Entry : Type 0
    Entry = List SortKey × N

    abbrev pub entry_cmp : Entry → Entry → Ordering
    entry_cmp = tied_cmp name_cmp

    abbrev pub pair_cmp : K × N → K × N → Ordering
    pair_cmp x y = ordering_then (cmp x.0 y.0) (name_cmp x.1 y.1)

    pairs-cmp : (p q : K × N) → entry_cmp (short_entry sort_keys p) (short_entry sort_keys q) ≡ pair_cmp p q
    pairs-cmp p q = ap (λ o. ordering_then o (name_cmp p.1 q.1)) (ordered p.0 q.0)

    -- A set of pairs, and the entries that they are.
    module _ (keys : List (K × N)) (old : List Entry) (seen : map (short_entry sort_keys) keys ≡ old) where
      pub insert-pair : (new : List (K × N)) (entry : Entry) (pair : K × N) → entry ≡ short_entry sort_keys pair
          → new ≡ insert_key pair_cmp keys pair → map (short_entry sort_keys) new ≡ insert_key entry_cmp old entry
      insert-pair new entry pair is h =
          ap (map (short_entry sort_keys)) h
          ∙ insert-mapped pair_cmp entry_cmp (short_entry sort_keys) pairs-cmp pair keys
          ∙ ap (λ (es : List Entry). insert_key entry_cmp es (short_entry sort_keys pair)) seen
          ∙ ap (insert_key entry_cmp old) (sym is)

      pub remove-pair : (new : List (K × N)) (entry : Entry) (pair : K × N) → entry ≡ short_entry sort_keys pair
          → new ≡ remove_key (is_at (pair_cmp pair)) keys
          → map (short_entry sort_keys) new ≡ remove_key (is_at (entry_cmp entry)) old
      remove-pair new entry pair is h =
          ap (map (short_entry sort_keys)) h
          ∙ remove-mapped pair_cmp entry_cmp (short_entry sort_keys) pairs-cmp pair keys
          ∙ ap (remove_key (is_at (entry_cmp (short_entry sort_keys pair)))) seen
          ∙ ap (λ (e : Entry). remove_key (is_at (entry_cmp e)) old) (sym is)

      pub ascending-pairs : IsStrictlySortedBy pair_cmp keys → IsStrictlySortedBy entry_cmp old
      ascending-pairs s =
          subst (IsStrictlySortedBy entry_cmp) seen
          (sorted-mapped pair_cmp entry_cmp (short_entry sort_keys) pairs-cmp keys s)

      pub first-pairs : (most : ℕ) (names : List N) → names ≡ map (λ (p : K × N). p.1) (take most keys)
          → names ≡ map (λ (p : Entry). p.1) (take most old)
      first-pairs most names h =
          h ∙ named most keys ∙ ap (λ (es : List Entry). map (λ (p : Entry). p.1) (take most es)) seen
        where
          named : (n : ℕ) (ps : List (K × N)) → map (λ (p : K × N). p.1) (take n ps)
              ≡ map (λ (p : Entry). p.1) (take n (map (short_entry sort_keys) ps))
          named zero ps = refl
          named (suc n) [] = refl
          named (suc n) (p ∷ ps) = ap (λ (ns : List N). p.1 ∷ ns) (named n ps)
