-- Entries of rows whose names are of any type: a number, or a grouping tuple. Rows that tie are in the order of their
-- names.
use Rattle.std.specs.Prelude.{◌≡◌, Bool, cond, false, List, [], ◌∷◌, None, Option, Some}
use Rattle.std.specs.BTreeMap.{is_at}
use Rattle.std.specs.BTreeSet.{insert_key}
use Rattle.std.specs.Cmp.Lexicographic.{slice_cmp}
use Rattle.std.specs.List.{list_any}
use Rattle.std.specs.Map.{lookup}
use Rattle.std.specs.declared.cmp.Ordering.{Ordering}
use Rattle.values.specs.Datum.{Datum}
use Rattle.view_lang.specs.declared.view.OrderBy.{OrderBy}
use Rattle.top_rows.specs.EntryOrder.{sort_key_cmp, tied_cmp}
use Rattle.top_rows.specs.SortKeys.{sort_keys_of}
use Rattle.top_rows.specs.declared.sort_key.SortKey.{SortKey}

-- whether there is a row, and it has these sort keys
abbrev pub has_sort_keys : List OrderBy → List SortKey → Option (List Datum) → Bool
has_sort_keys order ps None = false
has_sort_keys order ps (Some row) = is_at (slice_cmp sort_key_cmp (sort_keys_of order row)) ps

module _ {N : Type 0} (cmp : N → N → Ordering) where
  -- whether an entry is among some
  abbrev pub stands_by : List (List SortKey × N) → List SortKey × N → Bool
  stands_by order_entries p = list_any (is_at (tied_cmp cmp p)) order_entries

  -- the entry of the row of a name
  abbrev pub entry_by : List OrderBy → N → List Datum → List SortKey × N
  entry_by order n row = (sort_keys_of order row, n)

  -- whether an entry is that of a name's row, if it has one
  abbrev pub is_entry_by : List OrderBy → N → Option (List Datum) → List SortKey × N → Bool
  is_entry_by order n None p = false
  is_entry_by order n (Some row) p = is_at (tied_cmp cmp (entry_by order n row)) p

  -- There is an entry where the row of its name has its sort keys.
  pub record KeepsBy (order : List OrderBy) (order_entries : List (List SortKey × N))
      (at : N → Option (List Datum)) : Type 0
    where
      pub entries_are : (p : List SortKey × N) → stands_by order_entries p ≡ has_sort_keys order p.0 (at p.1)

  -- the row of a name
  abbrev pub named : List (N × List Datum) → N → Option (List Datum)
  named rows n = lookup (is_at (cmp n)) rows

  -- the entries of rows, each inserted before the first that isn't below it
  abbrev pub placed_by : List OrderBy → List (N × List Datum) → List (List SortKey × N)
  placed_by order [] = []
  placed_by order (e ∷ es) = insert_key (tied_cmp cmp) (placed_by order es) (entry_by order e.0 e.1)

  -- the row that `at` gives for a name among some, and that `others` gives for any other
  abbrev pub pick : List N → (N → Option (List Datum)) → (N → Option (List Datum)) → N → Option (List Datum)
  pick ns at others n = cond (list_any (is_at (cmp n)) ns) (at n) (others n)

  -- the same without a row for names among some
  abbrev pub without : List N → (N → Option (List Datum)) → N → Option (List Datum)
  without ns at = pick ns (λ n. None) at
