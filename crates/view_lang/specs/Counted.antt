-- Counting over a change: the rows before it and all that it adds count as the rows after it and all that it removes.
use Rattle.std.specs.Prelude.{
  ◌≡◌,
  ℕ,
  ◌+◌,
  ◌<◌,
  List,
  [],
  ◌∷◌,
  Option,
  None,
  Some,
  length,
  refl,
  Bool,
  true,
  count_by,
  cond,
  zero,
  suc,
}
use Rattle.std.proofs.Common.{take, get_or, ap, sym, subst, arith, option_map}
use Rattle.std.specs.Option.{unwrap_or}
use Rattle.std.specs.Cmp.{nat_cmp_total, eq_by_cmp_equiv}
use Rattle.std.specs.Ordering.{nat_cmp, eq_by_cmp}
use Rattle.std.specs.List.{sum_by}
use Rattle.std.specs.List.Sorted.{IsStrictlySortedBy}
use Rattle.std.specs.Map.{lookup, keys_of, values_of}
use Rattle.std.specs.BTreeMap.{is_at}
use Rattle.std.proofs.lemmas.List.Sums.{sum_by-cons}
use Rattle.std.proofs.lemmas.Map.Entries.{sum_by-insert_entry, sum_by-remove_entry}
use Rattle.values.specs.Datum.{Datum}
use Rattle.view_lang.specs.Shifts.{
  NumberedRows,
  Shift,
  Fits,
  FitsInTurn,
  patched,
  with_at,
  push_some,
  with_afters,
  with_befores,
}
use Rattle.view_lang.specs.SortedEntries.{sorted-insert_entry, sorted-remove_entry, lookup-insert_entry}
use Rattle.std.proofs.lemmas.Map.{lookup-remove_entry}
use Rattle.std.proofs.lemmas.Map.Keys.{IsDistinct-from_sorted}

sorted-with_at : (n : ℕ) (a : Option (List Datum)) (rows : NumberedRows) → IsStrictlySortedBy nat_cmp (keys_of rows)
    → IsStrictlySortedBy nat_cmp (keys_of (with_at n a rows))
sorted-with_at n None rows s = sorted-remove_entry nat_cmp_total (is_at (nat_cmp n)) rows s
sorted-with_at n (Some r) rows s = sorted-insert_entry nat_cmp_total n r rows s

module _ (f : List Datum → ℕ) where
  sum-push : (a : Option (List Datum)) (rs : List (List Datum)) → sum_by f (push_some a rs)
      ≡ unwrap_or (option_map f a) 0 + sum_by f rs
  sum-push None rs = omega arith
  sum-push (Some r) rs = sum_by-cons f r rs

  sum-with_at : (n : ℕ) (a : Option (List Datum)) (rows : NumberedRows) → IsStrictlySortedBy nat_cmp (keys_of rows)
      → sum_by f (values_of (with_at n a rows)) + unwrap_or (option_map f (lookup (is_at (nat_cmp n)) rows)) 0
      ≡ sum_by f (values_of rows) + unwrap_or (option_map f a) 0
  sum-with_at n None rows s = let e = sum_by-remove_entry f (is_at (nat_cmp n)) rows in omega (arith, e)
  sum-with_at n (Some r) rows s = sum_by-insert_entry f nat_cmp_total rows n r s

  -- after parts add the same to any rows
  sum-afters : (es : List Shift) (xs ys : List (List Datum)) → sum_by f (with_afters es xs) + sum_by f ys
      ≡ sum_by f (with_afters es ys) + sum_by f xs
  sum-afters [] xs ys = omega arith
  sum-afters (e ∷ es) xs ys =
      let h = sum-afters es (push_some e.after xs) (push_some e.after ys) in
      let p = sum-push e.after xs in
      let q = sum-push e.after ys in
      omega (arith, h, p, q)

  sums : (es : List Shift) (rows : NumberedRows) → IsStrictlySortedBy nat_cmp (keys_of rows) → FitsInTurn rows es
      → sum_by f (with_afters es (values_of rows)) ≡ sum_by f (with_befores es (values_of (patched rows es)))
  sums [] rows s fits = refl
  sums (e ∷ es) rows s fits =
      let h = sums es (with_at e.number e.after rows) (sorted-with_at e.number e.after rows s) fits.1 in
      let a = sum-afters es (push_some e.after (values_of rows)) (values_of (with_at e.number e.after rows)) in
      let p = sum-push e.after (values_of rows) in
      let w = sum-with_at e.number e.after rows s in
      let same = ap (λ (o : Option (List Datum)). unwrap_or (option_map f o) 0) fits.0 in
      let b = sum-push e.before (with_befores es (values_of (patched (with_at e.number e.after rows) es))) in
      omega (arith, h, a, p, w, same, b)

-- each test counts alike
pub counted : (rows : NumberedRows) (change : List Shift) → Fits rows change → (p : List Datum → Bool)
    → count_by p (with_afters change (values_of rows))
    ≡ count_by p (with_befores change (values_of (patched rows change)))
counted rows change fits p = sums (λ (r : List Datum). cond (p r) 1 0) change rows fits.ascending fits.in_turn

agrees : (n x y : ℕ) → is_at (nat_cmp n) x ≡ true → is_at (nat_cmp n) y ≡ eq_by_cmp nat_cmp x y
agrees n x y h = (eq_by_cmp_equiv nat_cmp_total).congr n x y h

-- the row at each number
pub lookup-with_at : (n m : ℕ) (a : Option (List Datum)) (rows : NumberedRows)
    → IsStrictlySortedBy nat_cmp (keys_of rows)
    → lookup (is_at (nat_cmp m)) (with_at n a rows) ≡ cond (is_at (nat_cmp n) m) a (lookup (is_at (nat_cmp m)) rows)
lookup-with_at n m None rows s = lookup-remove_entry (eq_by_cmp_equiv nat_cmp_total) (is_at (nat_cmp n)) (agrees n) m
    rows (IsDistinct-from_sorted nat_cmp (keys_of rows) s)
lookup-with_at n m (Some r) rows s = lookup-insert_entry nat_cmp_total n m r rows

-- each part of a change, when the parts before it are done
pub fits-at : (rows : NumberedRows) (es : List Shift) → Fits rows es → (i : ℕ) (e : Shift) → i < length es
    → e ≡ get_or es i e
    → IsStrictlySortedBy nat_cmp (keys_of (patched rows (take i es)))
    × (lookup (is_at (nat_cmp e.number)) (patched rows (take i es)) ≡ e.before)
fits-at rows [] f i e h q = absurd (omega arith)
fits-at rows (x ∷ es) f zero e h q =
    (f.ascending, subst (λ (y : Shift). lookup (is_at (nat_cmp y.number)) rows ≡ y.before) (sym q) f.in_turn.0)
fits-at rows (x ∷ es) f (suc i) e h q =
    fits-at (with_at x.number x.after rows) es
    (record { ascending = sorted-with_at x.number x.after rows f.ascending; in_turn = f.in_turn.1 }) i e
    (omega arith) q

pub patched-more : (rows : NumberedRows) (es : List Shift) (i : ℕ) (e : Shift) → i < length es → e ≡ get_or es i e
    → patched rows (take (suc i) es) ≡ with_at e.number e.after (patched rows (take i es))
patched-more rows [] i e h q = absurd (omega arith)
patched-more rows (x ∷ es) zero e h q = ap (λ (y : Shift). with_at y.number y.after rows) (sym q)
patched-more rows (x ∷ es) (suc i) e h q = patched-more (with_at x.number x.after rows) es i e (omega arith) q
