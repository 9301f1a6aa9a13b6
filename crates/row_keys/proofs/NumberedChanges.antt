-- Changes that name each number once.
use Rattle.std.proofs.Common.{◌≡◌, refl, ap, sym, ◌∙◌, subst}
use Rattle.std.specs.Prelude.{ℕ, Bool, true, false, cond, List, [], ◌∷◌, ◌++◌, map, Option, Some, None}
use Rattle.std.specs.declared.cmp.Ordering.{Ordering}
use Rattle.std.specs.declared.cmp.Ordering.TheVariants.{Equal, Greater, Less}
use Rattle.std.specs.Ordering.{eq_by_cmp, is_eq, nat_cmp, ordering_reverse}
use Rattle.std.specs.Cmp.{eq_by_cmp_equiv, nat_cmp_total, tied_itself, unsigned_tied}
use Rattle.std.specs.List.{AllByRecursion, IsDistinct}
use Rattle.std.specs.List.Sorted.{IsStrictlySortedBy}
use Rattle.std.specs.Map.{keys_of}
use Rattle.std.specs.BTreeMap.{is_at}
use Rattle.std.proofs.lemmas.Map.{lookup-none}
use Rattle.std.proofs.lemmas.Map.Entries.{none_below_head, none_past_head}
use Rattle.std.proofs.lemmas.Map.Keys.{IsDistinct-from_sorted, sorted_tail}
use Rattle.std.proofs.lemmas.Map.Lookups.{exact_unsigned}
use Rattle.std.proofs.lemmas.Map.Views.{exact_unsigned_eq}
use Rattle.values.specs.Datum.{Datum}
use Rattle.view_lang.specs.Shifts.{NumberedRows, Shift, FitsInTurn, shift, with_at, patched, row_at}
use Rattle.view_lang.specs.SortedEntries.{sorted-insert_entry, sorted-remove_entry}
use Rattle.view_lang.specs.Counted.{lookup-with_at}
use Rattle.row_keys.specs.NumberLaws.{ChangesAdd, Leads}

abbrev pub Up : NumberedRows → Type 0
Up rows = IsStrictlySortedBy nat_cmp (keys_of rows)

-- the same number
abbrev pub is_same : ℕ → ℕ → Bool
is_same n m = is_at (nat_cmp n) m

pub same_is : (n m : ℕ) → is_same n m ≡ true → n ≡ m
same_is n m h = exact_unsigned_eq n m (sym (unsigned_tied n m) ∙ h)

past : (m : ℕ) (e : ℕ × List Datum) (es : NumberedRows) → Up (e ∷ es) → is_same m e.0 ≡ true → row_at m es ≡ None
past m e es s x =
    lookup-none (is_at (nat_cmp m)) es
    (none_past_head (eq_by_cmp_equiv nat_cmp_total) m e es (IsDistinct-from_sorted nat_cmp (keys_of (e ∷ es)) s) x)

below : (e f : ℕ × List Datum) (es fs : NumberedRows) → Up (f ∷ fs)
    → ((m : ℕ) → row_at m (e ∷ es) ≡ row_at m (f ∷ fs)) → nat_cmp e.0 f.0 ≡ Less → ⊥
below e f es fs t h q =
    let here : row_at e.0 (e ∷ es) ≡ Some e.1 = ap (λ (r : Ordering). cond (is_eq r) (Some e.1) (row_at e.0 es))
    (tied_itself nat_cmp_total e.0) in
    let none = lookup-none (is_at (nat_cmp e.0)) (f ∷ fs) (none_below_head nat_cmp_total e.0 f fs t q) in
    let same = h e.0 in
    absurd (cc)

-- ascending rows with the same at each number are the same
same_by : (e f : ℕ × List Datum) (es fs : NumberedRows) → Up (e ∷ es) → Up (f ∷ fs)
    → (((m : ℕ) → row_at m es ≡ row_at m fs) → es ≡ fs) → ((m : ℕ) → row_at m (e ∷ es) ≡ row_at m (f ∷ fs))
    → (r : Ordering) → nat_cmp e.0 f.0 ≡ r → e ∷ es ≡ f ∷ fs
same_by e f es fs s t i h Less q = absurd (below e f es fs t h q)
same_by e f es fs s t i h Greater q =
    absurd (below f e fs es s (λ m. sym (h m)) (nat_cmp_total.antisymm f.0 e.0 ∙ ap ordering_reverse q))
same_by e f es fs s t i h Equal q =
    let k : e.0 ≡ f.0 = exact_unsigned e.0 f.0 q in
    let one : row_at e.0 (e ∷ es) ≡ Some e.1 = ap (λ (r : Ordering). cond (is_eq r) (Some e.1) (row_at e.0 es))
    (tied_itself nat_cmp_total e.0) in
    let two : row_at f.0 (f ∷ fs) ≡ Some f.1 = ap (λ (r : Ordering). cond (is_eq r) (Some f.1) (row_at f.0 fs))
    (tied_itself nat_cmp_total f.0) in
    let v : Some e.1 ≡ Some f.1 = sym one ∙ h e.0 ∙ ap (λ m. row_at m (f ∷ fs)) k ∙ two in
    let rest = i (λ m. tails m (is_same m e.0) refl k) in
    let w : e.1 ≡ f.1 = cc in
    let pair : e ≡ f = (λ j. (k j, w j)) in
    cc
  where
    tails : (m : ℕ) (b : Bool) → is_same m e.0 ≡ b → e.0 ≡ f.0 → row_at m es ≡ row_at m fs
    tails m true x k = past m e es s x ∙ sym (past m f fs t (subst (λ (y : ℕ). is_same m y ≡ true) k x))
    tails m false x k =
        let y = subst (λ (y : ℕ). is_same m y ≡ false) k x in
        sym (ap (λ b. cond b (Some e.1) (row_at m es)) x) ∙ h m ∙ ap (λ b. cond b (Some f.1) (row_at m fs)) y

pub same_rows : (es fs : NumberedRows) → Up es → Up fs → ((m : ℕ) → row_at m es ≡ row_at m fs) → es ≡ fs
same_rows [] [] s t h = refl
same_rows [] (f ∷ fs) s t h = let x = h f.0 in
    let y = ap (λ (r : Ordering). cond (is_eq r) (Some f.1) (row_at f.0 fs)) (tied_itself nat_cmp_total f.0) in
    absurd (cc)
same_rows (e ∷ es) [] s t h = let x = h e.0 in
    let y = ap (λ (r : Ordering). cond (is_eq r) (Some e.1) (row_at e.0 es)) (tied_itself nat_cmp_total e.0) in
    absurd (cc)
same_rows (e ∷ es) (f ∷ fs) s t h =
    same_by e f es fs s t
    (same_rows es fs (sorted_tail nat_cmp e.0 (keys_of es) s) (sorted_tail nat_cmp f.0 (keys_of fs) t)) h
    (nat_cmp e.0 f.0) refl

with_up : (n : ℕ) (o : Option (List Datum)) (rows : NumberedRows) → Up rows → Up (with_at n o rows)
with_up n None rows s = sorted-remove_entry nat_cmp_total (is_at (nat_cmp n)) rows s
with_up n (Some r) rows s = sorted-insert_entry nat_cmp_total n r rows s

-- whether a number is among these
abbrev pub is_named : ℕ → List ℕ → Bool
is_named m [] = false
is_named m (n ∷ ns) = cond (is_same n m) true (is_named m ns)

-- one change after another

in_turn_more : (rows : NumberedRows) (c d : List Shift) → FitsInTurn rows c → FitsInTurn (patched rows c) d
    → FitsInTurn rows (c ++ d)
in_turn_more rows [] d h k = k
in_turn_more rows (s ∷ ss) d h k = (h.0, in_turn_more (with_at s.number s.after rows) ss d h.1 k)

patched_more : (rows : NumberedRows) (c d : List Shift) → patched rows (c ++ d) ≡ patched (patched rows c) d
patched_more rows [] d = refl
patched_more rows (s ∷ ss) d = patched_more (with_at s.number s.after rows) ss d

pub changes_add : ChangesAdd
changes_add old mid new c d h k = record {
  fits = record {
    ascending = h.fits.ascending;
    in_turn = in_turn_more old c d h.fits.in_turn
        (subst (λ (rows : NumberedRows). FitsInTurn rows d) (sym h.patched_is) k.fits.in_turn);
  };
  patched_is = patched_more old c d ∙ ap (λ rows. patched rows d) h.patched_is ∙ k.patched_is;
}

-- what each number has before the change, and after it
module _ (old new : ℕ → Option (List Datum)) where
  abbrev pub shifts : List ℕ → List Shift
  shifts ns = map (λ n. shift n (old n) (new n)) ns

  untouched : (n : ℕ) (ms : List ℕ) (rows : NumberedRows) → Up rows
      → AllByRecursion (λ m. eq_by_cmp nat_cmp n m ≡ false) ms → AllByRecursion (λ m. row_at m rows ≡ old m) ms
      → AllByRecursion (λ m. row_at m (with_at n (new n) rows) ≡ old m) ms
  untouched n [] rows up others h = tt
  untouched n (m ∷ ms) rows up others h = (
    lookup-with_at n m (new n) rows up ∙ ap (λ b. cond b (new n) (row_at m rows)) others.0 ∙ h.0,
    untouched n ms rows up others.1 h.1,
  )

  in_turn : (ns : List ℕ) (rows : NumberedRows) → Up rows → IsDistinct (eq_by_cmp nat_cmp) ns
      → AllByRecursion (λ n. row_at n rows ≡ old n) ns → FitsInTurn rows (shifts ns)
  unfolding IsDistinct
  in_turn [] rows up d h = tt
  in_turn (n ∷ ns) rows up d h =
      (h.0, in_turn ns (with_at n (new n) rows) (with_up n (new n) rows up) d.1 (untouched n ns rows up d.0 h.1))

  up_after : (ns : List ℕ) (rows : NumberedRows) → Up rows → Up (patched rows (shifts ns))
  up_after [] rows up = up
  up_after (n ∷ ns) rows up = up_after ns (with_at n (new n) rows) (with_up n (new n) rows up)

  twice : (n m : ℕ) (o : Option (List Datum)) (p q : Bool) → is_same n m ≡ p
      → cond q (new m) (cond p (new n) o) ≡ cond (cond p true q) (new m) o
  twice n m o true true e = refl
  twice n m o true false e = ap new (same_is n m e)
  twice n m o false q e = refl

  at_after : (ns : List ℕ) (rows : NumberedRows) (m : ℕ) → Up rows
      → row_at m (patched rows (shifts ns)) ≡ cond (is_named m ns) (new m) (row_at m rows)
  at_after [] rows m up = refl
  at_after (n ∷ ns) rows m up =
      at_after ns (with_at n (new n) rows) m (with_up n (new n) rows up)
      ∙ ap (λ o. cond (is_named m ns) (new m) o) (lookup-with_at n m (new n) rows up)
      ∙ twice n m (row_at m rows) (is_same n m) (is_named m ns) refl

  -- Where each number is named once, what is there after is given by the numbers.
  pub leads : (ns : List ℕ) (rows after : NumberedRows) → Up rows → Up after → IsDistinct (eq_by_cmp nat_cmp) ns
      → AllByRecursion (λ n. row_at n rows ≡ old n) ns
      → ((m : ℕ) → row_at m after ≡ cond (is_named m ns) (new m) (row_at m rows)) → Leads rows (shifts ns) after
  leads ns rows after up more d h is = record {
    fits = record { ascending = up; in_turn = in_turn ns rows up d h };
    patched_is = same_rows (patched rows (shifts ns)) after (up_after ns rows up) more
        (λ m. at_after ns rows m up ∙ sym (is m));
  }
