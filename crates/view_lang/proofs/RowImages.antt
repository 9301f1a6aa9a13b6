-- Changes of rows are changes of the projection of each of them.
use Rattle.std.proofs.Common.{◌≡◌, refl, ap, sym, ◌∙◌, subst}
use Rattle.std.specs.Prelude.{ℕ, Bool, true, false, cond, List, [], ◌∷◌, map, Option, Some, None}
use Rattle.std.specs.Option.{option_and_then}
use Rattle.std.specs.declared.cmp.Ordering.{Ordering}
use Rattle.std.specs.declared.cmp.Ordering.TheVariants.{Less, Equal, Greater}
use Rattle.std.specs.Ordering.{is_eq, nat_cmp, ordering_reverse}
use Rattle.std.specs.Cmp.{nat_cmp_total, eq_by_cmp_equiv, tied_itself}
use Rattle.std.specs.List.{AllByRecursion, filter_map, cons_option}
use Rattle.std.specs.List.Sorted.{IsStrictlySortedBy}
use Rattle.std.specs.Map.{lookup, keys_of, values_of}
use Rattle.std.specs.BTreeMap.{is_at}
use Rattle.std.proofs.lemmas.Map.{lookup-none}
use Rattle.std.proofs.lemmas.Map.Entries.{none_past_head, none_below_head}
use Rattle.std.proofs.lemmas.Map.Keys.{sorted_tail, IsDistinct-from_sorted}
use Rattle.std.proofs.lemmas.Map.Lookups.{exact_unsigned}
use Rattle.values.specs.Datum.{Datum}
use Rattle.view_lang.specs.Shifts.{NumberedRows, Shift, FitsInTurn, with_at, patched}
use Rattle.view_lang.specs.SortedEntries.{sorted-insert_entry, sorted-remove_entry}
use Rattle.view_lang.specs.Counted.{lookup-with_at}
use Rattle.view_lang.specs.Images.{image_by, image, shift_image, ImageAt, ImageFits, ImagePatched, ImageValues}

abbrev Up : NumberedRows → Type 0
Up rows = IsStrictlySortedBy nat_cmp (keys_of rows)

abbrev at : ℕ → NumberedRows → Option (List Datum)
at m rows = lookup (is_at (nat_cmp m)) rows

past : (m : ℕ) (e : ℕ × List Datum) (es : NumberedRows) → Up (e ∷ es) → is_at (nat_cmp m) e.0 ≡ true → at m es ≡ None
past m e es s x =
    lookup-none (is_at (nat_cmp m)) es
    (none_past_head (eq_by_cmp_equiv nat_cmp_total) m e es (IsDistinct-from_sorted nat_cmp (keys_of (e ∷ es)) s) x)

below : (e f : ℕ × List Datum) (es fs : NumberedRows) → Up (f ∷ fs) → ((m : ℕ) → at m (e ∷ es) ≡ at m (f ∷ fs))
    → nat_cmp e.0 f.0 ≡ Less → ⊥
below e f es fs t h q =
    let here : at e.0 (e ∷ es) ≡ Some e.1 = ap (λ (r : Ordering). cond (is_eq r) (Some e.1) (at e.0 es))
    (tied_itself nat_cmp_total e.0) in
    let none = lookup-none (is_at (nat_cmp e.0)) (f ∷ fs) (none_below_head nat_cmp_total e.0 f fs t q) in
    let same = h e.0 in
    absurd (cc)

-- ascending rows with the same at each number are the same
same_by : (e f : ℕ × List Datum) (es fs : NumberedRows) → Up (e ∷ es) → Up (f ∷ fs)
    → (((m : ℕ) → at m es ≡ at m fs) → es ≡ fs) → ((m : ℕ) → at m (e ∷ es) ≡ at m (f ∷ fs)) → (r : Ordering)
    → nat_cmp e.0 f.0 ≡ r → e ∷ es ≡ f ∷ fs
same_by e f es fs s t i h Less q = absurd (below e f es fs t h q)
same_by e f es fs s t i h Greater q =
    absurd (below f e fs es s (λ m. sym (h m)) (nat_cmp_total.antisymm f.0 e.0 ∙ ap ordering_reverse q))
same_by e f es fs s t i h Equal q =
    let k : e.0 ≡ f.0 = exact_unsigned e.0 f.0 q in
    let one : at e.0 (e ∷ es) ≡ Some e.1 = ap (λ (r : Ordering). cond (is_eq r) (Some e.1) (at e.0 es))
    (tied_itself nat_cmp_total e.0) in
    let two : at f.0 (f ∷ fs) ≡ Some f.1 = ap (λ (r : Ordering). cond (is_eq r) (Some f.1) (at f.0 fs))
    (tied_itself nat_cmp_total f.0) in
    let v : Some e.1 ≡ Some f.1 = sym one ∙ h e.0 ∙ ap (λ m. at m (f ∷ fs)) k ∙ two in
    let rest = i (λ m. tails m (is_at (nat_cmp m) e.0) refl k) in
    let w : e.1 ≡ f.1 = cc in
    let pair : e ≡ f = (λ j. (k j, w j)) in
    cc
  where
    tails : (m : ℕ) (b : Bool) → is_at (nat_cmp m) e.0 ≡ b → e.0 ≡ f.0 → at m es ≡ at m fs
    tails m true x k = past m e es s x ∙ sym (past m f fs t (subst (λ (y : ℕ). is_at (nat_cmp m) y ≡ true) k x))
    tails m false x k =
        let y = subst (λ (y : ℕ). is_at (nat_cmp m) y ≡ false) k x in
        sym (ap (λ b. cond b (Some e.1) (at m es)) x) ∙ h m ∙ ap (λ b. cond b (Some f.1) (at m fs)) y

same_entries : (es fs : NumberedRows) → Up es → Up fs → ((m : ℕ) → at m es ≡ at m fs) → es ≡ fs
same_entries [] [] s t h = refl
same_entries [] (f ∷ fs) s t h = let x = h f.0 in let y = ap (λ (r : Ordering). cond (is_eq r) (Some f.1) (at f.0 fs))
    (tied_itself nat_cmp_total f.0) in absurd (cc)
same_entries (e ∷ es) [] s t h = let x = h e.0 in let y = ap (λ (r : Ordering). cond (is_eq r) (Some e.1) (at e.0 es))
    (tied_itself nat_cmp_total e.0) in absurd (cc)
same_entries (e ∷ es) (f ∷ fs) s t h =
    same_by e f es fs s t
    (same_entries es fs (sorted_tail nat_cmp e.0 (keys_of es) s) (sorted_tail nat_cmp f.0 (keys_of fs) t)) h
    (nat_cmp e.0 f.0) refl

with-up : (n : ℕ) (o : Option (List Datum)) (rows : NumberedRows) → Up rows → Up (with_at n o rows)
with-up n None rows s = sorted-remove_entry nat_cmp_total (is_at (nat_cmp n)) rows s
with-up n (Some r) rows s = sorted-insert_entry nat_cmp_total n r rows s

module _ (f : List Datum → Option (List Datum)) where
  above_by : (a n : ℕ) (o : Option (List Datum)) (es : NumberedRows) → nat_cmp a n ≡ Less
      → AllByRecursion (λ m. nat_cmp a m ≡ Less) (keys_of es) → AllByRecursion (λ m. nat_cmp a m ≡ Less)
      (keys_of (image_by n o es))
  above_by a n None es l h = h
  above_by a n (Some r) es l h = (l, h)

  image-above : (a : ℕ) (es : NumberedRows) → AllByRecursion (λ m. nat_cmp a m ≡ Less) (keys_of es)
      → AllByRecursion (λ m. nat_cmp a m ≡ Less) (keys_of (image f es))
  image-above a [] h = tt
  image-above a (e ∷ es) h = above_by a e.0 (f e.1) (image f es) h.0 (image-above a es h.1)

  up_by : (n : ℕ) (o : Option (List Datum)) (es : NumberedRows) → AllByRecursion (λ m. nat_cmp n m ≡ Less) (keys_of es)
      → Up es → Up (image_by n o es)
  unfolding IsStrictlySortedBy
  up_by n None es h s = s
  up_by n (Some r) es h s = (h, s)

  image-up : (es : NumberedRows) → Up es → Up (image f es)
  unfolding IsStrictlySortedBy
  image-up [] s = tt
  image-up (e ∷ es) s = up_by e.0 (f e.1) (image f es) (image-above e.0 es s.0) (image-up es s.1)

  at_by : (m : ℕ) (e : ℕ × List Datum) (es : NumberedRows) → at m (image f es) ≡ option_and_then f (at m es)
      → (is_at (nat_cmp m) e.0 ≡ true → at m es ≡ None) → (b : Bool) → is_at (nat_cmp m) e.0 ≡ b
      → (o : Option (List Datum)) → f e.1 ≡ o
      → at m (image_by e.0 o (image f es)) ≡ option_and_then f (cond b (Some e.1) (at m es))
  at_by m e es h p true x None y = h ∙ ap (option_and_then f) (p x) ∙ sym y
  at_by m e es h p true x (Some r) y = ap (λ b. cond b (Some r) (at m (image f es))) x ∙ sym y
  at_by m e es h p false x None y = h
  at_by m e es h p false x (Some r) y = ap (λ b. cond b (Some r) (at m (image f es))) x ∙ h

  at-image : (m : ℕ) (es : NumberedRows) → Up es → at m (image f es) ≡ option_and_then f (at m es)
  at-image m [] s = refl
  at-image m (e ∷ es) s = at_by m e es (at-image m es (sorted_tail nat_cmp e.0 (keys_of es) s)) (past m e es s)
      (is_at (nat_cmp m) e.0) refl (f e.1) refl

  cond-then : (b : Bool) (o p : Option (List Datum)) → option_and_then f (cond b o p)
      ≡ cond b (option_and_then f o) (option_and_then f p)
  cond-then true o p = refl
  cond-then false o p = refl

  image-with : (n : ℕ) (o : Option (List Datum)) (rows : NumberedRows) → Up rows
      → image f (with_at n o rows) ≡ with_at n (option_and_then f o) (image f rows)
  image-with n o rows s =
      same_entries (image f (with_at n o rows)) (with_at n (option_and_then f o) (image f rows))
      (image-up (with_at n o rows) (with-up n o rows s))
      (with-up n (option_and_then f o) (image f rows) (image-up rows s))
      (λ m. at-image m (with_at n o rows) (with-up n o rows s) ∙ ap (option_and_then f) (lookup-with_at n m o rows s)
      ∙ cond-then (is_at (nat_cmp n) m) o (at m rows)
      ∙ sym (ap (λ p. cond (is_at (nat_cmp n) m) (option_and_then f o) p) (at-image m rows s))
      ∙ sym (lookup-with_at n m (option_and_then f o) (image f rows) (image-up rows s)))

  in-turn : (rows : NumberedRows) (es : List Shift) → Up rows → FitsInTurn rows es
      → FitsInTurn (image f rows) (map (shift_image f) es)
  in-turn rows [] s t = tt
  in-turn rows (e ∷ es) s t =
      let P : NumberedRows → Type 0 = λ l. FitsInTurn l (map (shift_image f) es) in (
        at-image e.number rows s ∙ ap (option_and_then f) t.0,
        subst P (image-with e.number e.after rows s)
            (in-turn (with_at e.number e.after rows) es (with-up e.number e.after rows s) t.1),
      )

  patched-image : (rows : NumberedRows) (es : List Shift) → Up rows → image f (patched rows es)
      ≡ patched (image f rows) (map (shift_image f) es)
  patched-image rows [] s = refl
  patched-image rows (e ∷ es) s =
      patched-image (with_at e.number e.after rows) es (with-up e.number e.after rows s)
      ∙ ap (λ l. patched l (map (shift_image f) es)) (image-with e.number e.after rows s)

pub image-fits : ImageFits
image-fits f rows change h =
    record { ascending = image-up f rows h.ascending; in_turn = in-turn f rows change h.ascending h.in_turn }

pub image-patched : ImagePatched
image-patched f rows change h = patched-image f rows change h.ascending

values_by : (n : ℕ) (o : Option (List Datum)) (es : NumberedRows) (rest : List (List Datum)) → values_of es ≡ rest
    → values_of (image_by n o es) ≡ cons_option o rest
values_by n None es rest h = h
values_by n (Some r) es rest h = ap (λ l. r ∷ l) h

pub image-values : ImageValues
image-values f [] = refl
image-values f (e ∷ es) = values_by e.0 (f e.1) (image f es) (filter_map f (values_of es)) (image-values f es)

pub image-at : ImageAt
image-at f rows n s = at-image f n rows s

pub ruleset image_laws = (image-fits, image-patched, image-values, image-at)
