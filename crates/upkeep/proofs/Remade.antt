-- Rows whose projected row was one and is another now, by their numbers.
use Rattle.std.proofs.Common.{◌≡◌, ℕ, zero, suc, ◌+◌, ◌<◌, ◌≤◌, ◌||◌, Bool, true, false, cond, List, [], ◌∷◌, Option, None, Some, ap, arith, get_or, length, map, refl, subst, sym, take, ◌∙◌}
use Rattle.std.specs.BTreeMap.{is_at}
use Rattle.std.specs.Cmp.{eq_by_cmp_equiv, nat_cmp_total, tied_itself, unsigned_tied}
use Rattle.std.specs.List.{AllByRecursion}
use Rattle.std.specs.List.Sorted.{IsStrictlySortedBy}
use Rattle.std.specs.Map.{keys_of}
use Rattle.std.specs.Option.{option_and_then}
use Rattle.std.specs.Ordering.{is_eq, nat_cmp}
use Rattle.std.specs.declared.cmp.Ordering.TheVariants as ordering
use Rattle.std.proofs.lemmas.List.{get_or_default, length-map, take_all}
use Rattle.std.proofs.lemmas.Map.Lookups.{exact_unsigned}
use Rattle.std.proofs.lemmas.Map.Views.{exact_unsigned_eq}
use Rattle.values.specs.Datum.{Datum}
use Rattle.view_lang.specs.Counted.{fits-at, lookup-with_at, patched-more}
use Rattle.view_lang.specs.Images.{ImageAt, ImageFits, image}
use Rattle.view_lang.specs.Limits.{max_appended_rows}
use Rattle.view_lang.specs.Shifts.{Fits, FitsInTurn, IsFew, NumberedRows, Shift, patched, row_at, shift, with_at}
use Rattle.lookups.proofs.SameEntries.{same-entries}
use Rattle.lookups.specs.Refers.{is_among as is_numbered}
use Rattle.row_keys.specs.NumberLaws.{Leads, NumbersAscend, RowsAreAtNumbers}
use Rattle.row_keys.specs.Numbered.{live_at, numbered}
use Rattle.row_keys.specs.Slots.{Slot, row_of}
use Rattle.upkeep.specs.ViewStates.{reprojected_by}
use Rattle.upkeep.proofs.RowByRow.{IsNext, few_next, sorted_patched, sorted_with}

abbrev pub AreUp : NumberedRows → Type 0
AreUp rows = IsStrictlySortedBy nat_cmp (keys_of rows)

pub same_rows : (a b : NumberedRows) → AreUp a → AreUp b → ((m : ℕ) → row_at m a ≡ row_at m b) → a ≡ b
same_rows a b up_a up_b same = same-entries nat_cmp_total exact_unsigned a b up_a up_b same

pub same_number : (n m : ℕ) → is_at (nat_cmp n) m ≡ true → n ≡ m
same_number n m h = exact_unsigned_eq n m (sym (unsigned_tied n m) ∙ h)

-- a row that is set twice
twice_at : (t : Bool) (a b x : Option (List Datum)) → cond t b (cond t a x) ≡ cond t b x
twice_at true a b x = refl
twice_at false a b x = refl

pub set_twice : (n : ℕ) (a b : Option (List Datum)) (rows : NumberedRows) → AreUp rows
    → with_at n b (with_at n a rows) ≡ with_at n b rows
set_twice n a b rows up =
    let mid : NumberedRows = with_at n a rows in
    let up_mid : AreUp mid = sorted_with n a rows up in
    same_rows (with_at n b mid) (with_at n b rows) (sorted_with n b mid up_mid) (sorted_with n b rows up)
    (λ m. lookup-with_at n m b mid up_mid
    ∙ ap (λ x. cond (is_at (nat_cmp n) m) b x) (lookup-with_at n m a rows up)
    ∙ twice_at (is_at (nat_cmp n) m) a b (row_at m rows) ∙ sym (lookup-with_at n m b rows up))

-- and one that is set to what was there
pub set_same : (n : ℕ) (a : Option (List Datum)) (rows : NumberedRows) → AreUp rows → row_at n rows ≡ a
    → with_at n a rows ≡ rows
set_same n a rows up here =
    same_rows (with_at n a rows) rows (sorted_with n a rows up) up
    (λ m. lookup-with_at n m a rows up ∙ by m (is_at (nat_cmp n) m) refl)
  where
    by : (m : ℕ) (t : Bool) → is_at (nat_cmp n) m ≡ t → cond t a (row_at m rows) ≡ row_at m rows
    by m true is = sym here ∙ ap (λ k. row_at k rows) (same_number n m is)
    by m false is = refl

-- A change of one number in two steps

module _ (n : ℕ) (before after : Option (List Datum)) (rows : NumberedRows)
    (fits : Fits rows (shift n before after ∷ [])) where
  pub go_step : Fits rows (shift n before None ∷ [])
  go_step = record { ascending = fits.ascending; in_turn = (fits.in_turn.0, tt) }

  pub come_step : Fits (with_at n None rows) (shift n None after ∷ [])
  come_step = record {
    ascending = sorted_with n None rows fits.ascending;
    in_turn = (
      lookup-with_at n n None rows fits.ascending
          ∙ ap (λ r. cond (is_eq r) None (row_at n rows)) (tied_itself nat_cmp_total n),
      tt,
    );
  }

  pub both_steps : with_at n after (with_at n None rows) ≡ with_at n after rows
  both_steps = set_twice n None after rows fits.ascending

-- Rows that f gave, and that g gives now

all_numbered : (P : ℕ → Type 0) (ns : List ℕ) → ((m : ℕ) → is_numbered ns m ≡ true → P m) → AllByRecursion P ns
all_numbered P [] h = tt
all_numbered P (n ∷ ns) h = (
  h n (ap (λ r. is_eq r || is_numbered ns n) (tied_itself nat_cmp_total n)),
  all_numbered P ns (λ m is. h m (either (is_at (nat_cmp m) n) (is_numbered ns m) is)),
)
  where
    either : (a b : Bool) → b ≡ true → (a || b) ≡ true
    either true b is = refl
    either false b is = is

module _ (f g : List Datum → Option (List Datum)) (slots : List Slot) where
  abbrev are_made : NumberedRows → List ℕ → Type 0
  are_made rows ns = AllByRecursion (λ m. row_at m rows ≡ f (row_of slots m)) ns

  still_made : (n : ℕ) (a : Option (List Datum)) (rows : NumberedRows) (ns : List ℕ) → AreUp rows
      → AllByRecursion (λ m. nat_cmp n m ≡ ordering.Less) ns → are_made rows ns → are_made (with_at n a rows) ns
  still_made n a rows [] up above made = tt
  still_made n a rows (m ∷ ms) up above made = (
    lookup-with_at n m a rows up ∙ ap (λ r. cond (is_eq r) a (row_at m rows)) above.0 ∙ made.0,
    still_made n a rows ms up above.1 made.1,
  )

  in_turn : (ns : List ℕ) (rows : NumberedRows) → AreUp rows → IsStrictlySortedBy nat_cmp ns → are_made rows ns
      → FitsInTurn rows (reprojected_by f g slots ns)
  unfolding IsStrictlySortedBy
  in_turn [] rows up ascending made = tt
  in_turn (n ∷ ns) rows up ascending made = (
    made.0,
    in_turn ns (with_at n (g (row_of slots n)) rows) (sorted_with n (g (row_of slots n)) rows up) ascending.1
        (still_made n (g (row_of slots n)) rows ns up ascending.0 made.1),
  )

  chosen : (n m : ℕ) (a b : Bool) (x : Option (List Datum)) → is_at (nat_cmp n) m ≡ a → is_at (nat_cmp m) n ≡ a
      → cond b (g (row_of slots m)) (cond a (g (row_of slots n)) x) ≡ cond (a || b) (g (row_of slots m)) x
  chosen n m true true x is back = refl
  chosen n m true false x is back = ap (λ k. g (row_of slots k)) (same_number n m is)
  chosen n m false true x is back = refl
  chosen n m false false x is back = refl

  -- the row of a number then
  remade_at : (ns : List ℕ) (rows : NumberedRows) (m : ℕ) → AreUp rows
      → row_at m (patched rows (reprojected_by f g slots ns))
      ≡ cond (is_numbered ns m) (g (row_of slots m)) (row_at m rows)
  remade_at [] rows m up = refl
  remade_at (n ∷ ns) rows m up =
      let a : Bool = is_at (nat_cmp n) m in
      let back : is_at (nat_cmp m) n ≡ a = sym ((eq_by_cmp_equiv nat_cmp_total).symm n m) in
      remade_at ns (with_at n (g (row_of slots n)) rows) m (sorted_with n (g (row_of slots n)) rows up)
      ∙ ap (λ x. cond (is_numbered ns m) (g (row_of slots m)) x) (lookup-with_at n m (g (row_of slots n)) rows up)
      ∙ chosen n m a (is_numbered ns m) (row_at m rows) refl back
      ∙ ap (λ b. cond (b || is_numbered ns m) (g (row_of slots m)) (row_at m rows)) (sym back)

  pub remade_leads : ImageAt → ImageFits → NumbersAscend → RowsAreAtNumbers → (ns : List ℕ)
      → IsStrictlySortedBy nat_cmp ns
      → ((m : ℕ) → is_numbered ns m ≡ true → live_at slots m ≡ Some (row_of slots m))
      → ((m : ℕ) (r : List Datum) → live_at slots m ≡ Some r → is_numbered ns m ≡ false → f r ≡ g r)
      → Leads (image f (numbered slots)) (reprojected_by f g slots ns) (image g (numbered slots))
  remade_leads at image_fits ascend numbers ns ascending lives others =
      let up_to : (h : List Datum → Option (List Datum)) → AreUp (image h (numbered slots)) =
      λ h. (image_fits h (numbered slots) [] (record { ascending = ascend slots; in_turn = tt })).ascending in
      let stands : (h : List Datum → Option (List Datum)) (m : ℕ)
      → row_at m (image h (numbered slots)) ≡ option_and_then h (live_at slots m) =
      λ h m. at h (numbered slots) m (ascend slots) ∙ ap (option_and_then h) (numbers slots m) in
      let es : List Shift = reprojected_by f g slots ns in
      record {
        fits = record {
          ascending = up_to f;
          in_turn = in_turn ns (image f (numbered slots)) (up_to f) ascending
              (all_numbered (λ m. row_at m (image f (numbered slots)) ≡ f (row_of slots m)) ns
              (λ m is. stands f m ∙ ap (option_and_then f) (lives m is)));
        };
        patched_is = same_rows (patched (image f (numbered slots)) es) (image g (numbered slots))
            (sorted_patched (image f (numbered slots)) es (up_to f)) (up_to g)
            (λ m. remade_at ns (image f (numbered slots)) m (up_to f)
            ∙ by m (is_numbered ns m) refl (row_at m (image f (numbered slots))) (stands f m)
            ∙ sym (stands g m));
      }
    where
      apart : (m : ℕ) (o : Option (List Datum)) → live_at slots m ≡ o → is_numbered ns m ≡ false
          → option_and_then f o ≡ option_and_then g o
      apart m None is other = refl
      apart m (Some r) is other = others m r is other

      by : (m : ℕ) (b : Bool) → is_numbered ns m ≡ b → (x : Option (List Datum))
          → x ≡ option_and_then f (live_at slots m)
          → cond b (g (row_of slots m)) x ≡ option_and_then g (live_at slots m)
      by m true is x here = sym (ap (option_and_then g) (lives m is))
      by m false is x here = here ∙ apart m (live_at slots m) refl is

-- Changes of one number after the other

module _ (s : ℕ → Shift) where
  one_of : (ns : List ℕ) (i : ℕ) (d : Shift) → i < length ns → get_or (map s ns) i d ≡ s (get_or ns i 0)
  one_of [] i d below = absurd (omega (arith, below))
  one_of (n ∷ ns) zero d below = refl
  one_of (n ∷ ns) (suc i) d below = one_of ns i d (omega (arith, below))

  next_shift : (ns : List ℕ) (i : ℕ) (rows : NumberedRows) → i < length ns → Fits rows (map s ns)
      → IsNext rows (map s ns) (s (get_or ns i 0) ∷ []) i
  next_shift ns i rows below fits =
      let es : List Shift = map s ns in
      let d : Shift = shift 0 None None in
      let e : Shift = get_or es i d in
      let many = length-map ns s in
      let inside : i < length es = omega (arith, below, many) in
      let is : e ≡ get_or es i e = get_or_default es i d e inside in
      let one : e ≡ s (get_or ns i 0) = one_of ns i d below in
      let step : i + 1 ≡ suc i = omega arith in
      let at = fits-at rows es fits i e inside is in
      record {
        fits = subst (λ (x : Shift). Fits (patched rows (take i es)) (x ∷ [])) one
            (record { ascending = at.0; in_turn = (at.1, tt) });
        more = ap (λ k. patched rows (take k es)) step ∙ patched-more rows es i e inside is
            ∙ ap (λ (x : Shift). patched (patched rows (take i es)) (x ∷ [])) one;
      }

  module _ (P Q : NumberedRows → Type 0) (ns : List ℕ) (i : ℕ)
      (so_far : (rows : NumberedRows) → Fits rows (map s ns) → P rows → Q (patched rows (take i (map s ns)))) where
    -- what is required for the next change
    pub next_needs : (rows : NumberedRows) → i < length ns → P rows → Fits rows (map s ns) → IsFew rows (map s ns)
        → (now : NumberedRows) × (Q now × (Fits now (s (get_or ns i 0) ∷ []) × (length now < max_appended_rows)))
    next_needs rows below before fits few =
        let next = next_shift ns i rows below fits in
        (patched rows (take i (map s ns)), (so_far rows fits before, (next.fits, few_next rows (map s ns) i few)))

    -- one change more
    pub kept_more : (R : NumberedRows → Type 0) → i < length ns
        → ((rows : NumberedRows) → Fits rows (s (get_or ns i 0) ∷ []) → Q rows
        → R (patched rows (s (get_or ns i 0) ∷ [])))
        → (rows : NumberedRows) → Fits rows (map s ns) → P rows → R (patched rows (take (i + 1) (map s ns)))
    kept_more R below one rows fits before =
        let next = next_shift ns i rows below fits in
        subst R (sym next.more) (one (patched rows (take i (map s ns))) next.fits (so_far rows fits before))

    -- all changes
    pub kept_all : length ns ≤ i → (rows : NumberedRows) → Fits rows (map s ns) → P rows → Q (patched rows (map s ns))
    kept_all past rows fits before =
        let many = length-map ns s in
        subst (λ (ch : List Shift). Q (patched rows ch)) (take_all i (map s ns) (omega (arith, past, many)))
        (so_far rows fits before)
