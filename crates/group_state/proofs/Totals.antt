-- Totals of cells.
use Rattle.std.proofs.Common.{◌≡◌, refl, ap, sym, ◌∙◌, arith, ◌+◌, ◌-◌, List, ◌∷◌}
use Rattle.std.specs.Prelude.{ℤ, ◌+ℤ◌, ◌-ℤ◌, Bool, true, false, cond, filter, not, count_by, ℕ}
use Rattle.std.specs.Int.{int_wrap}
use mir.Syntax.{w128}
use lib.IntN.{neg_ℤ}
use Rattle.std.proofs.lemmas.Int.{ints, int_wrap-add_left}
use Rattle.std.proofs.lemmas.List.Sums.{sum_by-cons}
use Rattle.values.specs.CellViews.{shallow}
use Rattle.values.specs.Datum.{Datum, null, truth, whole, text, bytes, list, structure, is_null}
use Rattle.view_lang.specs.Folds.{number_in, total}
use Rattle.group_state.specs.Cells.{KeepsCells, KeepsTotal, KeepsValues, is_filled}
use Rattle.group_state.specs.declared.accumulated_columns.AccumulatorForm.{AccumulatorForm}
use Rattle.group_state.specs.declared.accumulated_columns.AccumulatorForm.TheVariants as kept
use Rattle.group_state.specs.declared.tally.Tally.TheVariants as tally
use Rattle.group_state.specs.declared.total.Total.{Total}
use Rattle.values.specs.declared.key.Key.{Key}

pub number_in-shallow : (d : Datum) → number_in (shallow d) ≡ number_in d
number_in-shallow null = refl
number_in-shallow (truth b) = refl
number_in-shallow (whole n) = refl
number_in-shallow (text t) = refl
number_in-shallow (bytes b) = refl
number_in-shallow (list es) = refl
number_in-shallow (structure es) = refl

pub ruleset number_laws = (number_in-shallow)

pub next_total : (d : Datum) (ds : List Datum)
    → total (filter is_filled (d ∷ ds)) ≡ number_in d +ℤ total (filter is_filled ds)
unfolding total
next_total null ds = omega (arith, ints)
next_total (truth b) ds = refl
next_total (whole n) ds = refl
next_total (text t) ds = refl
next_total (bytes b) ds = refl
next_total (list es) ds = refl
next_total (structure es) ds = refl

wrap-put : (t a b n : ℤ) → t ≡ int_wrap w128 a → b ≡ a +ℤ n → int_wrap w128 (t +ℤ n) ≡ int_wrap w128 b
wrap-put t a b n h e = rw (h, e) (int_wrap-add_left w128 a n)

wrap-take : (t a b n : ℤ) → t ≡ int_wrap w128 a → b +ℤ n ≡ a → int_wrap w128 (t -ℤ n) ≡ int_wrap w128 b
wrap-take t a b n h e =
    let back : a +ℤ neg_ℤ n ≡ b = omega (arith, ints) in
    rw h (int_wrap-add_left w128 a (neg_ℤ n) ∙ ap (int_wrap w128) back)

abbrev one_if : Bool → ℕ
one_if b = cond (not b) 1 0

counted-next : (d : Datum) (ds : List Datum)
    → count_by is_filled (d ∷ ds) ≡ one_if (is_null d) + count_by is_filled ds
counted-next d ds = sum_by-cons (λ (x : Datum). cond (is_filled x) 1 0) d ds

module _ (t : Total) (d : Datum) (ds : List Datum) where
  same-count : is_null d ≡ true → count_by is_filled (d ∷ ds) ≡ count_by is_filled ds
  same-count h =
      let a = counted-next d ds in
      let b : one_if (is_null d) ≡ 0 = ap one_if h in
      omega (arith, a, b)

  same-total : is_null d ≡ true → filter is_filled (d ∷ ds) ≡ filter is_filled ds
  same-total h = ap (λ b. cond (not b) (d ∷ filter is_filled ds) (filter is_filled ds)) h

  -- a null changes nothing
  pub null-put : is_null d ≡ true → KeepsTotal t ds → KeepsTotal t (d ∷ ds)
  null-put h k = record {
    filled_is = k.filled_is ∙ sym (same-count h);
    total_is = k.total_is ∙ ap (λ l. int_wrap w128 (total l)) (sym (same-total h));
  }

  pub null-taken : is_null d ≡ true → KeepsTotal t (d ∷ ds) → KeepsTotal t ds
  null-taken h k = record {
    filled_is = k.filled_is ∙ same-count h;
    total_is = k.total_is ∙ ap (λ l. int_wrap w128 (total l)) (same-total h);
  }

  one-more : is_null d ≡ false → count_by is_filled (d ∷ ds) ≡ 1 + count_by is_filled ds
  one-more h =
      let a = counted-next d ds in
      let b : one_if (is_null d) ≡ 1 = ap one_if h in
      omega (arith, a, b)

  pub total-put : (u : Total) → is_null d ≡ false → u.filled ≡ t.filled + 1
      → u.total ≡ int_wrap w128 (t.total +ℤ number_in d) → KeepsTotal t ds → KeepsTotal u (d ∷ ds)
  total-put u h f s k = record {
    filled_is = let a = k.filled_is in let b = one-more h in omega (arith, f, a, b);
    total_is =
        let next = next_total d ds in
        s ∙ wrap-put t.total (total (filter is_filled ds)) (total (filter is_filled (d ∷ ds))) (number_in d)
        k.total_is (omega (arith, ints, next));
  }

  pub total-taken : (u : Total) → is_null d ≡ false → u.filled ≡ t.filled - 1
      → u.total ≡ int_wrap w128 (t.total -ℤ number_in d) → KeepsTotal t (d ∷ ds) → KeepsTotal u ds
  total-taken u h f s k = record {
    filled_is = let a = k.filled_is in let b = one-more h in omega (arith, f, a, b);
    total_is =
        let next = next_total d ds in
        s ∙ wrap-take t.total (total (filter is_filled (d ∷ ds))) (total (filter is_filled ds)) (number_in d)
        k.total_is (omega (arith, ints, next));
  }

-- What holds of a total holds of the tally that has it, in either form, and likewise of values.

pub total-of : (form : AccumulatorForm) (t : Total) (ds : List Datum) → KeepsCells form (tally.Total t) ds → KeepsTotal t ds
total-of kept.Total t ds k = k
total-of kept.Values t ds k = absurd k

pub values-of : (form : AccumulatorForm) (es : List (Key × ℕ)) (ds : List Datum) → KeepsCells form (tally.Values es) ds
    → KeepsValues es ds
values-of kept.Total es ds k = absurd k
values-of kept.Values es ds k = k

pub total-follows : (t u : Total) (cs ds : List Datum) → (KeepsTotal t cs → KeepsTotal u ds) → (form : AccumulatorForm)
    → KeepsCells form (tally.Total t) cs → KeepsCells form (tally.Total u) ds
total-follows t u cs ds f kept.Total k = f k
total-follows t u cs ds f kept.Values k = absurd k

pub values-follow : (es fs : List (Key × ℕ)) (cs ds : List Datum) → (KeepsValues es cs → KeepsValues fs ds)
    → (form : AccumulatorForm) → KeepsCells form (tally.Values es) cs → KeepsCells form (tally.Values fs) ds
values-follow es fs cs ds f kept.Total k = absurd k
values-follow es fs cs ds f kept.Values k = f k

-- The same of what holds of two tallies of one form.

pub totals-join : (form : AccumulatorForm) (t u v : Total) (cs ds es : List Datum)
    → (KeepsTotal t cs → KeepsTotal u ds → KeepsTotal v es) → KeepsCells form (tally.Total t) cs
    → KeepsCells form (tally.Total u) ds → KeepsCells form (tally.Total v) es
totals-join kept.Total t u v cs ds es f k l = f k l
totals-join kept.Values t u v cs ds es f k l = absurd k

pub values-join : (form : AccumulatorForm) (xs ys zs : List (Key × ℕ)) (cs ds es : List Datum)
    → (KeepsValues xs cs → KeepsValues ys ds → KeepsValues zs es) → KeepsCells form (tally.Values xs) cs
    → KeepsCells form (tally.Values ys) ds → KeepsCells form (tally.Values zs) es
values-join kept.Total xs ys zs cs ds es f k l = absurd k
values-join kept.Values xs ys zs cs ds es f k l = f k l

pub not-both : (form : AccumulatorForm) (t : Total) (xs : List (Key × ℕ)) (cs ds : List Datum)
    → KeepsCells form (tally.Total t) cs → KeepsCells form (tally.Values xs) ds → ⊥
not-both kept.Total t xs cs ds k l = l
not-both kept.Values t xs cs ds k l = k
