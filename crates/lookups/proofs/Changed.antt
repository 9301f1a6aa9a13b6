-- What is stored when one row changes.
use Rattle.view_lang.proofs.ExactKeys.{key_exact}
use Rattle.lookups.specs.Keeping.{Keeps, holds, is_key, key_held}
use Rattle.lookups.specs.Refers.{RowsByKey, found_at, is_among, key_cmp, numbers_in, refers}
use Rattle.std.proofs.Common.{◌≡◌, refl, ap, sym, ◌∙◌, subst}
use Rattle.std.proofs.lemmas.Bool.{eq-eqb, eqb-true}
use Rattle.std.proofs.lemmas.Map.Lookups.{exact_unsigned}
use Rattle.std.specs.BTreeMap.{is_at}
use Rattle.std.specs.Cmp.{Equal-is, nat_cmp_total, tied_itself}
use Rattle.std.specs.List.Sorted.{IsStrictlySortedBy}
use Rattle.std.specs.Map.{keys_of}
use Rattle.std.specs.Ordering.{is_eq, nat_cmp}
use Rattle.std.specs.Prelude.{◌==◌, ◌&&◌, ℕ, Bool, true, false, cond, List, Option, Some}
use Rattle.values.specs.CellViews.{shallow, viewed}
use Rattle.values.specs.Datum.{Datum}
use Rattle.values.specs.Keys.{key_of}
use Rattle.values.specs.declared.cell_view.CellView.{CellView}
use Rattle.values.specs.declared.key.Key.{Key}
use Rattle.values.proofs.ShallowLemmas.{key_of-shallow}
use Rattle.view_lang.specs.Cells.{cell_at}
use Rattle.view_lang.specs.Counted.{lookup-with_at}
use Rattle.view_lang.specs.Shifts.{NumberedRows, row_at, with_at}

-- where one number is added to those of one key, or removed
module _ (old new : RowsByKey) (held : Key) (m : ℕ) (b : Bool)
    (here : (n : ℕ) → refers new held n ≡ cond (n == m) b (refers old held n))
    (others : (k : Key) → is_at (key_cmp held) k ≡ false → found_at new k ≡ found_at old k) where
  at-by : (k : Key) (n : ℕ) (at : Bool) → is_at (key_cmp held) k ≡ at
      → refers new k n ≡ cond (at && n == m) b (refers old k n)
  at-by k n true e =
      subst (λ (x : Key). refers new x n ≡ cond (n == m) b (refers old x n))
      (key_exact held k ((Equal-is (key_cmp held k)).0 e)) (here n)
  at-by k n false e = ap (λ (found : Option (List ℕ)). is_among (numbers_in found) n) (others k e)

  pub refers-at : (o : Option Key) → o ≡ Some held → (k : Key) (n : ℕ)
      → refers new k n ≡ cond (is_key k o && n == m) b (refers old k n)
  refers-at o h k n =
      at-by k n (is_at (key_cmp held) k) refl
      ∙ ap (λ (o : Option Key). cond (is_key k o && n == m) b (refers old k n)) (sym h)

-- the key in a cell, read where it lies
pub key-seen : (cell : CellView) (held : Datum) → viewed cell ≡ shallow held → key_of (viewed cell) ≡ key_of held
key-seen cell held h = ap key_of h ∙ key_of-shallow held

-- the key of a row's first cell is the one that the row holds
pub held-at : (cell : CellView) (row : Option (List Datum)) (cells : List Datum) → row ≡ Some cells
    → viewed cell ≡ shallow (cell_at cells 0) → key_of (viewed cell) ≡ key_held row
held-at cell row cells is h = key-seen cell (cell_at cells 0) h ∙ sym (ap key_held is)

-- first the row before is deleted, then that after it inserted
abbrev pub moved : Bool → Bool → Bool → Bool → Bool
moved before after at there = cond (after && at) true (cond (before && at) false there)

own : (x y : Bool) → moved x y true x ≡ y
own true true = refl
own true false = refl
own false true = refl
own false false = refl

other : (x y z : Bool) → moved x y false z ≡ z
other true true z = refl
other true false z = refl
other false true z = refl
other false false z = refl

module _ (n : ℕ) (before after : Option (List Datum)) (rows : NumberedRows)
    (s : IsStrictlySortedBy nat_cmp (keys_of rows)) (is : row_at n rows ≡ before) (k : Key) (m : ℕ) where
  one-by : (b : Bool) → (m == n) ≡ b
      → moved (holds k before) (holds k after) b (holds k (row_at m rows)) ≡ holds k (row_at m (with_at n after rows))
  one-by true h =
      let same : m ≡ n = eqb-true m n h in
      let there : row_at m rows ≡ before = subst (λ (x : ℕ). row_at x rows ≡ before) (sym same) is in
      let at : is_at (nat_cmp n) m ≡ true =
      subst (λ (x : ℕ). is_at (nat_cmp n) x ≡ true) (sym same) (ap is_eq (tied_itself nat_cmp_total n)) in
      ap (λ (r : Option (List Datum)). moved (holds k before) (holds k after) true (holds k r)) there
      ∙ own (holds k before) (holds k after)
      ∙ sym (ap (holds k) (lookup-with_at n m after rows s
      ∙ ap (λ (b : Bool). cond b after (row_at m rows)) at))
  one-by false h =
      other (holds k before) (holds k after) (holds k (row_at m rows))
      ∙ sym (ap (holds k) (lookup-with_at n m after rows s
      ∙ ap (λ (b : Bool). cond b after (row_at m rows)) (apart (is_at (nat_cmp n) m) refl)))
    where
      apart : (b : Bool) → is_at (nat_cmp n) m ≡ b → is_at (nat_cmp n) m ≡ false
      apart true e =
          let same : n ≡ m = exact_unsigned n m ((Equal-is (nat_cmp n m)).0 e) in
          let yes : (m == n) ≡ true = eq-eqb m n (sym same) in
          absurd (cc)
      apart false e = e

  pub one : moved (holds k before) (holds k after) (m == n) (holds k (row_at m rows))
      ≡ holds k (row_at m (with_at n after rows))
  one = one-by (m == n) refl

pub keeps-one : (old mid new : RowsByKey) (n : ℕ) (before after : Option (List Datum)) (rows : NumberedRows)
    → ((k : Key) (m : ℕ) → refers mid k m ≡ cond (holds k before && m == n) false (refers old k m))
    → ((k : Key) (m : ℕ) → refers new k m ≡ cond (holds k after && m == n) true (refers mid k m))
    → IsStrictlySortedBy nat_cmp (keys_of rows) → row_at n rows ≡ before → Keeps old rows
    → Keeps new (with_at n after rows)
keeps-one old mid new n before after rows gone come s is kept = record {
  rows_are = λ k m.
      come k m
      ∙ ap (λ (b : Bool). cond (holds k after && m == n) true b)
      (gone k m ∙ ap (λ (b : Bool). cond (holds k before && m == n) false b) (kept.rows_are k m))
      ∙ one n before after rows s is k m;
}

-- What holds of the key of a cell holds of the row that has it.
module _ (old new : RowsByKey) (n : ℕ) (b : Bool) (o : Option Key) (row : Option (List Datum)) (h : o ≡ key_held row)
    (f : (k : Key) (m : ℕ) → refers new k m ≡ cond (is_key k o && m == n) b (refers old k m)) where
  pub said-of-row : (k : Key) (m : ℕ) → refers new k m ≡ cond (holds k row && m == n) b (refers old k m)
  said-of-row k m = f k m ∙ ap (λ (o : Option Key). cond (is_key k o && m == n) b (refers old k m)) h
