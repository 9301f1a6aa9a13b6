-- Rows counted by sub-groups that are out, and that aren't.
use Rattle.std.proofs.Common.{
  ◌≡◌,
  ℕ,
  ◌+◌,
  Bool,
  true,
  false,
  cond,
  not,
  ◌||◌,
  List,
  [],
  ◌∷◌,
  Option,
  None,
  Some,
  count_by,
  refl,
  sym,
  ap,
  ◌∙◌,
  arith,
  true≢false,
}
use Rattle.std.proofs.lemmas.List.Sums.{sum_by-cons}
use Rattle.std.specs.BTreeMap.{is_at}
use Rattle.std.specs.Cmp.{eq_by_cmp_equiv}
use Rattle.std.specs.List.{cons_option, filter, filter_map, list_any}
use Rattle.values.specs.Datum.{Datum}
use Rattle.values.specs.declared.key.Key.{Key}
use Rattle.group_state.specs.Keys.{tuple_cmp, tuple_total}
use Rattle.group_state.specs.Tuples.{has_tuple, members, tuple_of}
use Rattle.group_state.proofs.Members.{same_tuple}
use Rattle.sub_groups.specs.SubGroups.{SubGroupsPart, rows_but}

abbrev count_option : (p : List Datum → Bool) → Option (List Datum) → ℕ
count_option p None = 0
count_option p (Some row) = cond (p row) 1 0

count_more : (p : List Datum → Bool) (o : Option (List Datum)) (rows : List (List Datum))
    → count_by p (cons_option o rows) ≡ count_option p o + count_by p rows
count_more p None rows = omega arith
count_more p (Some row) rows = sum_by-cons (λ r. cond (p r) 1 0) row rows

module _ (keys : List ℕ) (make : List Datum → Option (List Datum)) (t : List Key) (out now : List (List Key))
    (apart : list_any (is_at (tuple_cmp t)) out ≡ false)
    (more : (u : List Key) → list_any (is_at (tuple_cmp u)) now
    ≡ (list_any (is_at (tuple_cmp u)) out || is_at (tuple_cmp u) t)) where
  abbrev is_out : List Datum → Bool
  is_out row = list_any (is_at (tuple_cmp (tuple_of keys row))) out

  -- of one row: it is out, of the sub-group, or neither
  step :
      (p : List Datum → Bool) (row : List Datum) (rows : List (List Datum)) (a b c : Bool)
      → (a ≡ true → b ≡ false) → c ≡ (a || b)
      → count_by p (filter_map make (rows_but keys out rows))
      ≡ count_by p (filter_map make (members keys t rows)) + count_by p (filter_map make (rows_but keys now rows))
      → count_by p (filter_map make (cond (not a) (row ∷ rows_but keys out rows) (rows_but keys out rows)))
      ≡ count_by p (filter_map make (cond b (row ∷ members keys t rows) (members keys t rows)))
      + count_by p (filter_map make (cond (not c) (row ∷ rows_but keys now rows) (rows_but keys now rows)))
  step p row rows true true c disjoint e rest = absurd (true≢false (disjoint refl))
  step p row rows true false true disjoint e rest = rest
  step p row rows true false false disjoint e rest = absurd (true≢false (sym e))
  step p row rows false true true disjoint e rest =
      let one = count_more p (make row) (filter_map make (rows_but keys out rows)) in
      let two = count_more p (make row) (filter_map make (members keys t rows)) in omega (arith, one, two, rest)
  step p row rows false true false disjoint e rest = absurd (true≢false (sym e))
  step p row rows false false true disjoint e rest = absurd (true≢false e)
  step p row rows false false false disjoint e rest =
      let one = count_more p (make row) (filter_map make (rows_but keys out rows)) in
      let two = count_more p (make row) (filter_map make (rows_but keys now rows)) in omega (arith, one, two, rest)

  disjoint_by : (row : List Datum) → is_out row ≡ true → (b : Bool) → has_tuple keys t row ≡ b → b ≡ false
  disjoint_by row h true e =
      absurd (true≢false (sym h ∙ ap (λ u. list_any (is_at (tuple_cmp u)) out)
      (sym (same_tuple t (tuple_of keys row) e)) ∙ apart))
  disjoint_by row h false e = refl

  parted : (p : List Datum → Bool) (rows : List (List Datum))
      → count_by p (filter_map make (rows_but keys out rows))
      ≡ count_by p (filter_map make (members keys t rows)) + count_by p (filter_map make (rows_but keys now rows))
  parted p [] = refl
  parted p (row ∷ rows) =
      step p row rows (is_out row) (has_tuple keys t row) (list_any (is_at (tuple_cmp (tuple_of keys row))) now)
      (λ h. disjoint_by row h (has_tuple keys t row) refl)
      (more (tuple_of keys row)
      ∙ ap (λ b. is_out row || b) ((eq_by_cmp_equiv tuple_total).symm (tuple_of keys row) t))
      (parted p rows)

pub sub_groups_part : SubGroupsPart
sub_groups_part keys make rows t out now apart more p = parted keys make t out now apart more p rows
