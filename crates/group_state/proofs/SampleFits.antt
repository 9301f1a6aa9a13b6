-- The sample change fits no rows, and a group of one row can move.
use Rattle.std.proofs.Common.{◌≡◌, [], ◌∷◌, ◌∙◌, ap, arith, refl, subst, sym}
use Rattle.std.proofs.lemmas.List.Elements.{All-cons}
use Rattle.std.specs.Prelude.{ℕ, cond, List, Some}
use Rattle.std.specs.BTreeMap.{is_at}
use Rattle.std.specs.Map.{keys_of, lookup}
use Rattle.std.specs.Ordering.{nat_cmp}
use Rattle.std.specs.List.Sorted.{IsStrictlySortedBy}
use Rattle.values.specs.Datum.{Datum}
use Rattle.values.specs.declared.key.Key.{Key}
use Rattle.view_lang.specs.Shifts.{Fits, NumberedRows, with_at}
use Rattle.group_state.specs.GroupCounts.{GroupCounts}
use Rattle.group_state.specs.Grouped.{Grouped}
use Rattle.group_state.specs.Groups.{Keeps, KeepsAt}
use Rattle.group_state.specs.Keys.{tuple_cmp}
use Rattle.group_state.specs.Moves.{AreTogether, IsPartOf}
use Rattle.group_state.specs.Rows.{KeepsRows}
use Rattle.group_state.specs.Sample.{sample_change}
use Rattle.group_state.specs.Tuples.{members, tuple_of}
use Rattle.group_state.specs.declared.accumulated_columns.AccumulatedColumn.{AccumulatedColumn}
use Rattle.group_state.proofs.Members.{tuple_itself}

pub sample-fits : Fits [] sample_change
unfolding IsStrictlySortedBy
sample-fits = record { ascending = tt; in_turn = (refl, (refl, (refl, (refl, (refl, (refl, tt)))))) }

-- Two rows are inserted, and the first of them can be deleted.
pub none-up : (rows : NumberedRows) → rows ≡ [] → IsStrictlySortedBy nat_cmp (keys_of rows)
unfolding IsStrictlySortedBy
none-up [] e = tt
none-up (r ∷ rs) e = absurd (cc)

pub one-up : (x : List Datum) → IsStrictlySortedBy nat_cmp (keys_of (with_at 0 (Some x) []))
unfolding IsStrictlySortedBy
one-up x = (tt, tt)

pub two-up : (x y : List Datum) → IsStrictlySortedBy nat_cmp (keys_of (with_at 1 (Some y) (with_at 0 (Some x) [])))
unfolding IsStrictlySortedBy
two-up x y = ((refl, tt), (tt, tt))

-- The group of one row is part of the rows that have this row.
pub part-of_one : (s : Grouped) (keys : List ℕ) (columns : List AccumulatedColumn) (t : List Key) (g : GroupCounts)
    (row : List Datum) (all others : List (List Datum)) → s.keys ≡ keys → s.columns ≡ columns → Keeps s (row ∷ [])
    → t ≡ tuple_of s.keys row → lookup (is_at (tuple_cmp t)) s.groups ≡ Some g → AreTogether all (row ∷ []) others
    → IsPartOf keys columns t g all (row ∷ []) others
part-of_one s keys columns t g row all others ks cs k same found together =
    let own : members s.keys t (row ∷ []) ≡ row ∷ [] =
    ap (λ u. cond (is_at (tuple_cmp t) u) (row ∷ []) []) (sym same)
    ∙ ap (λ b. cond b (row ∷ []) []) (tuple_itself t) in
    let at : KeepsAt s.columns (row ∷ []) (Some g) =
    subst (KeepsAt s.columns (row ∷ [])) found
    (subst (λ l. KeepsAt s.columns l (lookup (is_at (tuple_cmp t)) s.groups)) own (k.groups_are t)) in
    record {
      together = together;
      kept = subst (λ c. KeepsRows c g (row ∷ [])) cs at.1;
      tuple =
          All-cons (λ (r : List Datum). tuple_of keys r ≡ t) row []
          (ap (λ c. tuple_of c row) (sym ks) ∙ sym same) (λ i d l. absurd (omega (arith, l)));
      some = at.0;
    }
