use Rattle.std.proofs.Common.{◌≡◌, ◌∙◌, ◌∷◌, List, [], Option, None, Some, ap, arith, refl, subst, sym}
use Rattle.std.specs.Prelude.{◌<◌, IfSome, length}
use Rattle.std.specs.List.Sorted.{IsStrictlySortedBy}
use Rattle.std.specs.Map.{keys_of, values_of}
use Rattle.std.specs.Ordering.{nat_cmp}
use Rattle.values.specs.Datum.{Datum}
use Rattle.view_lang.specs.Limits.{max_appended_rows}
use Rattle.view_lang.specs.Shifts.{NumberedRows, row_at, with_at}
use Rattle.group_state.specs.Groups.{Keeps}
use Rattle.sub_groups.specs.SubGroups.{sub_row}
use Rattle.sub_groups.specs.declared.sub_groups.SubGroups.{SubGroups}
use Rattle.sub_groups.proofs.tests.followed.Goals as goal

-- The rows after the first was inserted, after the second, and after the third, where each is in a sub-group or not.
abbrev one : Option (List Datum) → NumberedRows
one a = with_at 0 a []

abbrev two : Option (List Datum) → Option (List Datum) → NumberedRows
two a b = with_at 1 b (with_at 0 a [])

abbrev three : Option (List Datum) → Option (List Datum) → Option (List Datum) → NumberedRows
three a b c = with_at 2 c (with_at 1 b (with_at 0 a []))

none-up : (rows : NumberedRows) → rows ≡ [] → IsStrictlySortedBy nat_cmp (keys_of rows)
unfolding IsStrictlySortedBy
none-up [] e = tt
none-up (r ∷ rs) e = absurd (cc)

one-up : (a : Option (List Datum)) → IsStrictlySortedBy nat_cmp (keys_of (one a))
unfolding IsStrictlySortedBy
one-up None = tt
one-up (Some x) = (tt, tt)

two-up : (a b : Option (List Datum)) → IsStrictlySortedBy nat_cmp (keys_of (two a b))
unfolding IsStrictlySortedBy
two-up None None = tt
two-up None (Some y) = (tt, tt)
two-up (Some x) None = (tt, tt)
two-up (Some x) (Some y) = ((refl, tt), (tt, tt))

three-up : (a b c : Option (List Datum)) → IsStrictlySortedBy nat_cmp (keys_of (three a b c))
unfolding IsStrictlySortedBy
three-up None None None = tt
three-up None None (Some z) = (tt, tt)
three-up None (Some y) None = (tt, tt)
three-up None (Some y) (Some z) = ((refl, tt), (tt, tt))
three-up (Some x) None None = (tt, tt)
three-up (Some x) None (Some z) = ((refl, tt), (tt, tt))
three-up (Some x) (Some y) None = ((refl, tt), (tt, tt))
three-up (Some x) (Some y) (Some z) = ((refl, (refl, tt)), ((refl, tt), (tt, tt)))

one-free : (a : Option (List Datum)) → row_at 1 (one a) ≡ None
one-free None = refl
one-free (Some x) = refl

two-free : (a b : Option (List Datum)) → row_at 2 (two a b) ≡ None
two-free None None = refl
two-free None (Some y) = refl
two-free (Some x) None = refl
two-free (Some x) (Some y) = refl

first-there : (a b c : Option (List Datum)) → row_at 0 (three a b c) ≡ a
first-there None None None = refl
first-there None None (Some z) = refl
first-there None (Some y) None = refl
first-there None (Some y) (Some z) = refl
first-there (Some x) None None = refl
first-there (Some x) None (Some z) = refl
first-there (Some x) (Some y) None = refl
first-there (Some x) (Some y) (Some z) = refl

one-few : (a : Option (List Datum)) → length (one a) < max_appended_rows
one-few None = omega arith
one-few (Some x) = omega arith

two-few : (a b : Option (List Datum)) → length (two a b) < max_appended_rows
two-few None None = omega arith
two-few None (Some y) = omega arith
two-few (Some x) None = omega arith
two-few (Some x) (Some y) = omega arith

pub come-requires : goal.come-requires
come-requires c =
    let kept : Keeps c.in-Some.made.groups [] =
    subst (λ (o : Option SubGroups). IfSome o (λ s. Keeps s.groups [])) c.in-Some.is c.in_ok-made.ensures.kept in
    ([], (kept, omega arith))

pub come-requires-2 : goal.come-requires-2
come-requires-2 c =
    let a = sub_row 4 c.args.view.now c.as_slice.result.now in
    let made : Keeps c.in-Some.made.groups [] =
    subst (λ (o : Option SubGroups). IfSome o (λ s. Keeps s.groups [])) c.in-Some.is c.in_ok-made.ensures.kept in
    let kept : Keeps c.come.new.self.groups (values_of (one a)) =
    c.in_ok-come.ensures.kept [] 0 (none-up [] refl) refl made in
    (one a, (kept, one-few a))

pub come-requires-3 : goal.come-requires-3
come-requires-3 c =
    let a = sub_row 4 c.args.view.now c.as_slice.result.now in
    let b = sub_row 4 c.args.view.now c.as_slice-2.result.now in
    let made : Keeps c.in-Some.made.groups [] =
    subst (λ (o : Option SubGroups). IfSome o (λ s. Keeps s.groups [])) c.in-Some.is c.in_ok-made.ensures.kept in
    let kept : Keeps c.come.new.self.groups (values_of (one a)) =
    c.in_ok-come.ensures.kept [] 0 (none-up [] refl) refl made in
    let after : Keeps c.come-2.new.self.groups (values_of (two a b)) =
    c.in_ok-come-2.ensures.kept (one a) 1 (one-up a) (one-free a) kept in
    (two a b, (after, two-few a b))

pub go-requires : goal.go-requires
go-requires c =
    let v = c.args.view.now in
    let a = sub_row 4 v c.as_slice.result.now in
    let b = sub_row 4 v c.as_slice-2.result.now in
    let d = sub_row 4 v c.as_slice-3.result.now in
    let made : Keeps c.in-Some.made.groups [] =
    subst (λ (o : Option SubGroups). IfSome o (λ s. Keeps s.groups [])) c.in-Some.is c.in_ok-made.ensures.kept in
    let kept : Keeps c.come.new.self.groups (values_of (one a)) =
    c.in_ok-come.ensures.kept [] 0 (none-up [] refl) refl made in
    let after : Keeps c.come-2.new.self.groups (values_of (two a b)) =
    c.in_ok-come-2.ensures.kept (one a) 1 (one-up a) (one-free a) kept in
    let last : Keeps c.come-3.new.self.groups (values_of (three a b d)) =
    c.in_ok-come-3.ensures.kept (two a b) 2 (two-up a b) (two-free a b) after in (
      three a b d,
      0,
      (
        last,
        (
          three-up a b d,
          first-there a b d
              ∙ ap (λ cells. sub_row 4 v cells) (c.as_slice.ensures.value ∙ sym c.as_slice-4.ensures.value),
        ),
      ),
    )
