-- The key of a batch of one row.
use Rattle.std.proofs.Common.{◌≡◌, All, false, true, List, [], ◌∷◌, Some, length, get_or, refl, ap, sym, subst, ◌||◌, arith, Err, None, Ok, true≢false}
use Rattle.std.specs.Prelude.{IsSome, OnOk, Option, Result}
use Rattle.std.proofs.lemmas.List.Elements.{All-head}
use Rattle.values.specs.Datum.{Datum, is_null, null}
use Rattle.values.specs.Keys.{key_of}
use Rattle.values.specs.Layouts.{Holds}
use Rattle.values.specs.Rose.{Rose}
use Rattle.values.specs.declared.key.Key.{Key}
use Rattle.values.specs.declared.layout.Layout.{Layout}
use Rattle.view_lang.specs.Causes.{any_among, has_null, has_repeated}
use Rattle.view_lang.specs.Contents.{is_among}
use Rattle.row_keys.specs.declared.faults.EditFault.{EditFault}
use Rattle.row_keys.specs.KeyColumns.{HoldsKeys, PushesKeys, StandAlone, fresh}
use Rattle.row_keys.specs.Numbers.{Numbered}
use Rattle.row_keys.proofs.KeyFacts.{key_datum}

one_key : (d : Datum) (o : Option Key) → key_of d ≡ o → IsSome o → is_null d ≡ false → StandAlone (d ∷ [])
unfolding has_null has_repeated any_among is_among
one_key d None is some given = absurd (true≢false (sym some))
one_key d (Some k) is some given = (
  fresh k ∷ [],
  record {
    keys = k ∷ [];
    are = ap (λ x. x ∷ []) (key_datum d k is);
    given = ap (λ b. b || false) given;
    single = refl;
    unused = refl;
    pushed = refl;
  },
)

pub stands_alone : (t : Rose Layout) (cells : List Datum) → length cells ≡ 1 → HoldsKeys t → All (Holds t) cells
    → is_null (get_or cells 0 null) ≡ false → StandAlone cells
stands_alone t [] one keys held given = absurd (omega (arith, one))
stands_alone t (d ∷ []) one keys held given =
    one_key d (key_of d) refl (keys d (All-head (Holds t) d [] held)) given
stands_alone t (d ∷ e ∷ ds) one keys held given = absurd (omega (arith, one))

pub null_alone : (cells : List Datum) → length cells ≡ 1 → is_null (get_or cells 0 null) ≡ true → has_null cells ≡ true
unfolding has_null
null_alone [] one is = absurd (omega (arith, one))
null_alone (d ∷ ds) one is = ap (λ b. b || has_null ds) is

-- what was pushed to no rows
pub on_ok_alone : (r : Result (Unit {0}) EditFault) (cells : List Datum) (none rows : List Numbered) → none ≡ []
    → OnOk r (PushesKeys cells none rows) → OnOk r (StandAlone cells)
on_ok_alone (Ok u) cells none rows is h = (rows, subst (λ xs. PushesKeys cells xs rows) is h)
on_ok_alone (Err e) cells none rows is h = h
