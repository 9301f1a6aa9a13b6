-- What is found by its name is at its number.
use Rattle.std.proofs.Common.{◌≡◌, inl, inr, ℕ, suc, ◌+◌, ◌-◌, List, [], ◌∷◌, ◌++◌, length, ap, sym, subst, ◌∙◌, arith, Ok, Err, Some, Bool, true, false, slice_get}
use Rattle.std.specs.Prelude.{codes, if◌then◌else◌}
use Rattle.std.specs.Str.{bytes_eq}
use Rattle.std.proofs.lemmas.Option.{get_or_from_slice_get, slice_get_within}
use Rattle.toml.specs.Data.{as_str, Data, string, integer, float, boolean, datetime, array, table, Items}
use Rattle.values.specs.ColTypes.{IsSingle}
use Rattle.values.specs.Reading.{must, one}
use Rattle.values.proofs.Readings.{mapped_Ok, must_Ok}
use Rattle.values.specs.Rose.{Rose}
use Rattle.values.specs.Logical.{NamedType}
use Rattle.values.specs.declared.col_type.ColType.{ColType}
use Rattle.values.specs.declared.col_type.ColType.TheVariants as col
use Rattle.view_lang.specs.Config.{SideTable}
use Rattle.view_lang.specs.Fields.{IsColumn, IsOrdered, no_field}
use Rattle.view_lang.specs.TableRules.{type_of}
use Rattle.view_config.specs.Aggregates.{sole_ordered, sole_reference}
use Rattle.view_config.specs.Columns.{find, has_order, name_of, ordered}
use Rattle.view_config.specs.Scope.{Column, Scope, behind, fields_of, main_column, ordered_reference, reference, reference_by, reference_in, side_column}
use Rattle.view_config.specs.Sides.{find_side, side_called}
use Rattle.view_config.specs.Tree.{pair, sole}
use Rattle.view_config.specs.declared.faults.ConfigFault.TheVariants as fault
use Rattle.view_config.specs.declared.scope.Rows.{Rows}
use Rattle.view_config.specs.declared.scope.Rows.TheVariants as rows
use Rattle.view_config.proofs.Joined.{get-left, get-right}
use Rattle.view_config.proofs.Readings.{bound, test_Ok, test_Some}

-- at its number, where the first has number i
abbrev IsFound : {X : Type 0} → ℕ → ℕ × X → List X → Type 0
IsFound i p xs = (k : ℕ) × (p.0 ≡ i + k) × (slice_get xs k ≡ Some p.1)

find-found :
    (i : ℕ) (n : List ℕ) (cs : List (Rose NamedType)) (p : Column) → find i n cs ≡ Some p → IsFound i p cs
find-found i n [] p e = cc
find-found i n (c ∷ cs) p e =
    elim (test_Some (bytes_eq (name_of c) n) (i, c) p (find (i + 1) n cs) e) [
      | inl a ↦
          let here : i ≡ p.0 = ap (λ (q : Column). q.0) a in
          let shown : c ≡ p.1 = ap (λ (q : Column). q.1) a in
          (0, omega (arith, here), ap (λ (f : Rose NamedType). Some f) shown)
      | inr b ↦ let r = find-found (i + 1) n cs p b in (suc r.0, omega (arith, r.1), r.2)
    ]

find_side-found :
    (i : ℕ) (n : List ℕ) (ss : List SideTable) (p : ℕ × SideTable) → find_side i n ss ≡ Some p → IsFound i p ss
find_side-found i n [] p e = cc
find_side-found i n (s ∷ ss) p e =
    elim (test_Some (bytes_eq s.name n) (i, s) p (find_side (i + 1) n ss) e) [
      | inl a ↦
          let here : i ≡ p.0 = ap (λ (q : ℕ × SideTable). q.0) a in
          let shown : s ≡ p.1 = ap (λ (q : ℕ × SideTable). q.1) a in
          (0, omega (arith, here), ap (λ (f : SideTable). Some f) shown)
      | inr b ↦ let r = find_side-found (i + 1) n ss p b in (suc r.0, omega (arith, r.1), r.2)
    ]

pub side-at : (ss : List SideTable) (n : List ℕ) (p : ℕ × SideTable) → side_called ss n ≡ Ok p
    → slice_get ss p.0 ≡ Some p.1
side-at ss n p e =
    let found = find_side-found 0 n ss p (must_Ok fault.UnknownName (find_side 0 n ss) p e) in
    let place : found.0 ≡ p.0 = omega (arith, found.1) in
    subst (λ (k : ℕ). slice_get ss k ≡ Some p.1) place found.2

-- the column of a number
abbrev pub IsAt : List (Rose NamedType) → Column → Type 0
IsAt fields c = slice_get fields c.0 ≡ Some c.1

pub found-at : (cs : List (Rose NamedType)) (n : List ℕ) (c : Column) → find 0 n cs ≡ Some c → IsAt cs c
found-at cs n c e =
    let found = find-found 0 n cs c e in
    let place : found.0 ≡ c.0 = omega (arith, found.1) in
    subst (λ (k : ℕ). slice_get cs k ≡ Some c.1) place found.2

at-left : (xs ys : List (Rose NamedType)) (c : Column) → IsAt xs c → IsAt (xs ++ ys) c
at-left xs ys c e = get-left xs ys c.0 (slice_get_within xs c.0 c.1 e) ∙ e

at-right : (xs ys : List (Rose NamedType)) (c : Column) → IsAt ys c → IsAt (xs ++ ys) (behind (length xs) c)
at-right xs ys c e =
    let place : length xs + c.0 - length xs ≡ c.0 = omega arith in
    get-right xs ys (length xs + c.0) (omega arith) ∙ ap (slice_get ys) place ∙ e

main-at : (s : Scope) (n : List ℕ) (c : Column) → main_column s n ≡ Ok c → IsAt (fields_of s) c
main-at s n c e = at-left s.main s.side c (found-at s.main n c (must_Ok fault.UnknownName (find 0 n s.main) c e))

behind-at : (s : Scope) (n : List ℕ) (c : Column) → side_column s n ≡ Ok c → IsAt (fields_of s) c
behind-at s n c e =
    let read = mapped_Ok (behind (length s.main)) (must fault.UnknownName (find 0 n s.side)) c e in
    let there = found-at s.side n read.0 (must_Ok fault.UnknownName (find 0 n s.side) read.0 read.1) in
    subst (IsAt (fields_of s)) read.2 (at-right s.main s.side read.0 there)

by-at :
    (s : Scope) (n : List ℕ) (c : Column) (a b : Bool)
    → (if a then main_column s n else if b then side_column s n else Err (one fault.Shape)) ≡ Ok c
    → IsAt (fields_of s) c
by-at s n c true b e = main-at s n c e
by-at s n c false true e = behind-at s n c e
by-at s n c false false e = cc

out-at : (s : Scope) (n : List ℕ) (c : Column) (a : Bool) → (if a then main_column s n else Err (one fault.Shape)) ≡ Ok c
    → IsAt (fields_of s) c
out-at s n c true e = main-at s n c e
out-at s n c false e = cc

word-at : (r : Rows) (s : Scope) (w n : List ℕ) (c : Column) → reference_by r s w n ≡ Ok c → IsAt (fields_of s) c
word-at rows.Joined s w n c e = by-at s n c (bytes_eq w (codes "main")) (bytes_eq w (codes "side")) e
word-at rows.Groups s w n c e = out-at s n c (bytes_eq w (codes "out")) e

in-at : (s : Scope) (ds : Items) (c : Column) → reference_in s ds ≡ Ok c → IsAt (fields_of s) c
unfolding reference_in
in-at s ds c e =
    bound (must fault.Shape (pair ds)) _ c e (λ parts a e1.
    bound (must fault.Shape (as_str parts.0)) _ c e1 (λ w b e2.
    bound (must fault.Shape (as_str parts.1)) _ c e2 (λ n d e3.
    word-at s.rows s w n c e3)))

pub reference-at : (s : Scope) (d : Data) (c : Column) → reference s d ≡ Ok c → IsAt (fields_of s) c
unfolding reference
reference-at s (string n) c e = main-at s n c e
reference-at s (array ds) c e = in-at s ds c e
reference-at s (integer z) c e = cc
reference-at s (float x) c e = cc
reference-at s (boolean b) c e = cc
reference-at s (datetime t) c e = cc
reference-at s (table ms) c e = cc

pub column-there : (fields : List (Rose NamedType)) (c : Column) → IsAt fields c → IsColumn fields c.0
column-there fields c e = slice_get_within fields c.0 c.1 e

pub order-single : (t : ColType) → has_order t ≡ true → IsSingle t
order-single col.Bool h = tt
order-single (col.Int w s) h = tt
order-single (col.Decimal p s) h = tt
order-single (col.Date u) h = tt
order-single (col.Time u) h = tt
order-single (col.Timestamp u z) h = tt
order-single (col.Duration u) h = tt
order-single (col.Utf8 o) h = tt
order-single (col.Binary o) h = tt
order-single (col.FixedSizeBinary w) h = tt
order-single (col.List o) h = cc
order-single col.Struct h = cc

pub ordered-same : (p c : Column) → ordered p ≡ Ok c → (p ≡ c) × (has_order (type_of p.1) ≡ true)
ordered-same p c e =
    let read = test_Ok (has_order (type_of p.1)) (Ok p) _ c e in
    let same : p ≡ c = let q = read.1 in cc in
    (same, read.0)

pub column-ordered :
    (fields : List (Rose NamedType)) (c : Column) → IsAt fields c → has_order (type_of c.1) ≡ true
    → IsOrdered fields c.0
column-ordered fields c e h =
    let here = get_or_from_slice_get fields c.0 c.1 no_field e in (
      column-there fields c e,
      subst (λ (f : Rose NamedType). IsSingle (type_of f)) (sym here) (order-single (type_of c.1) h),
    )

pub ordered-column :
    (fields : List (Rose NamedType)) (p c : Column) → IsAt fields p → ordered p ≡ Ok c → IsOrdered fields c.0
ordered-column fields p c at e =
    let order = ordered-same p c e in
    subst (λ (q : Column). IsOrdered fields q.0) order.0 (column-ordered fields p at order.1)

pub reference-ordered :
    (s : Scope) (d : Data) (c : Column) → ordered_reference s d ≡ Ok c → IsOrdered (fields_of s) c.0
unfolding ordered_reference
reference-ordered s d c e =
    bound (reference s d) ordered c e (λ p a e1. ordered-column (fields_of s) p c (reference-at s d p a) e1)

-- the column of a sole item
pub sole-at : (s : Scope) (ds : Items) (c : Column) → sole_reference s ds ≡ Ok c → IsAt (fields_of s) c
sole-at s ds c e = bound (must fault.Shape (sole ds)) (reference s) c e (λ d a e1. reference-at s d c e1)

pub sole-order : (s : Scope) (ds : Items) (c : Column) → sole_ordered s ds ≡ Ok c → IsOrdered (fields_of s) c.0
sole-order s ds c e =
    bound (must fault.Shape (sole ds)) (ordered_reference s) c e (λ d a e1. reference-ordered s d c e1)
