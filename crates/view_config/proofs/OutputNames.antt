-- Outputs by their names.
use Rattle.std.proofs.Common.{◌≡◌, ℕ, suc, ◌+◌, ◌-◌, ◌≤◌, List, [], ◌∷◌, get_or, map, refl, ap, sym, subst, ◌∙◌, arith, Option, Some, None, Ok, Err, Bool, true, false}
use Rattle.std.specs.Prelude.{if◌then◌else◌}
use Rattle.std.specs.Str.{bytes_eq}
use Rattle.values.specs.Logical.{NamedType}
use Rattle.values.specs.Reading.{one}
use Rattle.values.specs.Rose.{Rose}
use Rattle.view_lang.specs.Filter.{Filter}
use Rattle.view_lang.specs.Outputs.{GroupOutput, Output, Outputs, columns, groups}
use Rattle.view_lang.specs.TableRules.{type_of}
use Rattle.view_lang.specs.ViewColumns.{output_fields}
use Rattle.view_lang.specs.Fields.{field_at, no_field}
use Rattle.view_config.specs.Columns.{find, find_name, has_order, name_of}
use Rattle.view_config.specs.Outputs.{names_of}
use Rattle.view_config.specs.Tables.{key_of, ordered_column}
use Rattle.view_config.specs.declared.faults.ConfigFault.TheVariants as fault
use Rattle.view_config.proofs.RenamedFields.{renamed-name}
use Rattle.view_config.proofs.AggregateCases.{aggregate-name}

columns-names : (fields : List (Rose NamedType)) (os : List Output)
    → map name_of (output_fields fields (columns os)) ≡ map (λ o. o.name) os
columns-names fields [] = refl
columns-names fields (o ∷ os) =
    ap (λ n. n ∷ map name_of (output_fields fields (columns os))) (renamed-name o.name (field_at fields o.column))
    ∙ ap (λ ns. o.name ∷ ns) (columns-names fields os)

groups-names : (fields : List (Rose NamedType)) (by : List ℕ) (os : List GroupOutput) (having : Option Filter)
    → map name_of (output_fields fields (groups by os having)) ≡ map (λ o. o.name) os
groups-names fields by [] having = refl
groups-names fields by (o ∷ os) having =
    ap (λ n. n ∷ map name_of (output_fields fields (groups by os having))) (aggregate-name fields by o.name o.aggregate)
    ∙ ap (λ ns. o.name ∷ ns) (groups-names fields by os having)

fields-names : (fields : List (Rose NamedType)) (os : Outputs) → map name_of (output_fields fields os) ≡ names_of os
fields-names fields (columns os) = columns-names fields os
fields-names fields (groups by os having) = groups-names fields by os having

-- A column is found by its name where the name is.
found-none :
    (i : ℕ) (n : List ℕ) (cs : List (Rose NamedType)) → find_name i n (map name_of cs) ≡ None
    → find i n cs ≡ None
found-none i n [] e = refl
found-none i n (c ∷ cs) e = other (bytes_eq (name_of c) n) e (found-none (i + 1) n cs)
  where
    other : (b : Bool) → (if b then Some i else find_name (i + 1) n (map name_of cs)) ≡ None
        → (find_name (i + 1) n (map name_of cs) ≡ None → find (i + 1) n cs ≡ None)
        → (if b then Some (i, c) else find (i + 1) n cs) ≡ None
    other true e h = cc
    other false e h = h e

found-some : (i : ℕ) (n : List ℕ) (cs : List (Rose NamedType)) (k : ℕ) → find_name i n (map name_of cs) ≡ Some k
    → (i ≤ k) × (find i n cs ≡ Some (k, get_or cs (k - i) no_field))
found-some i n [] k e = cc
found-some i n (c ∷ cs) k e = here (bytes_eq (name_of c) n) e (found-some (i + 1) n cs k)
  where
    here : (b : Bool) → (if b then Some i else find_name (i + 1) n (map name_of cs)) ≡ Some k
        → (find_name (i + 1) n (map name_of cs) ≡ Some k
        → (i + 1 ≤ k) × (find (i + 1) n cs ≡ Some (k, get_or cs (k - (i + 1)) no_field)))
        → (i ≤ k) × ((if b then Some (i, c) else find (i + 1) n cs) ≡ Some (k, get_or (c ∷ cs) (k - i) no_field))
    here true e h =
        let same : i ≡ k = cc in
        let none : k - i ≡ 0 = omega (arith, same) in
        (omega (arith, same), rw none (ap (λ (j : ℕ). Some (j, c)) same))
    here false e h =
        let rest = h e in
        let next : k - i ≡ suc (k - (i + 1)) = omega (arith, rest.0) in
        (omega (arith, rest.0), rw next rest.1)

-- what an order says of outputs, by their names
pub key-none :
    (fields : List (Rose NamedType)) (os : Outputs) (n : List ℕ) → find_name 0 n (names_of os) ≡ None
    → key_of (output_fields fields os) n ≡ Err (one fault.UnknownName)
unfolding ordered_column
key-none fields os n e =
    let none = found-none 0 n (output_fields fields os)
    (subst (λ (ns : List (List ℕ)). find_name 0 n ns ≡ None) (sym (fields-names fields os)) e) in
    rw none refl

pub key-some :
    (fields : List (Rose NamedType)) (os : Outputs) (n : List ℕ) (k : ℕ) → find_name 0 n (names_of os) ≡ Some k
    → has_order (type_of (field_at (output_fields fields os) k)) ≡ true → key_of (output_fields fields os) n ≡ Ok k
unfolding ordered_column
key-some fields os n k e h =
    let found = found-some 0 n (output_fields fields os) k
    (subst (λ (ns : List (List ℕ)). find_name 0 n ns ≡ Some k) (sym (fields-names fields os)) e) in
    let place : k - 0 ≡ k = omega arith in
    let there : find 0 n (output_fields fields os) ≡ Some (k, field_at (output_fields fields os) k) =
    found.1 ∙ ap (λ (j : ℕ). Some (k, get_or (output_fields fields os) j no_field)) place in
    rw there (rw h refl)

pub key-unordered :
    (fields : List (Rose NamedType)) (os : Outputs) (n : List ℕ) (k : ℕ) → find_name 0 n (names_of os) ≡ Some k
    → has_order (type_of (field_at (output_fields fields os) k)) ≡ false
    → key_of (output_fields fields os) n ≡ Err (one fault.OrderType)
unfolding ordered_column
key-unordered fields os n k e h =
    let found = found-some 0 n (output_fields fields os) k
    (subst (λ (ns : List (List ℕ)). find_name 0 n ns ≡ Some k) (sym (fields-names fields os)) e) in
    let place : k - 0 ≡ k = omega arith in
    let there : find 0 n (output_fields fields os) ≡ Some (k, field_at (output_fields fields os) k) =
    found.1 ∙ ap (λ (j : ℕ). Some (k, get_or (output_fields fields os) j no_field)) place in
    rw there (rw h refl)

pub ruleset naming_outputs = (key-none, key-some, key-unordered)
