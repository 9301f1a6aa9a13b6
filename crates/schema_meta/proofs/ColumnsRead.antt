-- The columns of a schema, as they are read: first counted, then read, then weighed.
use Rattle.std.proofs.Common.{◌≡◌, ℕ, ◌+◌, ◌<◌, true, false, List, Ok, refl, arith}
use Rattle.std.specs.Prelude.{nat_le}
use Rattle.std.proofs.lemmas.Bool.{le-leb, lt-leb}
use Rattle.flatbuf.specs.Layout.{Vector}
use Rattle.values.specs.Limits.{max_fields, max_depth}
use Rattle.values.specs.Reading.{Reading, ◌>>=◌, second, FailsWith, Fails}
use Rattle.values.specs.Rose.{Rose}
use Rattle.values.specs.declared.faults.StreamFault.{StreamFault}
use Rattle.values.specs.declared.faults.StreamFault.TheVariants as fault
use Rattle.values.proofs.Readings.{both_left, both_right, fails_right, fails_first}
use Rattle.schema_meta.specs.Entry.{Entry}
use Rattle.field_types.specs.Reads.{needs, checked}
use Rattle.schema_meta.specs.Fields.{forest}
use Rattle.schema_meta.specs.FieldLayouts.{layouts_of, null_weights_fit}
use Rattle.schema_meta.specs.Dictionaries.{are_consistent}
use Rattle.schema_meta.specs.Totals.{total}
use Rattle.schema_meta.specs.Schema.{columns_of, validated_fields}
use Rattle.schema_meta.proofs.Faults.{bind_right, needs_stands, checked_stands}
use Rattle.schema_meta.proofs.FieldFacts.{few_read}

pub too_many : (v : Vector) → max_fields < total max_depth v → FailsWith (columns_of v) fault.TooManyFields
unfolding columns_of
too_many v many =
    both_left second (needs fault.TooManyFields (nat_le (total max_depth v) max_fields)) (forest max_depth v
    >>= validated_fields) fault.TooManyFields
    (needs_stands fault.TooManyFields (nat_le (total max_depth v) max_fields) fault.TooManyFields
    (lt-leb (total max_depth v) max_fields many) refl)

pub not_read : (v : Vector) (c : StreamFault) → Fails c (forest max_depth v) → Fails c (columns_of v)
unfolding columns_of
not_read v c fails =
    fails_right second (needs fault.TooManyFields (nat_le (total max_depth v) max_fields)) (forest max_depth v
    >>= validated_fields) c
    (fails_first (forest max_depth v) validated_fields c fails)

abbrev slot_test : List (Rose Entry) → Reading (Unit {0})
slot_test fs = needs fault.BadType (null_weights_fit (layouts_of fs))

abbrev clear_test : List (Rose Entry) → Reading (List (Rose Entry))
clear_test fs = checked fault.DictionaryClash (are_consistent fs) fs

invalid_fields : (v : Vector) (c : StreamFault) (fs : List (Rose Entry)) → forest max_depth v ≡ Ok fs
    → FailsWith (validated_fields fs) c
    → FailsWith (columns_of v) c
unfolding columns_of
invalid_fields v c fs read h =
    both_right second (needs fault.TooManyFields (nat_le (total max_depth v) max_fields)) (forest max_depth v
    >>= validated_fields) c (bind_right (forest max_depth v) validated_fields c fs read h)

pub too_wide : (v : Vector) (fs : List (Rose Entry)) → forest max_depth v ≡ Ok fs
    → null_weights_fit (layouts_of fs) ≡ false → FailsWith (columns_of v) fault.BadType
unfolding validated_fields
too_wide v fs read wide =
    invalid_fields v fault.BadType fs read
    (both_left second (slot_test fs) (clear_test fs) fault.BadType
    (needs_stands fault.BadType (null_weights_fit (layouts_of fs)) fault.BadType wide refl))

pub clashing : (v : Vector) (fs : List (Rose Entry)) → forest max_depth v ≡ Ok fs → are_consistent fs ≡ false
    → FailsWith (columns_of v) fault.DictionaryClash
unfolding validated_fields
clashing v fs read unclear =
    invalid_fields v fault.DictionaryClash fs read
    (both_right second (slot_test fs) (clear_test fs) fault.DictionaryClash
    (checked_stands fault.DictionaryClash (are_consistent fs) fs fault.DictionaryClash unclear refl))

pub all_read :
    (v : Vector) (fs : List (Rose Entry)) (left : ℕ) → left + total max_depth v ≡ max_fields
    → forest max_depth v ≡ Ok fs → null_weights_fit (layouts_of fs) ≡ true
    → are_consistent fs ≡ true → columns_of v ≡ Ok fs
unfolding columns_of validated_fields
all_read v fs left few read null_weight_within-is clear-is =
    let test : nat_le (total max_depth v) max_fields ≡ true =
    le-leb (total max_depth v) max_fields (omega (arith, few)) in
    rw (test, read, null_weight_within-is, clear-is) refl

pub ruleset columns_read = (too_many, not_read, too_wide, clashing, all_read, few_read)
