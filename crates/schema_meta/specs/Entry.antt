-- A stored field as contracts see it: a tree with an entry at each node, and the field's children below it.
use Rattle.std.specs.Prelude.{ℕ, Bool, List, Option, refl}
use Rattle.std.specs.Coded.{Coded, code_by, coded×, coded_ℕ, coded_bool, coded_list, coded_option}
use Rattle.values.specs.declared.col_type.ColType.{ColType}
use Rattle.values.specs.contracts.col_type.ColType.{the_row}
use Rattle.schema_meta.specs.declared.encoding.DictionaryEncoding.{DictionaryEncoding}
use Rattle.schema_meta.specs.contracts.encoding.DictionaryEncoding.{the_row as encoding_row}

pub record Entry : Type 0 where
  pub name : List ℕ
  pub nullable : Bool
  -- the type of its values
  pub stored : ColType
  pub encoding : Option DictionaryEncoding

abbrev pub entry_code : Coded Entry
entry_code =
    code_by (List ℕ × (Bool × (ColType × Option DictionaryEncoding)))
    (coded× (coded_list coded_ℕ) (coded× coded_bool (coded× the_row.coded (coded_option encoding_row.coded))))
    (λ e. (e.name, (e.nullable, (e.stored, e.encoding))))
    (λ p. record { name = p.0; nullable = p.1.0; stored = p.1.1.0; encoding = p.1.1.1 }) (λ _. refl)
