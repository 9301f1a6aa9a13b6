-- A message as contracts see it.
use Rattle.std.specs.Prelude.{ℕ, List, refl}
use Rattle.std.specs.Coded.{Coded, code_by, coded×, coded_list, coded_ℕ}
use Rattle.values.specs.Rose.{Rose, rose_code}
use Rattle.schema_meta.specs.Entry.{Entry, entry_code}
use Rattle.schema_meta.specs.contracts.header.Header.{the_row}
use Rattle.schema_meta.specs.declared.header.Header.{Header}

pub record MessageView : Type 0 where
  -- the columns of the stream once it is there
  pub schema : List (Rose Entry)
  pub header : Header
  pub body : List ℕ

abbrev pub view_code : Coded MessageView
view_code =
    code_by (List (Rose Entry) × (Header × List ℕ))
    (coded× (coded_list (rose_code entry_code)) (coded× the_row.coded (coded_list coded_ℕ)))
    (λ m. (m.schema, (m.header, m.body))) (λ p. record { schema = p.0; header = p.1.0; body = p.1.1 }) (λ _. refl)
