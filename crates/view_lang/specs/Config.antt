-- A configuration as contracts see it.
use Rattle.std.specs.Prelude.{ℕ, List, ◌∷◌, Option, map, refl}
use Rattle.std.specs.Coded.{Coded, code_by, coded×, coded_ℕ, coded_list, coded_option}
use Rattle.values.specs.Rose.{Rose, rose_code}
use Rattle.values.specs.Logical.{NamedType, logical_code}
use Rattle.view_lang.specs.Filter.{Filter, filter_code}
use Rattle.view_lang.specs.contracts.config.Role as role_type
use Rattle.view_lang.specs.contracts.view.Lookup as lookup_type
use Rattle.view_lang.specs.contracts.view.OrderBy as order_type
use Rattle.view_lang.specs.declared.config.Role.{Role}
use Rattle.view_lang.specs.declared.view.Lookup.{Lookup}
use Rattle.view_lang.specs.declared.view.OrderBy.{OrderBy}
use Rattle.view_lang.specs.Outputs.{Outputs, outputs_code}

-- a table: the number of its key column, how many rows may be live, and its columns
pub record Table : Type 0 where
  pub key : ℕ
  pub max_rows : ℕ
  pub columns : List (Rose NamedType)

pub record SideTable : Type 0 where
  pub name : List ℕ
  pub table : Table

-- a feed, and what its batches do
pub record FeedConfig : Type 0 where
  pub name : List ℕ
  pub role : Role

pub record View : Type 0 where
  pub name : List ℕ
  pub lookup : Option Lookup
  pub filter : Option Filter
  pub outputs : Outputs
  pub order : List OrderBy
  pub first : Option ℕ
  pub coded_outputs : List ℕ

pub record Config : Type 0 where
  pub main : Table
  pub sides : List SideTable
  pub feeds : List FeedConfig
  pub views : List View

-- Each is stored as the tuple of its parts.

abbrev pub table_code : Coded Table
table_code =
    code_by (ℕ × (ℕ × List (Rose NamedType))) (coded× coded_ℕ (coded× coded_ℕ (coded_list (rose_code logical_code))))
    (λ t. (t.key, (t.max_rows, t.columns))) (λ p. record { key = p.0; max_rows = p.1.0; columns = p.1.1 }) (λ _. refl)

abbrev pub side_code : Coded SideTable
side_code =
    code_by (List ℕ × Table) (coded× (coded_list coded_ℕ) table_code) (λ s. (s.name, s.table))
    (λ p. record { name = p.0; table = p.1 }) (λ _. refl)

abbrev pub feed_code : Coded FeedConfig
feed_code =
    code_by (List ℕ × Role) (coded× (coded_list coded_ℕ) role_type.the_row.coded) (λ f. (f.name, f.role))
    (λ p. record { name = p.0; role = p.1 }) (λ _. refl)

abbrev pub ViewParts : Type 0
ViewParts = List ℕ × (Option Lookup × (Option Filter × (Outputs × (List OrderBy × (Option ℕ × List ℕ)))))

abbrev pub view_code : Coded View
view_code =
    code_by ViewParts
    (coded× (coded_list coded_ℕ)
    (coded× (coded_option lookup_type.the_row.coded)
    (coded× (coded_option filter_code)
    (coded× outputs_code
    (coded× (coded_list order_type.the_row.coded) (coded× (coded_option coded_ℕ) (coded_list coded_ℕ)))))))
    (λ v. (v.name, (v.lookup, (v.filter, (v.outputs, (v.order, (v.first, v.coded_outputs)))))))
    (λ p. record {
      name = p.0;
      lookup = p.1.0;
      filter = p.1.1.0;
      outputs = p.1.1.1.0;
      order = p.1.1.1.1.0;
      first = p.1.1.1.1.1.0;
      coded_outputs = p.1.1.1.1.1.1;
    })
    (λ _. refl)

abbrev pub config_code : Coded Config
config_code =
    code_by (Table × (List SideTable × (List FeedConfig × List View)))
    (coded× table_code (coded× (coded_list side_code) (coded× (coded_list feed_code) (coded_list view_code))))
    (λ c. (c.main, (c.sides, (c.feeds, c.views))))
    (λ p. record { main = p.0; sides = p.1.0; feeds = p.1.1.0; views = p.1.1.1 }) (λ _. refl)

-- the tables by number, of which the first is the main table
abbrev pub tables_of : Config → List Table
tables_of c = c.main ∷ map (λ s. s.table) c.sides
