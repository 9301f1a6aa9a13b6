-- Views that are written from where their columns are stored.
use Rattle.std.proofs.Common.{◌≡◌, ℕ, List, ap, length, sym, ◌∙◌}
use Rattle.std.specs.Prelude.{map}
use Rattle.std.proofs.lemmas.List.{length-map}
use Rattle.values.specs.Logical.{NamedType}
use Rattle.values.specs.Rose.{Rose}
use Rattle.view_lang.specs.Config.{Table, View}
use Rattle.view_lang.specs.Outputs.{Output, Outputs, columns}
use Rattle.view_lang.specs.ViewColumns.{joined_columns, output_field, output_fields, view_columns}

-- as many columns as the view has
pub stored_many :
    (tables : List Table) (v : View) (outputs : List Output) (cs : List ℕ) (fields : List (Rose NamedType))
    → v.outputs ≡ columns outputs → cs ≡ map (λ o. o.column) outputs → fields ≡ view_columns tables v
    → length cs ≡ length fields
stored_many tables v outputs cs fields plain columns_are fields_are =
    let joined : List (Rose NamedType) = joined_columns tables v.lookup in
    ap length columns_are ∙ length-map outputs (λ (o : Output). o.column)
    ∙ sym (ap length fields_are ∙ ap (λ (os : Outputs). length (output_fields joined os)) plain
    ∙ length-map outputs (output_field joined))
