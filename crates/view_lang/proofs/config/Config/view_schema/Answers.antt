use Rattle.std.proofs.Common.{◌≡◌, IfOk, List, subst}
use Rattle.values.specs.Logical.{NamedType}
use Rattle.values.specs.Rose.{Rose}
use Rattle.view_lang.specs.Config.{tables_of}
use Rattle.view_lang.specs.ViewColumns.{view_columns}
use Rattle.view_lang.proofs.Fields.{logical_again, tables_right}
use Rattle.view_lang.proofs.config.Config.view_schema.Goals as goal

pub returns : goal.returns
returns c =
    let fields : List (Rose NamedType) = view_columns (tables_of c.args.self.now) c.args.view.now in
    let P : List (Rose NamedType) → Type 0 = λ fs. IfOk c.new.result (λ s. s.fields.items ≡ fs) in
    subst P
    (logical_again _ fields c.in_ok-view_fields.ensures
    (c.config_law.ensures.views (tables_of c.args.self.now) c.args.view.now
    (tables_right c.args.self.now c.requires.config) c.requires.view).logical)
    c.new.ensures
