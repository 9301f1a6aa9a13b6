use Rattle.std.proofs.Common.{◌≡◌, IfOk, List, subst}
use Rattle.values.specs.Logical.{NamedType}
use Rattle.values.specs.Rose.{Rose}
use Rattle.view_lang.specs.Config.{tables_of}
use Rattle.view_lang.specs.ViewColumns.{feed_columns}
use Rattle.view_lang.proofs.Fields.{feed_logical, logical_again}
use Rattle.view_lang.proofs.config.Config.feed_schema.Goals as goal

pub returns : goal.returns
returns c =
    let fields : List (Rose NamedType) = feed_columns (tables_of c.args.self.now) c.args.role in
    let P : List (Rose NamedType) → Type 0 = λ fs. IfOk c.new.result (λ s. s.fields.items ≡ fs) in
    subst P
    (logical_again _ fields c.in_ok-feed_fields.ensures
    (feed_logical c.args.self.now c.args.role c.requires.config c.requires.there))
    c.new.ensures
