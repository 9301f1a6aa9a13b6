use Rattle.std.proofs.Common.{◌+◌, ◌∙◌, add-one, ap, arith, sym}
use Rattle.view_lang.specs.Config.{View}
use Rattle.upkeep.specs.Stores.{tables_in}
use Rattle.upkeep.specs.StoreLaws.{tables_length}
use Rattle.upkeep.proofs.TypedRows.{side_there, viewed_alone, viewed_joined}
use Rattle.upkeep.proofs.viewed.viewed_law.Goals as goal

pub returns-in-Some : goal.returns-in-Some
returns-in-Some c =
    let is = sym (ap (λ (v : View). v.lookup) c.view.view_is) ∙ c.in-Some.is in
    let many = tables_length c.args.stores.now in
    let there = side_there (tables_in c.args.stores.now) c.args.view.now.lookup c.in-Some.lookup
    c.requires.view.lookup is in
    viewed_joined c.args.stores.now c.args.view.now c.index-stores-0.result c.requires.right c.requires.view
    c.requires.main c.index-stores-0.is c.rows_law.ensures.held c.rows_law.ensures.table c.rows_law.ensures.few
    c.in-Some.lookup (c.in-Some.lookup.side + 1) c.index-stores-lookup.result is (add-one c.in-Some.lookup.side)
    c.index-stores-lookup.is (omega (arith, many, there)) c.rows_law-in-Some.ensures.held

pub returns-in_default : goal.returns-in_default
returns-in_default c =
    viewed_alone c.args.stores.now c.args.view.now c.index-stores-0.result c.requires.right c.requires.view
    c.requires.main c.index-stores-0.is c.rows_law.ensures.held c.rows_law.ensures.table c.rows_law.ensures.few
    (sym (ap (λ (v : View). v.lookup) c.view.view_is) ∙ c.in_default.is)
