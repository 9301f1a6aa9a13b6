use Rattle.std.proofs.Common.{◌≡◌, List, ap, of_z, rules, subst, sym, to_z, ◌∙◌}
use Rattle.std.specs.Int.{w64}
use Rattle.values.specs.declared.key.Key.{Key}
use Rattle.values.specs.declared.key.Key.TheVariants.{Int}
use Rattle.row_keys.specs.KeyTable.{Inserts}
use Rattle.row_keys.specs.NumberKeys.{null_and}
use Rattle.row_keys.proofs.number_keys.NumberKeys.insert.Goals as goal

pub returns-clause-place : goal.returns-clause-place
returns-clause-place c =
    let new = null_and c.insert_number.new.numbers.keys in
    let same : to_z w64 (of_z w64 c.in-Some.number) ≡ c.in-Some.number = search rules in
    let P : List Key → Type 0 = λ ks. Inserts ks c.args.key.now c.in_ok-place.place new in
    let Q : Key → Type 0 = λ k. Inserts (null_and c.self.inside.numbers.keys) k c.in_ok-place.place new in
    subst P c.self.view_is (subst Q (ap Int same ∙ sym c.in-Some.ensures) c.in_ok-place.ensures.place)
