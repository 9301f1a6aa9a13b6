use Rattle.std.proofs.Common.{◌≡◌, ◌∷◌, ◌++◌, ◌∙◌, ap, map, rules, subst, sym}
use Rattle.values.specs.declared.key.Key.{Key}
use Rattle.values.specs.declared.key.Key.TheVariants as key
use Rattle.row_keys.specs.KeyTable.{AreApart, Inserts}
use Rattle.row_keys.proofs.NumberTables.{inserted_next}
use Rattle.row_keys.proofs.number_keys.NumberKeys.to_mixed.Goals as goal

pub loop-number-preserved : goal.loop-number-preserved
loop-number-preserved c =
    let rest = c.next.new.self in
    let left : c.loop-number.number-iterator ≡ c.in-Some.number.now ∷ rest = search rules in
    let place = c.in_ok-insert-2.field-0 in
    let P : Key → Type 0 = λ k. Inserts c.loop-number.keys k place c.insert-in-loop-number.new.self in
    inserted_next c.loop-number.keys c.insert-in-loop-number.new.self (key.Int c.in-Some.number.now)
    (map (λ n. key.Int n) rest) c.args.self.now place
    (ap (λ ns. c.loop-number.keys ++ map (λ n. key.Int n) ns) (sym left) ∙ c.loop-number.invariant)
    (subst AreApart c.self.view_is c.self.invariant.apart) (subst P c.key_of.ensures c.in_ok-insert-2.ensures.place)
