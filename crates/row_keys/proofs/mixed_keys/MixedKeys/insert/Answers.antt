use Rattle.std.proofs.Common.{List, subst}
use Rattle.values.specs.declared.key.Key.{Key}
use Rattle.row_keys.specs.KeyTable.{Inserts}
use Rattle.row_keys.proofs.KeyTables.{apart_inserted, inserted}
use Rattle.row_keys.proofs.mixed_keys.MixedKeys.insert.Goals as goal

pub invariant_of-self-2 : goal.invariant_of-self-2
invariant_of-self-2 c =
    apart_inserted c.self.inside.keys.keys c.insert_full.new.self.keys c.args.key c.in_ok-place.place
    (inserted c.key_law.ensures.equal c.self.inside.keys.keys c.insert_full.new.self.keys c.args.key c.in_ok-place.place
    c.in_ok-place.ensures.keys c.in_ok-place.ensures.stored) c.self.invariant

pub returns-clause-place : goal.returns-clause-place
returns-clause-place c =
    let P : List Key → Type 0 = λ ks. Inserts ks c.args.key c.in_ok-place.place c.insert_full.new.self.keys in
    subst P c.self.view_is
    (inserted c.key_law.ensures.equal c.self.inside.keys.keys c.insert_full.new.self.keys c.args.key c.in_ok-place.place
    c.in_ok-place.ensures.keys c.in_ok-place.ensures.stored)
