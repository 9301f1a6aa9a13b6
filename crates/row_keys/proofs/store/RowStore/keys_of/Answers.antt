use Rattle.std.proofs.Common.{◌<◌, All, get_or, length, subst, sym}
use Rattle.std.proofs.lemmas.List.Elements.{All-get_or}
use Rattle.row_keys.specs.Store.{Store}
use Rattle.row_keys.specs.Stored.{joined}
use Rattle.row_keys.proofs.NumberedKeys.{key_more}
use Rattle.row_keys.proofs.StoreStates.{number_within}
use Rattle.row_keys.proofs.store.RowStore.keys_of.Goals as goal

pub key-requires : goal.key-requires
key-requires c =
    let P : Store → Type 0 = λ s. All (λ n. n < length s.slots) c.args.numbers.now in
    let there = All-get_or
    (λ n. n < length (joined c.self.inside.rows c.self.inside.numbers))
    c.args.numbers.now c.loop-number.number-index 0 c.loop-number-test.true
    (subst P (sym c.self.view_is) c.requires.there) in
    (number_within c.self.inside.table c.self.inside.rows c.self.inside.numbers
    (get_or c.args.numbers.now c.loop-number.number-index 0) c.self.invariant there).1

pub loop-number-preserved : goal.loop-number-preserved
loop-number-preserved c =
    let P : Store → Type 0 = λ s. All (λ n. n < length s.slots) c.args.numbers.now in
    let there = All-get_or
    (λ n. n < length (joined c.self.inside.rows c.self.inside.numbers))
    c.args.numbers.now c.loop-number.number-index 0 c.loop-number-test.true
    (subst P (sym c.self.view_is) c.requires.there) in
    rw (← c.self.view_is)
    (key_more c.self.inside.table c.self.inside.rows
    c.self.inside.numbers c.args.numbers.now c.loop-number.number-index c.loop-number.keys.items
    c.push.new.self.items c.in_ok-key.field-0 c.self.invariant.keyed c.loop-number-test.true
    (number_within c.self.inside.table c.self.inside.rows c.self.inside.numbers
    (get_or c.args.numbers.now c.loop-number.number-index 0) c.self.invariant there).1
    (rw (← c.self.view_is) at c.loop-number.invariant) c.in_ok-key.ensures
    c.in_ok-push.ensures.items)
