-- What holds of a key column's cells holds of the keys of the rows.
use Rattle.std.proofs.Common.{◌≡◌, ℕ, List, [], Vec, subst}
use Rattle.std.specs.Prelude.{IfErr, IfOk, OnOk, Result}
use Rattle.std.specs.declared.alloc.Global.{Global}
use Rattle.values.specs.Datum.{Datum}
use Rattle.row_keys.specs.declared.faults.EditFault.{EditFault}
use Rattle.row_keys.specs.KeyColumns.{PushesKeys, RefusesKeys}
use Rattle.row_keys.specs.Numbers.{Numbered}
use Rattle.row_keys.specs.PutKeys.{PutsKeys}

pub pushes_same : (r : Result (Unit {0}) EditFault) (a b : List Datum) (old new : List Numbered) → a ≡ b
    → OnOk r (PushesKeys a old new) → OnOk r (PushesKeys b old new)
pushes_same r a b old new same h = let P : List Datum → Type 0 = λ ds. OnOk r (PushesKeys ds old new) in subst P same h

pub refuses_same : (r : Result (Unit {0}) EditFault) (a b : List Datum) (old : List Numbered) → a ≡ b
    → IfErr r (RefusesKeys a old) → IfErr r (RefusesKeys b old)
refuses_same r a b old same h = let P : List Datum → Type 0 = λ ds. IfErr r (RefusesKeys ds old) in subst P same h

pub puts_same : (r : Result (Vec ℕ Global) EditFault) (a b : List Datum) (old new : List Numbered) → a ≡ b
    → IfOk r (λ ns. PutsKeys a old ns.items new) → IfOk r (λ ns. PutsKeys b old ns.items new)
puts_same r a b old new same h =
    let P : List Datum → Type 0 = λ ds. IfOk r (λ ns. PutsKeys ds old ns.items new) in subst P same h

pub refuses_put : (r : Result (Vec ℕ Global) EditFault) (a b : List Datum) → a ≡ b → IfErr r (RefusesKeys a [])
    → IfErr r (RefusesKeys b [])
refuses_put r a b same h = let P : List Datum → Type 0 = λ ds. IfErr r (RefusesKeys ds []) in subst P same h
