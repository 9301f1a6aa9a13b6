-- The tables that a change can be of.
use Rattle.std.proofs.Common.{ℕ, zero, suc, IfOk}
use Rattle.std.specs.Prelude.{Err, Ok, Result}
use Rattle.row_keys.specs.TableChanges.{IsChangeOf}
use Rattle.row_keys.specs.declared.faults.EditFault.{EditFault}
use Rattle.row_keys.specs.declared.table_change.TableChange.{TableChange}

pub kind_of_put : (r : Result TableChange EditFault) (side : ℕ) → IfOk r (λ c. (n : ℕ) → IsChangeOf (suc n) c)
    → IfOk r (IsChangeOf (suc side))
kind_of_put (Ok c) side kind = kind side
kind_of_put (Err f) side kind = tt

pub kind_of_retract :
    (r : Result TableChange EditFault) (n : ℕ) → IfOk r (λ c. IsChangeOf 0 c × ((m : ℕ) → IsChangeOf (suc m) c))
    → IfOk r (IsChangeOf n)
kind_of_retract (Ok c) zero kind = kind.0
kind_of_retract (Ok c) (suc n) kind = kind.1 n
kind_of_retract (Err f) n kind = tt
