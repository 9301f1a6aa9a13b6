-- Live rows have keys of their own, and none is null.
use Rattle.std.proofs.Common.{◌≡◌, suc, Bool, true, false, Some, List, [], ◌∷◌, length, refl, ap, ◌∙◌, ◌≤◌, arith}
use Rattle.std.specs.Prelude.{if◌then◌else◌}
use Rattle.values.specs.Datum.{Datum, is_null}
use Rattle.values.specs.Keys.{datum_of_key}
use Rattle.view_lang.specs.Causes.{has_null}
use Rattle.view_lang.specs.Config.{Table}
use Rattle.view_lang.specs.Laws.{AreKeyed}
use Rattle.row_keys.specs.Numbers.{AreDistinct, Numbered, numbered}
use Rattle.row_keys.specs.Slots.{contents_of, live}
use Rattle.row_keys.specs.Stored.{AreGiven, IsStored, joined, live_keys}
use Rattle.row_keys.proofs.JoinedNumbers.{keys_live, live_counted}
use Rattle.row_keys.proofs.KeyFacts.{or_none}
use Rattle.row_keys.proofs.TurnedRows.{distinct_joined}

live_given : (xs : List Numbered) → AreGiven xs → has_null (live_keys xs) ≡ false
unfolding has_null
live_given [] given = refl
live_given (x ∷ xs) given = by x.live refl (live_given xs (λ n k at. given (suc n) k at))
  where
    by : (b : Bool) → x.live ≡ b → has_null (live_keys xs) ≡ false
        → has_null (if b then datum_of_key x.key ∷ live_keys xs else live_keys xs) ≡ false
    by true lives rest =
        or_none (is_null (datum_of_key x.key)) (has_null (live_keys xs))
        (given 0 x.key (ap (λ b. Some (numbered x.key b)) lives)) rest
    by false lives rest = rest

pub stored_keyed :
    (t : Table) (stored : List (List Datum)) (xs : List Numbered) → IsStored t stored xs
    → AreDistinct xs → AreKeyed t (contents_of (joined stored xs))
stored_keyed t stored xs is distinct = record {
  not_null = ap has_null (keys_live t stored xs is.keyed) ∙ live_given xs is.given;
  distinct = distinct_joined t stored xs is.keyed distinct;
}

pub stored_few :
    (t : Table) (stored : List (List Datum)) (xs : List Numbered) → IsStored t stored xs
    → length (live (joined stored xs)) ≤ t.max_rows
stored_few t stored xs is = let many = live_counted t stored xs is.keyed in omega (arith, many, is.few)
