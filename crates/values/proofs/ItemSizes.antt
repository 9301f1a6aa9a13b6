-- An item is smaller than all items together.
use Rattle.std.proofs.Common.{◌≡◌, ℕ, zero, suc, ◌<◌, ◌≤◌, List, [], ◌∷◌, length, get_or, sym, arith, subst}
use Rattle.values.specs.Datum.{
  Datum,
  null,
  truth,
  whole,
  text,
  bytes,
  list,
  structure,
  datum_size,
  items_size,
  items_of,
}

some : (d : Datum) → 0 < datum_size d
some null = omega arith
some (truth b) = omega arith
some (whole n) = omega arith
some (text t) = omega arith
some (bytes b) = omega arith
some (list es) = omega arith
some (structure es) = omega arith

item-le : (ds : List Datum) (i : ℕ) (d : Datum) → i < length ds → datum_size (get_or ds i d) ≤ items_size (items_of ds)
item-le [] i d h = absurd (omega (arith, h))
item-le (e ∷ ds) zero d h = omega arith
item-le (e ∷ ds) (suc i) d h = let rest = item-le ds i d (omega (arith, h)) in omega (arith, rest)

pub item_below : (ds : List Datum) (i : ℕ) (d e : Datum) → e ≡ get_or ds i d → i < length ds
    → datum_size e ≤ items_size (items_of ds)
item_below ds i d e is h = subst (λ x. datum_size x ≤ items_size (items_of ds)) (sym is) (item-le ds i d h)
