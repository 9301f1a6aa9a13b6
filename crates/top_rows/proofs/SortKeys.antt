-- Sort keys that compare as equal are the same, and they compare as the cells from which they are computed.
use Rattle.std.proofs.Common.{◌≡◌, refl, ap, ap₂, sym, true≢false}
use Rattle.std.specs.Prelude.{List, [], ◌∷◌, true, false}
use Rattle.std.specs.declared.cmp.Ordering.{Ordering}
use Rattle.std.specs.declared.cmp.Ordering.TheVariants.{Equal, Greater, Less}
use Rattle.std.specs.Ordering.{ordering_then}
use Rattle.std.specs.Cmp.Lexicographic.{slice_cmp}
use Rattle.values.specs.Datum.{Datum, list, null, structure, truth}
use Rattle.values.specs.declared.key.Key.{Key}
use Rattle.view_lang.proofs.ExactKeys.{key_exact}
use Rattle.view_lang.specs.Cells.{cell_at}
use Rattle.view_lang.specs.RowOrder.{cell_cmp, row_cmp}
use Rattle.view_lang.specs.Aggregates.{IsKeyCell}
use Rattle.view_lang.specs.declared.view.Direction.{Direction}
use Rattle.view_lang.specs.declared.view.Direction.TheVariants as direction
use Rattle.view_lang.specs.declared.view.OrderBy.{OrderBy}
use Rattle.top_rows.specs.SortKeys.{sort_key_of, sort_keys_of}
use Rattle.top_rows.specs.EntryOrder.{sort_key_cmp}
use Rattle.top_rows.specs.ViewOrder.{OrdersKeys}
use Rattle.top_rows.specs.declared.sort_key.SortKey.{SortKey}
use Rattle.top_rows.specs.declared.sort_key.SortKey.TheVariants as sort_key

sort_key_exact : (a b : SortKey) → sort_key_cmp a b ≡ Equal → a ≡ b
sort_key_exact (sort_key.Ascending x) (sort_key.Ascending y) h = ap sort_key.Ascending (key_exact x y h)
sort_key_exact (sort_key.Descending x) (sort_key.Descending y) h =
    ap (λ (k : Key). sort_key.Descending (record { 0 = k })) (sym (key_exact y.0 x.0 h))
sort_key_exact sort_key.Missing sort_key.Missing h = refl
sort_key_exact a b h = absurd (cc)

pub then-first : (a b : Ordering) → ordering_then a b ≡ Equal → a ≡ Equal
then-first Less b h = absurd (cc)
then-first Equal b h = refl
then-first Greater b h = absurd (cc)

pub then-second : (a b : Ordering) → ordering_then a b ≡ Equal → b ≡ Equal
then-second Less b h = absurd (cc)
then-second Equal b h = h
then-second Greater b h = absurd (cc)

pub sort_keys_exact : (xs ys : List SortKey) → slice_cmp sort_key_cmp xs ys ≡ Equal → xs ≡ ys
sort_keys_exact [] [] h = refl
sort_keys_exact [] (y ∷ ys) h = absurd (cc)
sort_keys_exact (x ∷ xs) [] h = absurd (cc)
sort_keys_exact (x ∷ xs) (y ∷ ys) h =
    let k = sort_key_exact x y (then-first (sort_key_cmp x y) (slice_cmp sort_key_cmp xs ys) h) in
    let l = sort_keys_exact xs ys (then-second (sort_key_cmp x y) (slice_cmp sort_key_cmp xs ys) h) in
    cc

sort-key-cmp : (d : Direction) (a b : Datum) → IsKeyCell a → IsKeyCell b
    → sort_key_cmp (sort_key_of d a) (sort_key_of d b) ≡ cell_cmp d a b
sort-key-cmp direction.Descending (list es) b x y = absurd (true≢false (sym x))
sort-key-cmp direction.Descending (structure es) b x y = absurd (true≢false (sym x))
sort-key-cmp direction.Ascending (list es) b x y = absurd (true≢false (sym x))
sort-key-cmp direction.Ascending (structure es) b x y = absurd (true≢false (sym x))
sort-key-cmp direction.Descending a (list es) x y = absurd (true≢false (sym y))
sort-key-cmp direction.Descending a (structure es) x y = absurd (true≢false (sym y))
sort-key-cmp direction.Ascending a (list es) x y = absurd (true≢false (sym y))
sort-key-cmp direction.Ascending a (structure es) x y = absurd (true≢false (sym y))
sort-key-cmp direction.Ascending (truth true) (truth true) x y = refl
sort-key-cmp direction.Ascending (truth true) (truth false) x y = refl
sort-key-cmp direction.Ascending (truth false) (truth true) x y = refl
sort-key-cmp direction.Ascending (truth false) (truth false) x y = refl
sort-key-cmp direction.Descending (truth true) (truth true) x y = refl
sort-key-cmp direction.Descending (truth true) (truth false) x y = refl
sort-key-cmp direction.Descending (truth false) (truth true) x y = refl
sort-key-cmp direction.Descending (truth false) (truth false) x y = refl
sort-key-cmp direction.Descending null null x y = refl
sort-key-cmp direction.Ascending null null x y = refl
sort-key-cmp direction.Descending a b x y = refl
sort-key-cmp direction.Ascending a b x y = refl

pub sort-keys-cmp : (order : List OrderBy) (a b : List Datum) → OrdersKeys order a → OrdersKeys order b
    → slice_cmp sort_key_cmp (sort_keys_of order a) (sort_keys_of order b) ≡ row_cmp order a b
unfolding row_cmp
sort-keys-cmp [] a b x y = refl
sort-keys-cmp (o ∷ os) a b x y =
    ap₂ ordering_then (sort-key-cmp o.direction (cell_at a o.column) (cell_at b o.column) x.0 y.0)
    (sort-keys-cmp os a b x.1 y.1)
