-- The orders of cells, tuples and rows are total: any two are ordered, and those that tie are alike.
use Rattle.std.proofs.Common.{◌≡◌, refl, sym, subst}
use Rattle.std.specs.Prelude.{ℕ, ℤ, pos, true, false, List, [], ◌∷◌}
use Rattle.std.specs.declared.cmp.Ordering.{Ordering}
use Rattle.std.specs.declared.cmp.Ordering.TheVariants.{Less, Equal, Greater}
use Rattle.std.specs.Ordering.{nat_cmp, int_cmp, ordering_then}
use Rattle.std.specs.Cmp.{IsTotalOrder}
use Rattle.std.specs.Cmp.Lexicographic.{slice_cmp}
use Rattle.std.proofs.lemmas.Cmp.{
  nat_cmp_total,
  int_cmp_total,
  nat_list_cmp_total,
  on_total,
  then_total,
  back_total,
  lists_total,
}
use Rattle.values.specs.Datum.{Datum, null, truth, whole, text, bytes, list, structure}
use Rattle.values.specs.Order.{datum_cmp, kind_of}
use Rattle.view_lang.specs.Cells.{cell_at}
use Rattle.view_lang.specs.RowOrder.{cell_cmp, row_cmp, tuple_cmp}
use Rattle.view_lang.specs.declared.view.Direction.{Direction}
use Rattle.view_lang.specs.declared.view.Direction.TheVariants as direction
use Rattle.view_lang.specs.declared.view.OrderBy.{OrderBy}

-- an order that answers as a total one is total
same_order : {K : Type 0} {R S : K → K → Ordering} → ((x y : K) → S x y ≡ R x y) → IsTotalOrder R → IsTotalOrder S
same_order same total = subst IsTotalOrder (λ i x y. sym (same x y) i) total

abbrev number_of : Datum → ℤ
number_of (truth true) = pos 1
number_of (whole n) = n
number_of _ = pos 0

abbrev bytes_of : Datum → List ℕ
bytes_of (text t) = t
bytes_of (bytes b) = b
bytes_of _ = []

abbrev by_parts : Datum → Datum → Ordering
by_parts a b =
    ordering_then (nat_cmp (kind_of a) (kind_of b))
    (ordering_then (int_cmp (number_of a) (number_of b)) (slice_cmp nat_cmp (bytes_of a) (bytes_of b)))

then-Equal : (o : Ordering) → o ≡ ordering_then o Equal
then-Equal Less = refl
then-Equal Equal = refl
then-Equal Greater = refl

datum_cmp-by_parts : (a b : Datum) → datum_cmp a b ≡ by_parts a b
datum_cmp-by_parts (truth true) (truth true) = refl
datum_cmp-by_parts (truth true) (truth false) = refl
datum_cmp-by_parts (truth false) (truth true) = refl
datum_cmp-by_parts (truth false) (truth false) = refl
datum_cmp-by_parts (whole x) (whole y) = then-Equal (int_cmp x y)
datum_cmp-by_parts (text x) (text y) = refl
datum_cmp-by_parts (bytes x) (bytes y) = refl
datum_cmp-by_parts (list x) (list y) = refl
datum_cmp-by_parts (structure x) (structure y) = refl
datum_cmp-by_parts null null = refl
datum_cmp-by_parts a b = refl

pub datum_cmp_total : IsTotalOrder datum_cmp
datum_cmp_total =
    same_order datum_cmp-by_parts
    (then_total (on_total kind_of nat_cmp_total)
    (then_total (on_total number_of int_cmp_total) (on_total bytes_of nat_list_cmp_total)))

abbrev null_rank : Datum → ℕ
null_rank null = 1
null_rank _ = 0

descending-by_parts :
    (a b : Datum)
    → cell_cmp direction.Descending a b ≡ ordering_then (nat_cmp (null_rank a) (null_rank b)) (datum_cmp b a)
descending-by_parts (truth x) (truth y) = refl
descending-by_parts (whole x) (whole y) = refl
descending-by_parts (text x) (text y) = refl
descending-by_parts (bytes x) (bytes y) = refl
descending-by_parts (list x) (list y) = refl
descending-by_parts (structure x) (structure y) = refl
descending-by_parts null null = refl
descending-by_parts a b = refl

pub cell_cmp_total : (d : Direction) → IsTotalOrder (cell_cmp d)
cell_cmp_total direction.Ascending = datum_cmp_total
cell_cmp_total direction.Descending =
    same_order descending-by_parts (then_total (on_total null_rank nat_cmp_total) (back_total datum_cmp_total))

pub tuple_cmp_total : IsTotalOrder tuple_cmp
unfolding tuple_cmp
tuple_cmp_total = lists_total datum_cmp_total

pub row_cmp_total : (os : List OrderBy) → IsTotalOrder (row_cmp os)
unfolding row_cmp
row_cmp_total [] = record { antisymm = λ x y. refl; trans = λ x y z p q. p; congr = λ x y z p. refl }
row_cmp_total (o ∷ os) =
    then_total (on_total (λ row. cell_at row o.column) (cell_cmp_total o.direction)) (row_cmp_total os)
