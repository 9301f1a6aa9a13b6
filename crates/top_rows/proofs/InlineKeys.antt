-- Lists whose first sort key is stored by kind and key are ordered by it, then by the others.
use Rattle.std.proofs.Common.{◌≡◌, refl}
use Rattle.std.specs.Prelude.{List, []}
use Rattle.std.specs.Cmp.Lexicographic.{slice_cmp}
use Rattle.std.specs.Ordering.{ordering_then}
use Rattle.std.specs.declared.cmp.Ordering.TheVariants.{Equal, Greater, Less}
use Rattle.values.specs.contracts.key.KeyOrd.TheImpl as order
use Rattle.values.specs.declared.key.Key.{Key}
use Rattle.values.specs.declared.key.Key.TheVariants as key
use Rattle.top_rows.specs.InlineKeys.{IsListed, inline_cmp, listed}
use Rattle.top_rows.specs.EntryOrder.{sort_key_cmp}
use Rattle.top_rows.specs.declared.inline_kind.InlineKind.{InlineKind}
use Rattle.top_rows.specs.declared.inline_kind.InlineKind.TheVariants as kind
use Rattle.top_rows.specs.declared.sort_key.SortKey.{SortKey}

nulls-tie : order.ghosts.cmp key.Null key.Null ≡ Equal
nulls-tie = refl

pub listed_cmp : (a : InlineKind) (x : Key) (xs : List SortKey) (b : InlineKind) (y : Key) (ys : List SortKey)
    → IsListed a x xs → IsListed b y ys
    → slice_cmp sort_key_cmp (listed a x xs) (listed b y ys)
    ≡ ordering_then (inline_cmp a x b y) (slice_cmp sort_key_cmp xs ys)
listed_cmp kind.NoKey x xs kind.NoKey y ys p q =
    let p0 = p.0 in
    let q0 = q.0 in
    let h = nulls-tie in
    cc
listed_cmp kind.NoKey x xs b y ys p q =
    let p1 = p.1 in
    let h : slice_cmp sort_key_cmp [] (listed b y ys) ≡ Less = refl in
    cc
listed_cmp a x xs kind.NoKey y ys p q =
    let q1 = q.1 in
    let h : slice_cmp sort_key_cmp (listed a x xs) [] ≡ Greater = refl in
    cc
listed_cmp kind.Missing x xs kind.Missing y ys p q =
    let h = nulls-tie in
    cc
listed_cmp a x xs b y ys p q = refl
