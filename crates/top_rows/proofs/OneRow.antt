-- The order when one row changes.
use Rattle.std.proofs.Common.{◌≡◌, refl, ap, sym, ◌∙◌, subst}
use Rattle.std.specs.Prelude.{ℕ, List, Bool, true, false, Option, None, cond}
use Rattle.std.specs.Cmp.{nat_cmp_total, tied_itself}
use Rattle.std.specs.Ordering.{is_eq, nat_cmp}
use Rattle.std.specs.declared.cmp.Ordering.{Ordering}
use Rattle.std.specs.Map.{keys_of}
use Rattle.std.specs.BTreeMap.{is_at}
use Rattle.std.specs.List.Sorted.{IsStrictlySortedBy}
use Rattle.std.proofs.lemmas.Map.Lookups.{exact_unsigned}
use Rattle.values.specs.Datum.{Datum}
use Rattle.view_lang.specs.Counted.{lookup-with_at}
use Rattle.view_lang.specs.Shifts.{NumberedRows, row_at, with_at}
use Rattle.view_lang.specs.declared.view.OrderBy.{OrderBy}
use Rattle.top_rows.specs.Keeping.{Keeps}
use Rattle.top_rows.specs.OrderedEntries.{OrderedEntries}
use Rattle.top_rows.specs.EntryOrder.{RowEntry, entry_cmp}
use Rattle.top_rows.specs.Places.{is_entry, is_entry_of, place_of, stands}
use Rattle.top_rows.specs.Ties.{KeepsBy, named}
use Rattle.top_rows.proofs.Ties.{keeps-same, keeps-with, keeps-without, set_at}

abbrev at : NumberedRows → ℕ → Option (List Datum)
at rows n = named nat_cmp rows n

abbrev set_row : ℕ → Option (List Datum) → (ℕ → Option (List Datum)) → ℕ → Option (List Datum)
set_row = set_at nat_cmp nat_cmp_total exact_unsigned

-- where the row of a number was deleted there is none
none-at : (n : ℕ) (rows : NumberedRows) → set_row n None (at rows) n ≡ None
none-at n rows = ap (λ (r : Ordering). cond (is_eq r) None (at rows n)) (tied_itself nat_cmp_total n)

set-twice : (n m : ℕ) (a : Option (List Datum)) (rows : NumberedRows) → IsStrictlySortedBy nat_cmp (keys_of rows)
    → set_row n a (set_row n None (at rows)) m ≡ at (with_at n a rows) m
set-twice n m a rows s = either (is_at (nat_cmp n) m) ∙ sym (lookup-with_at n m a rows s)
  where
    either : (b : Bool) → cond b a (cond b None (at rows m)) ≡ cond b a (at rows m)
    either true = refl
    either false = refl

-- The entry of a row is inserted, or removed.
pub stands-entry : (b : Bool) (new : List RowEntry) (entry p : RowEntry) (inside seen : OrderedEntries)
    (order : List OrderBy) (n : ℕ) (row : List Datum)
    → stands new p ≡ cond (is_at (entry_cmp entry) p) b (stands inside.order_entries p) → entry ≡ place_of order n row
    → order ≡ inside.order → inside ≡ seen → stands new p ≡ cond (is_entry seen.order n row p) b (stands seen.order_entries p)
stands-entry b new entry p inside seen order n row h is by view =
    h ∙ ap (λ (k : RowEntry). cond (is_at (entry_cmp k) p) b (stands inside.order_entries p)) is
    ∙ ap (λ (o : List OrderBy). cond (is_entry o n row p) b (stands inside.order_entries p)) by
    ∙ ap (λ (o : OrderedEntries). cond (is_entry o.order n row p) b (stands o.order_entries p)) view

-- The entry of the row before is removed, and that of the row after it inserted.
pub keeps-one : (old mid new : OrderedEntries) (n : ℕ) (before after : Option (List Datum)) (rows : NumberedRows)
    → mid.order ≡ old.order → new.order ≡ mid.order
    → ((p : RowEntry) → stands mid.order_entries p ≡ cond (is_entry_of old.order n before p) false (stands old.order_entries p))
    → ((p : RowEntry) → stands new.order_entries p ≡ cond (is_entry_of mid.order n after p) true (stands mid.order_entries p))
    → IsStrictlySortedBy nat_cmp (keys_of rows) → row_at n rows ≡ before → Keeps old rows
    → Keeps new (with_at n after rows)
keeps-one old mid new n before after rows c d f g s is k =
    let gone : KeepsBy nat_cmp old.order mid.order_entries (set_row n None (at rows)) =
    keeps-without nat_cmp nat_cmp_total exact_unsigned old.order old.order_entries mid.order_entries (at rows) n before k false is f in
    let come : KeepsBy nat_cmp old.order new.order_entries (set_row n after (set_row n None (at rows))) =
    keeps-with nat_cmp nat_cmp_total exact_unsigned old.order mid.order_entries new.order_entries (set_row n None (at rows)) n
    after gone false (none-at n rows)
    (λ p. g p ∙ ap (λ (o : List OrderBy). cond (is_entry_of o n after p) true (stands mid.order_entries p)) c) in
    subst (λ (o : List OrderBy). KeepsBy nat_cmp o new.order_entries (at (with_at n after rows))) (sym (d ∙ c))
    (keeps-same nat_cmp nat_cmp_total exact_unsigned old.order new.order_entries
    (set_row n after (set_row n None (at rows))) (at (with_at n after rows))
    (λ m. set-twice n m after rows s) come)
