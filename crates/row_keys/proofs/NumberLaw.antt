-- The laws of numbers.
use Rattle.std.proofs.Common.{◌≡◌, ap, sym, ◌∙◌, arith}
use Rattle.std.specs.Prelude.{◌-◌, [], None, Some, cond, length}
use Rattle.std.specs.List.{range_with_len}
use Rattle.std.specs.List.Sorted.{IsStrictlySortedBy}
use Rattle.std.specs.Map.{keys_of}
use Rattle.std.specs.Ordering.{nat_cmp}
use Rattle.std.proofs.lemmas.List.Elements.{All-from_recursion}
use Rattle.std.proofs.lemmas.Map.Keys.{IsDistinct-from_sorted}
use Rattle.row_keys.specs.NumberLaws.{
  AllCome,
  NewCome,
  NumbersAscend,
  PutBackCome,
  RetractedGo,
  RetractedWereLive,
  RevertedGo,
  RowsAreAtNumbers,
  RowsAreLive,
  with_new,
}
use Rattle.row_keys.specs.Numbered.{live_at, numbered}
use Rattle.row_keys.specs.Slots.{CanPutBack, CanRevert, put_back, retracted, reverted, row_of}
use Rattle.row_keys.proofs.NumberedChanges.{Up, is_named, leads}
use Rattle.row_keys.proofs.RowsByNumber.{
  all_free,
  all_numbered,
  at_all,
  at_appended,
  at_numbered,
  at_put_back,
  at_retracted,
  at_reverted,
  distinct_put_back,
  distinct_range,
  distinct_retracted,
  numbered_live,
  numbered_up,
  put_back_free,
  range_free,
  retracted_lived,
}

pub numbers_ascend : NumbersAscend
numbers_ascend slots = numbered_up 0 slots

pub rows_are_live : RowsAreLive
rows_are_live slots = numbered_live 0 slots

pub rows_are_at_numbers : RowsAreAtNumbers
rows_are_at_numbers slots n = at_numbered slots n

pub retracted_were_live : RetractedWereLive
retracted_were_live ns slots can =
    All-from_recursion (λ n. live_at slots n ≡ Some (row_of slots n)) ns (retracted_lived ns slots can)

pub retracted_go : RetractedGo
retracted_go ns slots can =
    leads (live_at slots) (λ n. None) ns (numbered slots) (numbered (retracted ns slots)) (numbered_up 0 slots)
    (numbered_up 0 (retracted ns slots)) (distinct_retracted ns slots can) (all_numbered slots ns)
    (λ m. at_numbered (retracted ns slots) m ∙ at_retracted ns slots m
    ∙ sym (ap (λ o. cond (is_named m ns) None o) (at_numbered slots m)))

pub put_back_come : PutBackCome
unfolding CanPutBack
put_back_come t ns slots can =
    leads (λ n. None) (λ n. Some (row_of slots n)) ns (numbered slots) (numbered (put_back ns slots))
    (numbered_up 0 slots) (numbered_up 0 (put_back ns slots)) (distinct_put_back t ns slots can.0)
    (put_back_free t ns slots can.0)
    (λ m. at_numbered (put_back ns slots) m ∙ at_put_back t ns slots m can.0
    ∙ sym (ap (λ o. cond (is_named m ns) (Some (row_of slots m)) o) (at_numbered slots m)))

pub new_come : NewCome
new_come slots rows =
    let ns = range_with_len (length slots) (length rows) in
    leads (λ n. None) (λ n. Some (row_of (with_new slots rows) n)) ns (numbered slots)
    (numbered (with_new slots rows)) (numbered_up 0 slots) (numbered_up 0 (with_new slots rows))
    (distinct_range (length slots) (length rows)) (range_free slots (length slots) (length rows) (omega arith))
    (λ m. at_numbered (with_new slots rows) m ∙ at_appended slots rows m
    ∙ sym (ap (λ o. cond (is_named m ns) (Some (row_of (with_new slots rows) m)) o) (at_numbered slots m)))

pub reverted_go : RevertedGo
unfolding CanRevert reverted
reverted_go n slots few =
    let ns = range_with_len (length slots - n) n in
    leads (live_at slots) (λ n. None) ns (numbered slots) (numbered (reverted n slots)) (numbered_up 0 slots)
    (numbered_up 0 (reverted n slots)) (distinct_range (length slots - n) n) (all_numbered slots ns)
    (λ m. at_numbered (reverted n slots) m ∙ at_reverted n slots m few
    ∙ sym (ap (λ o. cond (is_named m ns) None o) (at_numbered slots m)))

up_none : Up []
unfolding IsStrictlySortedBy
up_none = tt

pub all_come : AllCome
all_come slots =
    let ns = keys_of (numbered slots) in
    leads (λ n. None) (λ n. Some (row_of slots n)) ns [] (numbered slots) up_none (numbered_up 0 slots)
    (IsDistinct-from_sorted nat_cmp ns (numbered_up 0 slots)) (all_free ns)
    (λ m. at_numbered slots m ∙ at_all slots m)
