use Rattle.std.proofs.Common.{◌+◌, ◌-◌, ◌∙◌, arith, sym}
use Rattle.row_keys.proofs.ListedNumbers.{listed_more, listed_none, listed_over, listed_same}
use Rattle.row_keys.proofs.store.RowStore.live_numbers.Goals.{else-is_live, then-is_live+in_ok-push}
use Rattle.row_keys.proofs.store.RowStore.live_numbers.Goals as goal

pub loop-number-init : goal.loop-number-init
loop-number-init c = record {
  within = c.next_retained-number.ensures.within;
  listed = rw c.in_ok-numbers.ensures.items
      (listed_over c.args.self.now.slots 0 c.next_retained-number.result c.next_retained-number.result _ (omega arith)
      (listed_none c.args.self.now.slots) c.next_retained-number.ensures.within c.next_retained-number.ensures.dead);
}

pub loop-number-preserved : goal.loop-number-preserved
loop-number-preserved c =
    let slots = c.args.self.now.slots in
    let n = c.loop-number.number in
    let m = c.next_retained-number-in-loop-number.result in
    let next = c.next_retained-number-in-loop-number.ensures in
    record {
      within = next.within;
      listed = listed_over slots (n + 1) (m - (n + 1)) m c.if-is_live.numbers.items (omega (arith, next.from))
          (elim c.if-is_live.branch [
            | then-is_live+in_ok-push w ↦
                rw (w.numbers-is, w.in_ok-push.ensures.items)
                (listed_more slots n c.loop-number.numbers.items c.loop-number.invariant.listed
                (omega (arith, c.loop-number-test.true, c.appended.ensures)) (sym c.is_live.ensures ∙ w.if-is_live.true))
            | else-is_live w ↦
                rw w.numbers-is
                (listed_same slots n c.loop-number.numbers.items c.loop-number.invariant.listed
                (omega (arith, c.loop-number-test.true, c.appended.ensures)) (sym c.is_live.ensures ∙ w.if-is_live.false))
          ]) next.within next.dead;
    }
