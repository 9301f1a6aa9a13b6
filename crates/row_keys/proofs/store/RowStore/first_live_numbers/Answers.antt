use Rattle.std.proofs.Common.{◌+◌, ◌-◌, ◌∙◌, arith, sym}
use Rattle.row_keys.proofs.FirstLive.{first_all, first_enough, first_more, first_none, first_over, first_same}
use Rattle.row_keys.proofs.store.RowStore.first_live_numbers.Goals.{
  then-is_live+in_ok-push,
  else-is_live,
  then-loop-number-test+else-len-most,
  else-loop-number-test,
}
use Rattle.row_keys.proofs.store.RowStore.first_live_numbers.Goals as goal

pub loop-number-init : goal.loop-number-init
loop-number-init c = record {
  within = c.next_retained-number.ensures.within;
  listed = rw c.in_ok-numbers.ensures.items
      (first_over c.args.self.now.slots c.args.most 0 c.next_retained-number.result c.next_retained-number.result _ (omega arith)
      (first_none c.args.self.now.slots c.args.most) c.next_retained-number.ensures.within c.next_retained-number.ensures.dead);
}

pub loop-number-preserved : goal.loop-number-preserved
loop-number-preserved c =
    let slots = c.args.self.now.slots in
    let most = c.args.most in
    let n = c.loop-number.number in
    let m = c.next_retained-number-in-loop-number.result in
    let next = c.next_retained-number-in-loop-number.ensures in
    let many = c.len-in-loop-number.ensures ∙ c.loop-number.numbers.ok.0 in
    record {
      within = next.within;
      listed = first_over slots most (n + 1) (m - (n + 1)) m c.if-is_live.numbers.items (omega (arith, next.from))
          (elim c.if-is_live.branch [
            | then-is_live+in_ok-push w ↦
                rw (w.numbers-is, w.in_ok-push.ensures.items)
                (first_more slots most n c.loop-number.numbers.items c.loop-number.invariant.listed
                (omega (arith, c.loop-number-test.true, c.appended.ensures)) (omega (arith, many, c.if-len-most.true))
                (sym c.is_live.ensures ∙ w.if-is_live.true))
            | else-is_live w ↦
                rw w.numbers-is
                (first_same slots most n c.loop-number.numbers.items c.loop-number.invariant.listed
                (omega (arith, c.loop-number-test.true, c.appended.ensures)) (sym c.is_live.ensures ∙ w.if-is_live.false))
          ]) next.within next.dead;
    }

pub returns : goal.returns
returns c = elim c.loop-number-test.branch [
  | else-loop-number-test w ↦
      first_all c.args.self.now.slots c.args.most c.loop-number.number c.loop-number.numbers.items
      c.loop-number.invariant.listed (omega (arith, w.loop-number-test.false, c.appended.ensures))
  | then-loop-number-test+else-len-most w ↦
      first_enough c.args.self.now.slots c.args.most c.loop-number.number c.loop-number.numbers.items
      c.loop-number.invariant.listed
      (omega (
        arith,
        w.len-in-loop-number.ensures,
        c.loop-number.numbers.ok.0,
        w.if-len-most.false,
        c.loop-number.invariant.listed.few,
      ))
]
