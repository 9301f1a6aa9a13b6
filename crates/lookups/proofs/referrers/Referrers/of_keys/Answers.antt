use Rattle.lookups.proofs.Gathered.{gathered-again, gathered-new, seen-before, seen-more}
use Rattle.lookups.proofs.referrers.Referrers.of_keys.Goals as goal
use Rattle.lookups.proofs.referrers.Referrers.of_keys.Goals.{else-branch, then-branch+in_ok-gather}
use Rattle.lookups.specs.Refers.{refers}
use Rattle.std.proofs.Common.{sym, ◌∙◌}

pub loop-key-preserved : goal.loop-key-preserved
loop-key-preserved c =
    let i = c.loop-key.key-index in
    let k = c.key-item.result in
    let keys = c.args.keys.now in (
      elim c.if-branch.branch [
        | then-branch+in_ok-gather w ↦ λ n.
            gathered-new keys i k c.loop-key-test.true c.key-item.is (λ x. refers c.args.self.now x n) _ _
            (c.loop-key.invariant.0 n) (rw w.numbers-is (w.in_ok-gather.ensures n))
        | else-branch w ↦ λ n.
            let was = sym (c.loop-key.invariant.1 k) ∙ seen-before _ _ c.in_ok-insert.ensures.added w.if-branch.false in
            rw w.numbers-is
            (gathered-again keys i k c.loop-key-test.true c.key-item.is (λ x. refers c.args.self.now x n) _
            (c.loop-key.invariant.0 n) was)
      ],
      λ q.
          seen-more keys i k c.loop-key-test.true c.key-item.is q _ _ (c.loop-key.invariant.1 q)
          (c.in_ok-insert.ensures.updates.0 (record { ref_ptr = c.args.keys.ref_ptr; now = q })),
    )
