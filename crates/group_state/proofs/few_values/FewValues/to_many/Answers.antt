use Rattle.std.proofs.Common.{◌≡◌, ◌+◌, ◌++◌, ◌∙◌, ap, arith, drop, subst, sym}
use Rattle.std.specs.BTreeMap.{insert_entry}
use Rattle.values.specs.declared.key.Key.{Key}
use Rattle.group_state.specs.Keys.{key_cmp}
use Rattle.group_state.proofs.FewValues.{Entries, count_at, many_next}
use Rattle.group_state.proofs.few_values.FewValues.to_many.Goals as goal

pub put-requires : goal.put-requires
put-requires c =
    count_at c.self.inside.counts.items c.loop-place.place c.index.result.now c.self.invariant.1
    (omega (arith, c.loop-place-test.true, c.len-place-end.ensures)) c.index.ensures

pub loop-place-preserved : goal.loop-place-preserved
loop-place-preserved c =
    let e = c.index.result.now in
    subst (λ (xs : Entries). c.put.new.self ++ drop (c.loop-place.place + 1) xs ≡ xs) c.self.view_is
    (many_next c.self.inside.counts.items c.loop-place.many c.put.new.self c.loop-place.place e
    (omega (arith, c.loop-place-test.true, c.len-place-end.ensures)) c.index.ensures
    (subst (λ (xs : Entries). c.loop-place.many ++ drop c.loop-place.place xs ≡ xs) (sym c.self.view_is)
    c.loop-place.invariant) c.self.invariant.0
    (c.in_ok-put.ensures.ok ∙ ap (λ (k : Key). insert_entry key_cmp c.loop-place.many k e.1) c.in_ok-copy.ensures))
