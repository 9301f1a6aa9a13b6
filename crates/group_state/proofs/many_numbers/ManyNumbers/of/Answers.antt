use Rattle.std.proofs.Common.{◌≡◌, ◌<◌, ◌∙◌, ap, arith, get_or, length, ℕ}
use Rattle.std.specs.BTreeMap.{insert_entry}
use Rattle.values.specs.declared.key.Key.{Key}
use Rattle.group_state.specs.Keys.{key_cmp}
use Rattle.group_state.proofs.FewValues.{count_at, many_next}
use Rattle.group_state.proofs.Numbers.{number-kept}
use Rattle.group_state.proofs.many_numbers.ManyNumbers.of.Goals as goal

pub put-requires : goal.put-requires
put-requires c =
    let e : Key × ℕ = (c.key.result.now, c.count.result) in
    let here : e ≡ get_or c.args.values.now c.loop-place.place e = λ j. (c.key.ensures e j, c.count.ensures e j) in
    let within : c.loop-place.place < length c.args.values.now =
    omega (arith, c.loop-place-test.true, c.len-place-end.ensures.many) in
    count_at c.args.values.now c.loop-place.place e c.len-place-end.ensures.present within here

pub loop-place-preserved : goal.loop-place-preserved
loop-place-preserved c =
    let e : Key × ℕ = (c.key.result.now, c.count.result) in
    let here : e ≡ get_or c.args.values.now c.loop-place.place e = λ j. (c.key.ensures e j, c.count.ensures e j) in
    let within : c.loop-place.place < length c.args.values.now =
    omega (arith, c.loop-place-test.true, c.len-place-end.ensures.many) in
    let kept = number-kept c.key-in-loop-place.result.now c.in-Some.number c.in-Some.ensures.number c.in-Some.ensures.fits in
    many_next c.args.values.now c.loop-place.numbers c.put.new.self c.loop-place.place e within here c.loop-place.invariant
    c.len-place-end.ensures.ordered
    (c.in_ok-put.ensures.ok
    ∙ ap (λ (k : Key). insert_entry key_cmp c.loop-place.numbers k c.count.result) (kept ∙ c.key-in-loop-place.ensures))
