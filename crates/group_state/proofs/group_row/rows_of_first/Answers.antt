use Rattle.std.proofs.Common.{◌≡◌, ap, sym, ◌∙◌, take, length, ◌≤◌, List, map, arith, ℕ}
use Rattle.std.proofs.lemmas.List.{take_all}
use Rattle.std.proofs.lemmas.Map.Iter.{iter_end}
use Rattle.std.specs.Map.Iter.{deref_pair}
use Rattle.values.specs.declared.key.Key.{Key}
use Rattle.group_state.specs.GroupCounts.{GroupCounts}
use Rattle.group_state.specs.Aggregates.{seen_row}
use Rattle.group_state.proofs.group_row.rows_of_first.Goals as goal
use Rattle.group_state.proofs.group_row.rows_of_first.Goals.{in-None, in-Some+then-len-most}

all-taken : (es : List (List Key × GroupCounts)) (n m : ℕ) → length es ≤ n → length es ≤ m → take n es ≡ take m es
all-taken es n m h l = take_all n es h ∙ sym (take_all m es l)

pub returns-clause-read : goal.returns-clause-read
returns-clause-read c =
    let inv = c.loop-tuple.invariant in
    let es = c.args.groups.now.entries in
    elim c.match-next.branch [
      | in-None w ↦
          let start =
          c.into_iter-tuple-iterator.ensures.into_iter_gives ∙ c.iter-tuple-items.ensures.rest in
          let e =
          (iter_end deref_pair es c.loop-tuple.yielded _ _ _ _ start c.loop-tuple.yielded_by
          w.in-None.is c.next.ensures.steps).1 in
          let bound = inv.1.0 in
          let all =
          all-taken es (length c.loop-tuple.yielded) c.args.most (omega (arith, e)) (omega (arith, e, bound)) in
          inv.1.1 ∙ ap (map (seen_row c.args.columns.now c.args.outputs.now)) all
      | in-Some+then-len-most w ↦
          let e : length c.loop-tuple.yielded ≡ c.args.most =
          sym inv.0 ∙ sym c.loop-tuple.made.ok.0 ∙ sym w.len-in-loop-tuple.ensures ∙ w.if-len-most.true in
          inv.1.1 ∙ ap (λ (n : ℕ). map (seen_row c.args.columns.now c.args.outputs.now) (take n es)) e
    ]
