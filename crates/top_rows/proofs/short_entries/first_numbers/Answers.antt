use Rattle.std.proofs.Common.{◌≡◌, ap, sym, ◌∙◌, take, length, ◌≤◌, List, map, arith, ℕ}
use Rattle.std.proofs.lemmas.List.{take_all}
use Rattle.std.proofs.lemmas.Map.Iter.{iter_end}
use Rattle.std.specs.Map.Iter.{deref}
use Rattle.top_rows.proofs.short_entries.first_numbers.Goals as goal
use Rattle.top_rows.proofs.short_entries.first_numbers.Goals.{in-None, in-Some+then-len-most}

all-taken : {A : Type 0} (ps : List A) (n m : ℕ) → length ps ≤ n → length ps ≤ m → take n ps ≡ take m ps
all-taken ps n m h l = take_all n ps h ∙ sym (take_all m ps l)

pub returns : goal.returns
returns g c =
    let inv = c.loop-keys.invariant in
    elim c.match-next.branch [
      | in-None w ↦
          let start =
          c.into_iter-keys-iterator.ensures.into_iter_gives ∙ c.iter-keys-items.ensures.rest in
          let e =
          (iter_end deref c.args.pairs.now.keys c.loop-keys.yielded _ _ _ _ start c.loop-keys.yielded_by
          w.in-None.is c.next.ensures.steps).1 in
          let bound = inv.1.0 in
          let all =
          all-taken c.args.pairs.now.keys (length c.loop-keys.yielded) c.args.most (omega (arith, e))
          (omega (arith, e, bound)) in
          inv.1.1 ∙ ap (map (λ p. p.1)) all
      | in-Some+then-len-most w ↦
          let e : length c.loop-keys.yielded ≡ c.args.most =
          sym inv.0 ∙ sym c.loop-keys.numbers.ok.0 ∙ sym w.len.ensures ∙ w.if-len-most.true in
          inv.1.1 ∙ ap (λ (n : ℕ). map (λ p. p.1) (take n c.args.pairs.now.keys)) e
    ]
