use Rattle.std.proofs.Common.{◌≡◌, ◌∷◌, ◌∙◌, ◌<◌, ap, rules, subst, ℤ, ℕ}
use Rattle.std.proofs.lemmas.List.Elements.{All-tail}
use Rattle.std.specs.BTreeMap.{insert_entry}
use Rattle.std.specs.List.{All}
use Rattle.std.specs.Map.{values_of}
use Rattle.std.specs.Prelude.{List}
use Rattle.values.specs.declared.key.Key.{Key}
use Rattle.values.specs.declared.key.Key.TheVariants.{Int}
use Rattle.group_state.specs.Keys.{key_cmp}
use Rattle.group_state.specs.Numbers.{numbered}
use Rattle.group_state.proofs.Numbers.{poured-next}
use Rattle.group_state.proofs.many_numbers.ManyNumbers.to_many.Goals as goal

pub loop-number-preserved : goal.loop-number-preserved
loop-number-preserved c =
    let left : c.loop-number.number-iterator ≡ (c.in-Some.number.now, c.in-Some.count.now) ∷ c.next.new.self = search rules in
    record {
      so_far = poured-next c.args.self.now c.loop-number.many c.put.new.self (numbered c.loop-number.number-iterator)
          (numbered c.next.new.self) (Int c.in-Some.number.now) c.in-Some.count.now (ap numbered left)
          c.loop-number.invariant.so_far c.len-size.ensures.ordered
          (c.in_ok-put.ensures.ok
          ∙ ap (λ (k : Key). insert_entry key_cmp c.loop-number.many k c.in-Some.count.now) c.key_of.ensures);
      present = All-tail (λ n. 0 < n) c.in-Some.count.now (values_of (numbered c.next.new.self))
          (subst (λ (es : List (ℤ × ℕ)). All (λ n. 0 < n) (values_of (numbered es))) left c.loop-number.invariant.present);
    }
