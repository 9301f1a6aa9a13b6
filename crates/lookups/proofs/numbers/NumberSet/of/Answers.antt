use Rattle.view_lang.proofs.LastEntries.{key-next}
use Rattle.lookups.proofs.numbers.NumberSet.of.Goals as goal
use Rattle.std.proofs.Common.{◌≡◌, ◌++◌, ◌∷◌, rules, ap, sym, ◌∙◌, List, ℕ}
use Rattle.std.specs.Cmp.{nat_cmp_total}
use Rattle.std.specs.Ordering.{nat_cmp}

pub loop-number-preserved : goal.loop-number-preserved
loop-number-preserved c =
    let left : c.loop-number.number-iterator.rest.items ≡ c.in-Some.number ∷ c.next.new.self.rest.items =
    search rules in
    let whole = ap (λ (l : List ℕ). c.loop-number.made.keys ++ l) (sym left) ∙ c.loop-number.invariant in
    ap (λ (l : List ℕ). l ++ c.next.new.self.rest.items) c.in_ok-insert.ensures.keys
    ∙ key-next nat_cmp nat_cmp_total c.loop-number.made.keys c.in-Some.number c.next.new.self.rest.items
    c.args.numbers.items whole c.requires
