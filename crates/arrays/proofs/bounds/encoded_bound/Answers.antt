use Rattle.std.proofs.Common.{ap, sym, ◌∙◌}
use Rattle.array_layout.specs.Placing.{bytes_of}
use Rattle.arrays.specs.Weights.{capped}
use Rattle.arrays.proofs.BoundLemmas.{fixed_coded, values_bounded}
use Rattle.arrays.proofs.bounds.encoded_bound.Goals as goal

pub returns-then-is_fixed-clause-value : goal.returns-then-is_fixed-clause-value
returns-then-is_fixed-clause-value c =
    fixed_coded c.args.own.now.layout c.args.dictionary.now.layout c.args.dictionary.now.values
    (bytes_of c.args.body.now c.args.own.now.values) c.args.own.now.len c.cap.result
    (sym c.is_fixed.ensures ∙ c.if-is_fixed.true) (c.cap.ensures.value ∙ ap capped c.own_null_weight.ensures.value)

pub returns-then-len-own-clause-value : goal.returns-then-len-own-clause-value
returns-then-len-own-clause-value c =
    values_bounded c.args.own.now.layout c.args.dictionary.now.layout c.args.dictionary.now.values
    (bytes_of c.args.body.now c.args.own.now.values) c.args.own.now.len c.heaviest_value.result
    c.heaviest_value.ensures.value
