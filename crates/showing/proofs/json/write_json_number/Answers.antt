use Rattle.std.proofs.Common.{◌++◌, ◌∙◌, ap, sym}
use Rattle.std.proofs.lemmas.Int.{to_z-of_z}
use Rattle.std.specs.Int.{w128}
use Rattle.showing.specs.Numbers.{number_text}
use Rattle.showing.proofs.WrittenTexts.{appends-three}
use Rattle.showing.proofs.Numbers.{other-number}
use Rattle.showing.proofs.json.write_json_number.Goals as goal

pub returns : goal.returns
returns g c =
    appends-three _ _ _ _ _ _ _ _ _ c.in_ok-write.ensures.bytes c.in_ok-write_number.ensures c.write-3.ensures.bytes
    (ap (λ z. c.args.quote.now ++ (number_text c.args.stored.now z ++ c.args.quote.now))
    (to_z-of_z w128 c.args.number c.ranges.number)
    ∙ sym (other-number c.args.quote.now c.args.stored.now c.args.number c.in_default.not-Int))
