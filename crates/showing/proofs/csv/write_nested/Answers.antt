use Rattle.showing.specs.Shown.{seen}
use Rattle.showing.proofs.WrittenTexts.{appends-three}
use Rattle.showing.proofs.Doubled.{nested-quoted}
use Rattle.showing.proofs.csv.write_nested.Goals as goal

pub returns : goal.returns
returns g c =
    appends-three _ _ _ _ _ _ _ _ _ c.in_ok-write_all.ensures.bytes c.in_ok-write_json.ensures
    c.write_all-2.ensures.bytes
    (nested-quoted c.args.field.now (seen c.args.cell))
