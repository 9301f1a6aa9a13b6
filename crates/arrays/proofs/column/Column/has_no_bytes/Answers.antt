use Rattle.std.proofs.Common.{◌∙◌, ap, sym}
use Rattle.arrays.specs.Checked.{CheckedColumn}
use Rattle.arrays.proofs.NoBytesLemmas.{column-empty}
use Rattle.arrays.proofs.column.Column.has_no_bytes.Goals as goal

pub returns : goal.returns
returns c = λ none.
    column-empty c.self.inside.body.value.items c.self.inside.root c.args.self.now
    (ap (λ (x : CheckedColumn). x.cells) (sym c.self.view_is)) (sym c.has_no_bytes.ensures ∙ none)
