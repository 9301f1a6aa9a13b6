use Rattle.std.proofs.Common.{ap, sym, ◌∙◌}
use Rattle.std.specs.Option.{option_copied}
use Rattle.row_keys.proofs.NumberTables.{number_at}
use Rattle.row_keys.proofs.number_keys.NumberKeys.key_at.Goals as goal

pub returns : goal.returns
returns c =
    number_at c.self.inside.numbers.keys c.args.place c.unwrap.result.now c.key_of.result c.args.self.now c.self.view_is
    c.if-place-eq0.false (sym c.get_index.ensures.key ∙ ap option_copied c.unwrap.ensures) c.key_of.ensures
