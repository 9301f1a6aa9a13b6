use Rattle.std.proofs.Common.{◌∙◌, ap, sym, Some}
use Rattle.std.specs.Option.{option_copied}
use Rattle.dictionaries.proofs.GatherLemmas.{copied-more}
use Rattle.dictionaries.proofs.dictionary.Dictionary.copy_values.Goals as goal

pub loop-i-preserved : goal.loop-i-preserved
loop-i-preserved c =
    let there = sym c.get.ensures ∙ ap option_copied c.unwrap.ensures ∙ ap Some (sym c.in_ok-copy.ensures) in (
      copied-more c.args.self.now c.loop-i.values.items c.push.new.self.items c.loop-i.i c.in_ok-copy.field-0 there
          c.loop-i.invariant.0 c.in_ok-push.ensures.items,
      c.len-i-end.ensures,
    )
