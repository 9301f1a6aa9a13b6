use Rattle.std.proofs.Common.{ap, subst}
use Rattle.std.specs.Prelude.{flat_map}
use Rattle.std.specs.Io.KnownBytes.{Appends}
use Rattle.std.proofs.lemmas.Str.{chars_from_encodes}
use Rattle.showing.specs.Visible.{visible_char}
use Rattle.showing.proofs.WrittenTexts.{char-more, chars-end, item-more}
use Rattle.showing.proofs.visible.write_visible.Goals as goal

pub loop-c-preserved : goal.loop-c-preserved
loop-c-preserved g c = record {
  done = item-more _ _ _ visible_char c.loop-c.yielded c.in-Some.c c.loop-c.invariant.done c.in_ok-write_char.ensures;
  left = char-more c.loop-c.yielded _ _ c.args.text.now c.in-Some.c c.loop-c.invariant.left c.in-Some.ensures.steps.0;
}

pub returns : goal.returns
returns g c =
    let all = chars-end c.loop-c.yielded _ c.args.text.now c.loop-c.invariant.left c.in-None.ensures.steps.0.0 in
    subst (Appends _ _) (ap (flat_map visible_char) (chars_from_encodes c.loop-c.yielded c.args.text.now c.utf8.text all))
    c.loop-c.invariant.done
