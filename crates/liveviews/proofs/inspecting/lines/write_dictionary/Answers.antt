use Rattle.std.specs.Prelude.{string_bytes}
use Rattle.std.proofs.Common.{w64}
use Rattle.std.proofs.lemmas.Int.{to_z-of_z}
use Rattle.std.proofs.lemmas.Result.{on_ok_weaker}
use Rattle.liveviews.proofs.LineTexts.{dictionary-joins}
use Rattle.liveviews.proofs.inspecting.lines.write_dictionary.Goals as goal

pub returns : goal.returns
returns c =
    let numbered = rw (to_z-of_z w64 c.args.id c.ranges.id) at c.in_ok-write.ensures.bytes in
    on_ok_weaker c.writeln.result (
    dictionary-joins (string_bytes c.args.text.now) (string_bytes c.write.new.self) (string_bytes c.write-2.new.self)
    (string_bytes c.writeln.new.self) c.args.id c.args.delta c.args.values numbered c.in_ok-write-2.ensures.bytes)
    c.writeln.ensures.bytes
