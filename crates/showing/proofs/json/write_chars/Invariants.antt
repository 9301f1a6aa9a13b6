use Rattle.std.proofs.Common.{◌≡◌, ◌++◌, encode_utf8_all}
use Rattle.std.specs.Prelude.{flat_map}
use Rattle.std.specs.Io.KnownBytes.{Appends}
use Rattle.std.specs.Str.Iter.{chars_rest}
use Rattle.showing.specs.Json.{json_char}
use Rattle.showing.proofs.json.write_chars.Given as goal

abbrev pub invariant-loop-c : goal.invariant-loop-c
invariant-loop-c g l = record {
  done : Appends (g.W.Write.contents l.initial.out) (g.W.Write.contents l.out) (flat_map (json_char l.quote) l.yielded);
  left : encode_utf8_all l.yielded ++ chars_rest l.c-iterator ≡ l.text;
}
