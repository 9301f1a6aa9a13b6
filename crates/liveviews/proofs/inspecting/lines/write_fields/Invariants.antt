use Rattle.std.proofs.Common.{◌≡◌, ◌++◌, drop}
use Rattle.std.specs.Prelude.{string_bytes}
use Rattle.liveviews.specs.Lines.{fields_lines}
use Rattle.liveviews.proofs.inspecting.lines.write_fields.Given as goal

abbrev pub invariant-loop-field : goal.invariant-loop-field
invariant-loop-field l =
    string_bytes l.text ++ fields_lines (drop l.field-index l.fields) ≡ string_bytes l.initial.text
    ++ fields_lines l.fields
