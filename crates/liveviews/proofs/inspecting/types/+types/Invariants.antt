use Rattle.std.proofs.Common.{◌≡◌, ◌+◌, ◌*◌, ◌++◌, [], drop}
use Rattle.std.specs.Prelude.{string_bytes}
use denote.Shadow.{shadow}
use denote.Text.{Utf8}
use Rattle.values.specs.Rose.{kids_of, rose_size, roses_size}
use Rattle.liveviews.specs.Lines.{parts_text}
use Rattle.liveviews.proofs.inspecting.types.+types.Given as goal

abbrev pub decreases-write_type : goal.decreases-write_type
decreases-write_type l = 2 * rose_size l.field.now

abbrev pub decreases-write_parts : goal.decreases-write_parts
decreases-write_parts l = 2 * roses_size (kids_of l.fields.now) + 1

abbrev pub invariant-write_parts-loop-field : goal.invariant-write_parts-loop-field
invariant-write_parts-loop-field l =
    (string_bytes l.text ++ parts_text l.comma l.parent (kids_of (drop l.field-index l.fields))
    ≡ string_bytes l.initial.text ++ parts_text [] l.parent (kids_of l.fields))
    × shadow (Utf8 l.comma)
