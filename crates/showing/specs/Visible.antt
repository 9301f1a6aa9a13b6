-- Texts for a terminal.
use Rattle.std.specs.Prelude.{ℕ, Bool, false, List, ◌++◌, ◌==◌, ◌&&◌, ◌||◌, codes, if◌then◌else◌, nat_le, flat_map}
use Rattle.std.specs.Char.{encode_utf8}
use Rattle.std.specs.Fmt.{digits}
use Rattle.std.specs.Str.{chars}

abbrev pub is_between : ℕ → ℕ → ℕ → Bool
is_between low high c = nat_le low c && nat_le c high

-- control characters, and those that end a line or change the direction of a text
abbrev pub is_hidden : ℕ → Bool
is_hidden c = nat_le c 0x1f || is_between 0x7f 0x9f c || (c == 0x61c) || is_between 0x200e 0x200f c
    || is_between 0x2028 0x202e c
    || is_between 0x2066 0x2069 c

abbrev pub visible_char : ℕ → List ℕ
visible_char c = if c == 10 then codes "\\n" else if c == 13 then codes "\\r" else if c == 9 then codes "\\t"
    else if is_hidden c then codes "\\u{" ++ (digits 16 false c ++ codes "}")
    else encode_utf8 c

abbrev pub visible_text : List ℕ → List ℕ
visible_text text = flat_map visible_char (chars text)
