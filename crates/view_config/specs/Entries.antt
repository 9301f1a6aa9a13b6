-- Entries with names of their own: [side.NAME], [feed.NAME] and [view.NAME].
use Rattle.std.specs.Prelude.{ℕ, nat_le, nat_lt, ◌==◌, ◌&&◌, ◌||◌, Bool, true, Option, Ok, Err, List, [], ◌∷◌, length}
use Rattle.std.specs.Prelude.{if◌then◌else◌}
use Rattle.toml.specs.Data.{Data, Members}
use Rattle.values.specs.Reading.{◌>>=◌, one, refused_if}
use Rattle.view_config.specs.Limits.{max_entry_name_len}
use Rattle.view_config.specs.Reading.{Reading}
use Rattle.view_config.specs.Tree.{each_member, members_or_none, count_members}
use Rattle.view_config.specs.declared.faults.ConfigFault.TheVariants as fault

-- an ASCII letter, a digit, `_` or `-`
abbrev pub is_letter : ℕ → Bool
is_letter c = nat_le 65 c && nat_le c 90 || nat_le 97 c && nat_le c 122

abbrev pub is_name_byte : ℕ → Bool
is_name_byte c = is_letter c || nat_le 48 c && nat_le c 57 || c == 95 || c == 45

abbrev pub are_name_bytes : List ℕ → Bool
are_name_bytes [] = true
are_name_bytes (c ∷ cs) = is_name_byte c && are_name_bytes cs

-- The name of a side table, a feed or a view has 1 to 64 such bytes.
abbrev pub entry_name : List ℕ → Reading (List ℕ)
entry_name name =
    if are_name_bytes name && nat_le 1 (length name) && nat_le (length name) max_entry_name_len then Ok name
    else Err (one fault.Shape)

-- at most this number of entries
abbrev pub few_entries : ℕ → Members → Reading (Unit {0})
few_entries n ms = refused_if fault.OverLimit (nat_lt n (count_members ms))

-- the entries of a table that may be absent, at most this number, each read by itself
abbrev pub each_entry : {X : Type 0} → ℕ → (List ℕ → Data → Reading X) → Option Data → Reading (List X)
each_entry n f d = do
  ms ← members_or_none d
  _ ← few_entries n ms
  each_member f ms
