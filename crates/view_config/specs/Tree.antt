-- The entries of a TOML document: of what kind they are, and which may be there.
use Rattle.std.specs.Prelude.{ℕ, suc, Bool, true, false, ◌||◌, not, Option, None, Some, Ok, Err, List, [], ◌∷◌}
use Rattle.std.specs.Prelude.{if◌then◌else◌}
use Rattle.std.proofs.Common.{Bor}
use Rattle.std.specs.Option.{option_map}
use Rattle.std.specs.Str.{bytes_eq}
use Rattle.toml.specs.Data.{Data, string, array, table, Items, no_items, item, Members, no_members, member, get_member}
use Rattle.toml.specs.View.{view}
use Rattle.toml.specs.declared.value.Value.{Value}
use Rattle.values.specs.Reading.{both, cons, must, one, refused_if}
use Rattle.view_config.specs.Reading.{Reading}
use Rattle.view_config.specs.declared.faults.ConfigFault.TheVariants as fault

-- A value of another kind is the fault Shape.
abbrev pub text_in : Data → Reading (List ℕ)
text_in (string s) = Ok s
text_in d = Err (one fault.Shape)

abbrev pub items_in : Data → Reading Items
items_in (array ds) = Ok ds
items_in d = Err (one fault.Shape)

abbrev pub members_in : Data → Reading Members
members_in (table ms) = Ok ms
members_in d = Err (one fault.Shape)

-- the value of an entry that must be there
abbrev pub needed : List ℕ → Members → Reading Data
needed key ms = must fault.Shape (get_member key ms)

-- the data of a value in memory that may be absent
abbrev pub data_of : Option (Bor Value) → Option Data
data_of value = option_map (λ v. view v.now) value

-- the table of an entry that may be absent, which is then empty
abbrev pub members_or_none : Option Data → Reading Members
members_or_none None = Ok no_members
members_or_none (Some d) = members_in d

-- a text is among these
abbrev pub is_one_of : List (List ℕ) → List ℕ → Bool
is_one_of [] name = false
is_one_of (n ∷ ns) name = bytes_eq name n || is_one_of ns name

-- a text is there twice
abbrev pub repeats : List (List ℕ) → Bool
repeats [] = false
repeats (n ∷ ns) = is_one_of ns n || repeats ns

-- All entries have one of these names.
abbrev pub has_only : List (List ℕ) → Members → Bool
has_only names no_members = true
has_only names (member key d ms) = if is_one_of names key then has_only names ms else false

abbrev pub only : List (List ℕ) → Members → Reading (Unit {0})
only names ms = refused_if fault.Shape (not (has_only names ms))

abbrev pub count_items : Items → ℕ
count_items no_items = 0
count_items (item d ds) = suc (count_items ds)

abbrev pub count_members : Members → ℕ
count_members no_members = 0
count_members (member k d ms) = suc (count_members ms)

-- items and entries, each read by itself
unfoldable pub each_item : {X : Type 0} → (Data → Reading X) → Items → Reading (List X)
each_item f no_items = Ok []
each_item f (item d ds) = both cons (f d) (each_item f ds)

unfoldable pub each_member : {X : Type 0} → (List ℕ → Data → Reading X) → Members → Reading (List X)
each_member f no_members = Ok []
each_member f (member key d ms) = both cons (f key d) (each_member f ms)

-- arrays of one value, and of two
abbrev pub sole : Items → Option Data
sole (item d no_items) = Some d
sole ds = None

abbrev pub pair : Items → Option (Data × Data)
pair (item d (item e no_items)) = Some (d, e)
pair ds = None

abbrev pub pair_in : Data → Option (Data × Data)
pair_in (array ds) = pair ds
pair_in d = None

-- an array that begins with a text, and what comes after it
abbrev pub headed : Items → Option (List ℕ × Items)
headed (item (string w) ds) = Some (w, ds)
headed ds = None
