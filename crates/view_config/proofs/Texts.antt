-- The texts of a TOML document are UTF-8.
use Rattle.std.proofs.Common.{◌≡◌, true, List, [], ◌∷◌, map, String, Global, string_bytes, sym, subst}
use Rattle.std.specs.Str.{is_utf8}
use Rattle.std.proofs.lemmas.Str.{IsUtf8-string_bytes, is_utf8-from_IsUtf8}
use Rattle.toml.specs.Data.{Data, string, array, table, Items, no_items, item, Members, no_members, member}
use Rattle.toml.specs.View.{view, view_step, items_of, members_of, members_view}
use Rattle.toml.specs.declared.value.Value.{Value, map-Value}
use Rattle.toml.specs.declared.value.Value.TheOpen.{Value-F}
use Rattle.toml.specs.declared.value.Value.TheFolds.{fold-roll-Value, ind-Value}

abbrev mutual
  pub IsTextual : Data → Type 0
  IsTextual (string s) = is_utf8 s ≡ true
  IsTextual (array ds) = AreTextual ds
  IsTextual (table ms) = HasTextual ms
  IsTextual d = Unit {0}

  pub AreTextual : Items → Type 0
  AreTextual no_items = Unit {0}
  AreTextual (item d ds) = IsTextual d × AreTextual ds

  pub HasTextual : Members → Type 0
  HasTextual no_members = Unit {0}
  HasTextual (member key d ms) = IsTextual d × HasTextual ms

pub is-text : (name : String Global) → is_utf8 (string_bytes name) ≡ true
is-text name = is_utf8-from_IsUtf8 (string_bytes name) (IsUtf8-string_bytes name)

abbrev IsSeen : Value → Type 0
IsSeen v = IsTextual (view v)

-- a value, and that its texts are
abbrev Seen : Type 0
Seen = (v : Value) × IsSeen v

items-textual : (vs : List Seen) → AreTextual (items_of (map view (map (λ (e : Seen). e.0) vs)))
items-textual [] = tt
items-textual (e ∷ vs) = (e.1, items-textual vs)

members-textual :
    (ms : List (String Global × Seen))
    → HasTextual
    (members_of
    (map (λ (m : String Global × Value). (m.0, view m.1)) (map (λ (m : String Global × Seen). (m.0, m.1.0)) ms)))
members-textual [] = tt
members-textual (m ∷ ms) = (m.1.1, members-textual ms)

layer-textual : (y : Value-F Seen)
    → IsTextual (view_step (map-Value Value Data view (map-Value Seen Value (λ e. e.0) y)))
layer-textual (Value-F.String s) = is-text s
layer-textual (Value-F.Integer z) = tt
layer-textual (Value-F.Float x) = tt
layer-textual (Value-F.Boolean b) = tt
layer-textual (Value-F.Datetime t) = tt
layer-textual (Value-F.Array vs) = items-textual vs.items
layer-textual (Value-F.Table m) = members-textual m.entries

-- each text of a value, at all levels
pub value-textual : (v : Value) → IsSeen v
value-textual = ind-Value IsSeen (λ x y is.
    let below : IsTextual (view_step (map-Value Value Data view x)) =
    subst (λ z. IsTextual (view_step (map-Value Value Data view z))) is (layer-textual y) in
    subst IsTextual (sym (fold-roll-Value Data view_step x)) below)

pub table-textual : (es : List (String Global × Value)) → HasTextual (members_view es)
table-textual [] = tt
table-textual (e ∷ es) = (value-textual e.1, table-textual es)
