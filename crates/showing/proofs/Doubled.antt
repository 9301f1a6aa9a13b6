-- JSON with each of its quotes doubled is what it is with a doubled quote for each quote.
use Rattle.std.proofs.Common.{◌≡◌, ℕ, ℤ, Bool, true, false, List, [], ◌∷◌, ◌++◌, map, refl, ap, sym, ◌∙◌}
use Rattle.std.specs.Prelude.{◌==◌, codes, if◌then◌else◌, flat_map}
use Rattle.std.specs.Char.{encode_utf8}
use Rattle.std.specs.Str.{chars}
use Rattle.std.proofs.lemmas.Grind.{flat_map-append}
use Rattle.values.specs.Datum.{Datum, null, truth, whole, text, bytes, list, structure, Items, no_items, item}
use Rattle.values.specs.Rose.{Rose, Roses, none, more}
use Rattle.values.specs.declared.col_type.ColType.{ColType}
use Rattle.values.specs.declared.col_type.ColType.TheVariants as col
use Rattle.schema_meta.specs.Entry.{Entry}
use Rattle.showing.specs.Csv.{doubled, quote, quoted}
use Rattle.showing.specs.Digits.{hex_text}
use Rattle.showing.specs.Fields.{below, entry}
use Rattle.showing.specs.Joined.{joined, joined_behind}
use Rattle.showing.specs.Json.{four_digits, items_of_first, json, json_char, json_number, json_string, members}
use Rattle.showing.specs.Numbers.{number_text}
use Rattle.showing.specs.Visible.{is_hidden}
use Rattle.showing.proofs.Unquoted.{
  Plain,
  plain-append,
  plain-bytes,
  plain-char,
  plain-cons,
  plain-hex,
  plain-if,
  plain-nil,
  plain-number,
  plain-signed,
}

abbrev one : List ℕ
one = quote ∷ []

abbrev two : List ℕ
two = quote ∷ quote ∷ []

-- two parts, each with its quotes doubled
both-double : (s t u v : List ℕ) → flat_map doubled s ≡ u → flat_map doubled t ≡ v
    → flat_map doubled (s ++ t) ≡ u ++ v
both-double s t u v first second =
    flat_map-append doubled s t ∙ ap (λ x. x ++ flat_map doubled t) first ∙ ap (λ x. u ++ x) second

string-doubles : (s t : List ℕ) → flat_map doubled s ≡ t → flat_map doubled (one ++ (s ++ one)) ≡ two ++ (t ++ two)
string-doubles s t is = both-double one (s ++ one) two (t ++ two) refl (both-double s one t two is refl)

-- characters
abbrev other : ℕ → List ℕ
other c = if c == 92 then 92 ∷ 92 ∷ [] else if c == 10 then codes "\\n" else if c == 13 then codes "\\r"
    else if c == 9 then codes "\\t" else if is_hidden c then codes "\\u" ++ four_digits c else encode_utf8 c

plain-other : (c : ℕ) → (c == quote) ≡ false → Plain (other c)
plain-other c is =
    let after : (b : ℕ) → (b == quote) ≡ false → Plain (92 ∷ b ∷ []) =
    λ b no. plain-cons 92 (b ∷ []) refl (plain-cons b [] no plain-nil) in
    plain-if (c == 92) _ _ (after 92 refl)
    (plain-if (c == 10) _ _ (after 110 refl)
    (plain-if (c == 13) _ _ (after 114 refl)
    (plain-if (c == 9) _ _ (after 116 refl)
    (plain-if (is_hidden c) _ _ (plain-append (codes "\\u") (four_digits c) (after 117 refl) (plain-hex 4 c)) (plain-char c is)))))

char-doubles : (q : Bool) (c : ℕ) → (c == quote) ≡ q
    → flat_map doubled (if q then 92 ∷ one else other c) ≡ (if q then 92 ∷ two else other c)
char-doubles true c is = refl
char-doubles false c is = (plain-other c is).same

chars-double : (cs : List ℕ) → flat_map doubled (flat_map (json_char one) cs) ≡ flat_map (json_char two) cs
chars-double [] = refl
chars-double (c ∷ cs) =
    both-double (json_char one c) (flat_map (json_char one) cs) (json_char two c) (flat_map (json_char two) cs)
    (char-doubles (c == quote) c refl) (chars-double cs)

text-doubles : (t : List ℕ) → flat_map doubled (json_string one t) ≡ json_string two t
text-doubles t = string-doubles (flat_map (json_char one) (chars t)) (flat_map (json_char two) (chars t)) (chars-double (chars t))

number-doubles : (t : ColType) (z : ℤ) → flat_map doubled (json_number one t z) ≡ json_number two t z
number-doubles (col.Int w s) z = (plain-signed z).same
number-doubles t z = string-doubles (number_text t z) (number_text t z) (plain-number t z).same

-- texts with a separator between each two
joined-doubles :
    (led separator : List ℕ) (ts : List (List ℕ)) → Plain led → Plain separator
    → flat_map doubled (joined_behind led separator ts) ≡ joined_behind led separator (map (flat_map doubled) ts)
joined-doubles led separator [] first second = refl
joined-doubles led separator (t ∷ ts) first second =
    both-double led (t ++ joined_behind separator separator ts) led
    (flat_map doubled t ++ joined_behind separator separator (map (flat_map doubled) ts)) first.same
    (both-double t (joined_behind separator separator ts) (flat_map doubled t)
    (joined_behind separator separator (map (flat_map doubled) ts)) refl
    (joined-doubles separator separator ts second second))

commas-double : (ts us : List (List ℕ)) → map (flat_map doubled) ts ≡ us
    → flat_map doubled (joined (codes ",") ts) ≡ joined (codes ",") us
commas-double ts us is =
    joined-doubles [] (codes ",") ts plain-nil (plain-cons 44 [] refl plain-nil) ∙ ap (joined (codes ",")) is

mutual
  pub json-doubles : (f : Rose Entry) (d : Datum) → flat_map doubled (json one f d) ≡ json two f d
  json-doubles f null = refl
  json-doubles f (truth true) = refl
  json-doubles f (truth false) = refl
  json-doubles f (whole z) = number-doubles (entry f).stored z
  json-doubles f (text t) = text-doubles t
  json-doubles f (bytes b) = string-doubles (hex_text b) (hex_text b) (plain-bytes b).same
  json-doubles f (list es) =
      both-double (codes "[") (joined (codes ",") (items_of_first one (below f) es) ++ codes "]") (codes "[")
      (joined (codes ",") (items_of_first two (below f) es) ++ codes "]") refl
      (both-double (joined (codes ",") (items_of_first one (below f) es)) (codes "]")
      (joined (codes ",") (items_of_first two (below f) es)) (codes "]")
      (commas-double (items_of_first one (below f) es) (items_of_first two (below f) es) (items-double (below f) es)) refl)
  json-doubles f (structure es) =
      both-double (codes "{") (joined (codes ",") (members one (below f) es) ++ codes "}") (codes "{")
      (joined (codes ",") (members two (below f) es) ++ codes "}") refl
      (both-double (joined (codes ",") (members one (below f) es)) (codes "}")
      (joined (codes ",") (members two (below f) es)) (codes "}")
      (commas-double (members one (below f) es) (members two (below f) es) (members-double (below f) es)) refl)

  items-double : (kids : Roses Entry) (es : Items)
      → map (flat_map doubled) (items_of_first one kids es) ≡ items_of_first two kids es
  items-double none es = refl
  items-double (more f fs) no_items = refl
  items-double (more f fs) (item d ds) =
      ap (λ x. x ∷ map (flat_map doubled) (items_of_first one (more f fs) ds)) (json-doubles f d)
      ∙ ap (λ xs. json two f d ∷ xs) (items-double (more f fs) ds)

  members-double : (kids : Roses Entry) (es : Items)
      → map (flat_map doubled) (members one kids es) ≡ members two kids es
  members-double none es = refl
  members-double (more f fs) no_items = refl
  members-double (more f fs) (item d ds) =
      ap (λ x. x ∷ map (flat_map doubled) (members one fs ds))
      (both-double (json_string one (entry f).name) (codes ":" ++ json one f d) (json_string two (entry f).name)
      (codes ":" ++ json two f d) (text-doubles (entry f).name)
      (both-double (codes ":") (json one f d) (codes ":") (json two f d) refl (json-doubles f d)))
      ∙ ap (λ xs. (json_string two (entry f).name ++ (codes ":" ++ json two f d)) ∷ xs) (members-double fs ds)

-- and so it is written between quotes as a field of CSV
pub nested-quoted : (f : Rose Entry) (d : Datum) → quote ∷ (json two f d ++ quote ∷ []) ≡ quoted (json one f d)
nested-quoted f d = ap (λ x. quote ∷ (x ++ quote ∷ [])) (sym (json-doubles f d))
