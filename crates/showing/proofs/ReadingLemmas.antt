-- A field of CSV is read back as its text.
use Rattle.std.proofs.Common.{
  ◌≡◌,
  ℕ,
  Bool,
  true,
  false,
  List,
  [],
  ◌∷◌,
  ◌++◌,
  refl,
  ap,
  sym,
  subst,
  ◌∙◌,
  arith,
  append_assoc,
}
use Rattle.std.specs.Prelude.{◌==◌, ◌||◌, Some, if◌then◌else◌, flat_map, length}
use Rattle.std.specs.List.{list_any}
use Rattle.std.proofs.lemmas.Bool.Decides.{nat_tests}
use Rattle.showing.specs.Csv.{doubled, is_special, needs_quotes, quote, quoted}
use Rattle.showing.specs.Reading.{
  FieldsAreRead,
  QuotedAreRead,
  TextsAreNoNulls,
  ends_field,
  read_field,
  read_plain,
  read_quoted,
  with_first,
}

is-quote : (b : ℕ) → (b == quote) ≡ true → b ≡ quote
is-quote b is = grind (arith, nat_tests)

ends-special : (b : ℕ) → ((b == 44) || (b == 13) || (b == 10)) ≡ true → is_special b ≡ true
ends-special b ends = grind (arith, nat_tests)

ends-not-quote : (b : ℕ) → ((b == 44) || (b == 13) || (b == 10)) ≡ true → (b == quote) ≡ false
ends-not-quote b ends = grind (arith, nat_tests)

plain-not-quote : (b : ℕ) → is_special b ≡ false → (b == quote) ≡ false
plain-not-quote b plain = grind (arith, nat_tests)

neither : (a b : Bool) → (a || b) ≡ false → (a ≡ false) × (b ≡ false)
neither true b is = cc
neither false b is = (refl, is)

-- the quote that ends a text
closed : (rest : List ℕ) → ends_field rest ≡ true → read_quoted true rest ≡ Some ([], rest)
closed [] ends = refl
closed (b ∷ bs) ends =
    let P : Bool → Type 0 =
    λ q. (if q then with_first quote (read_quoted false bs) else Some ([], b ∷ bs)) ≡ Some ([], b ∷ bs) in
    subst P (sym (ends-not-quote b ends)) refl

-- a byte of a text between quotes
quoted-byte :
    (q : Bool) (b : ℕ) (ds text rest : List ℕ) → (b == quote) ≡ q → read_quoted false (ds ++ rest) ≡ Some (text, rest)
    → read_quoted false ((if q then quote ∷ quote ∷ [] else b ∷ []) ++ (ds ++ rest)) ≡ Some (b ∷ text, rest)
quoted-byte true b ds text rest is more =
    ap (with_first quote) more ∙ ap (λ x. Some (x ∷ text, rest)) (sym (is-quote b is))
quoted-byte false b ds text rest is more =
    let P : Bool → Type 0 =
    λ q. (if q then read_quoted true (ds ++ rest) else with_first b (read_quoted false (ds ++ rest)))
    ≡ Some (b ∷ text, rest) in
    subst P (sym is) (ap (with_first b) more)

quoted-text : (text rest : List ℕ) → ends_field rest ≡ true
    → read_quoted false ((flat_map doubled text ++ quote ∷ []) ++ rest) ≡ Some (text, rest)
quoted-text [] rest ends = closed rest ends
quoted-text (b ∷ bs) rest ends =
    ap (read_quoted false)
    (append_assoc (doubled b ++ flat_map doubled bs) (quote ∷ []) rest
    ∙ append_assoc (doubled b) (flat_map doubled bs) (quote ∷ [] ++ rest)
    ∙ ap (λ x. doubled b ++ x) (sym (append_assoc (flat_map doubled bs) (quote ∷ []) rest)))
    ∙ quoted-byte (b == quote) b (flat_map doubled bs ++ quote ∷ []) bs rest refl (quoted-text bs rest ends)

-- a text between no quotes
plain-end : (rest : List ℕ) → ends_field rest ≡ true → read_plain rest ≡ Some ([], rest)
plain-end [] ends = refl
plain-end (b ∷ bs) ends =
    let P : Bool → Type 0 =
    λ q. (if q then Some ([], b ∷ bs) else with_first b (read_plain bs)) ≡ Some ([], b ∷ bs) in
    subst P (sym (ends-special b ends)) refl

plain-text : (text rest : List ℕ) → list_any is_special text ≡ false → ends_field rest ≡ true
    → read_plain (text ++ rest) ≡ Some (text, rest)
plain-text [] rest plain ends = plain-end rest ends
plain-text (b ∷ bs) rest plain ends =
    let parts : (is_special b ≡ false) × (list_any is_special bs ≡ false) =
    neither (is_special b) (list_any is_special bs) plain in
    let P : Bool → Type 0 =
    λ q. (if q then Some ([], b ∷ (bs ++ rest)) else with_first b (read_plain (bs ++ rest))) ≡ Some (b ∷ bs, rest) in
    subst P (sym parts.0) (ap (with_first b) (plain-text bs rest parts.1 ends))

-- a text that needs no quotes
plain-field : (text rest : List ℕ) → needs_quotes text ≡ false → ends_field rest ≡ true
    → read_field (text ++ rest) ≡ Some (text, rest)
plain-field [] rest needs ends = cc
plain-field (b ∷ bs) rest needs ends =
    let plain : list_any is_special (b ∷ bs) ≡ false =
    (neither (length (b ∷ bs) == 0) (list_any is_special (b ∷ bs)) needs).1 in
    let parts : (is_special b ≡ false) × (list_any is_special bs ≡ false) =
    neither (is_special b) (list_any is_special bs) plain in
    let P : Bool → Type 0 =
    λ q. (if q then read_quoted false (bs ++ rest) else read_plain (b ∷ (bs ++ rest))) ≡ Some (b ∷ bs, rest) in
    subst P (sym (plain-not-quote b parts.0)) (plain-text (b ∷ bs) rest plain ends)

field-read : (needs : Bool) (text rest : List ℕ) → needs_quotes text ≡ needs → ends_field rest ≡ true
    → read_field ((if needs then quoted text else text) ++ rest) ≡ Some (text, rest)
field-read true text rest is ends = quoted-text text rest ends
field-read false text rest is ends = plain-field text rest is ends

pub fields-are-read : FieldsAreRead
fields-are-read text rest ends = field-read (needs_quotes text) text rest refl ends

some-byte : (needs : Bool) (text : List ℕ) → needs_quotes text ≡ needs → (if needs then quoted text else text) ≡ [] → ⊥
some-byte true text is none = cc
some-byte false [] is none = cc
some-byte false (b ∷ bs) is none = cc

pub texts-are-no-nulls : TextsAreNoNulls
texts-are-no-nulls text none = some-byte (needs_quotes text) text refl none

pub quoted-are-read : QuotedAreRead
quoted-are-read text rest ends = quoted-text text rest ends

pub ruleset reading = (fields-are-read, quoted-are-read, texts-are-no-nulls)
