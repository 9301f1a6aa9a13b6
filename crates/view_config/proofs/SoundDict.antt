-- The outputs that were read as coded are texts, by their places in ascending order.
use Rattle.std.proofs.Common.{◌≡◌, ◌⊎◌, inl, inr, ℕ, zero, suc, ◌<◌, ◌==◌, ◌||◌, Bool, true, false, List, [], ◌∷◌, length, refl, ap, sym, subst, arith, Ok, Err, Some, Option, None, slice_get}
use Rattle.std.specs.Prelude.{All, filter}
use Rattle.std.specs.List.{range_with_len}
use Rattle.std.proofs.lemmas.Bool.{eqb-true}
use Rattle.std.proofs.lemmas.List.Elements.{All-head, All-nil, All-tail, All-weaker, filter_passes}
use Rattle.std.proofs.lemmas.Option.{slice_get_within}
use Rattle.toml.specs.Data.{as_str, Data}
use Rattle.values.specs.Coded.{AreAscending, AreCoded, IsTextColumn, utf8}
use Rattle.values.specs.Logical.{NamedType}
use Rattle.values.specs.Reading.{◌>>=◌, must}
use Rattle.values.specs.Rose.{Rose, node}
use Rattle.values.specs.declared.layout.OffsetWidth.TheVariants as offset
use Rattle.values.specs.declared.col_type.ColType.{ColType}
use Rattle.values.specs.declared.col_type.ColType.TheVariants as col
use Rattle.values.proofs.Readings.{must_Ok}
use Rattle.view_lang.specs.TableRules.{type_of}
use Rattle.view_config.specs.Columns.{find, is_text}
use Rattle.view_config.specs.Dict.{ascending, coded, coded_output, dict_in, dict_of}
use Rattle.view_config.specs.Outputs.{distinct_numbers}
use Rattle.view_config.specs.Numbers.{is_number_in}
use Rattle.view_config.specs.Scope.{Column}
use Rattle.view_config.specs.Tree.{each_item, items_in}
use Rattle.view_config.specs.declared.faults.ConfigFault.TheVariants as fault
use Rattle.view_config.proofs.AscendingNumbers.{ascending-ascends}
use Rattle.view_config.proofs.Found.{found-at}
use Rattle.view_config.proofs.Readings.{bound, items_all, test_Ok}

text-utf8 : (t : ColType) → is_text t ≡ true → t ≡ utf8
text-utf8 (col.Utf8 offset.Bits32) h = refl
text-utf8 (col.Utf8 offset.Bits64) h = cc
text-utf8 col.Bool h = cc
text-utf8 (col.Int w s) h = cc
text-utf8 (col.Decimal p s) h = cc
text-utf8 (col.Date u) h = cc
text-utf8 (col.Time u) h = cc
text-utf8 (col.Timestamp u z) h = cc
text-utf8 (col.Duration u) h = cc
text-utf8 (col.Binary o) h = cc
text-utf8 (col.FixedSizeBinary w) h = cc
text-utf8 (col.List o) h = cc
text-utf8 col.Struct h = cc

text-there : (fields : List (Rose NamedType)) (k : ℕ) (c : Rose NamedType) → slice_get fields k ≡ Some c
    → is_text (type_of c) ≡ true → IsTextColumn fields k
text-there [] k c e h = let within = slice_get_within [] k c e in absurd (omega (arith, within))
text-there (node f kids ∷ fs) zero c e h =
    let same : node f kids ≡ c = cc in
    text-utf8 f.col_type (subst (λ (g : Rose NamedType). is_text (type_of g) ≡ true) (sym same) h)
text-there (f ∷ fs) (suc k) c e h = text-there fs k c e h

output-text : (fields : List (Rose NamedType)) (d : Data) (n : ℕ) → coded_output fields d ≡ Ok n
    → IsTextColumn fields n
unfolding coded_output
output-text fields d n e =
    bound (must fault.Shape (as_str d)) _ n e (λ name a e1.
    bound (must fault.UnknownName (find 0 name fields)) coded n e1 (λ c b e2.
    let read = test_Ok (is_text (type_of c.1)) (Ok c.0) _ n e2 in
    let same : c.0 ≡ n = let shown = read.1 in cc in
    let there = found-at fields name c (must_Ok fault.UnknownName (find 0 name fields) c b) in
    subst (IsTextColumn fields) same (text-there fields c.0 c.1 there read.0)))

-- what holds of all of some numbers holds of one among them
among-all : (P : ℕ → Type 0) (ns : List ℕ) (k : ℕ) → All P ns → is_number_in ns k ≡ true → P k
among-all P [] k all h = cc
among-all P (m ∷ ms) k all h = either (k == m) refl h (λ rest. among-all P ms k (All-tail P m ms all) rest)
  where
    either : (b : Bool) → (k == m) ≡ b → (b || is_number_in ms k) ≡ true → (is_number_in ms k ≡ true → P k) → P k
    either true e _ later = subst P (sym (eqb-true k m e)) (All-head P m ms all)
    either false e rest later = later rest

dict-sound : (fields : List (Rose NamedType)) (d : Data) (ns : List ℕ) → dict_of fields d ≡ Ok ns → AreCoded ns fields
unfolding dict_of
dict-sound fields d ns e =
    bound (items_in d) _ ns e (λ ds a e1.
    bound (each_item (coded_output fields) ds) _ ns e1 (λ places b e2.
    bound (distinct_numbers places) _ ns e2 (λ u c e3.
    let texts = items_all (IsTextColumn fields) (coded_output fields) ds places (output-text fields) b in
    let same : ascending places (length fields) ≡ ns = cc in
    subst (λ (ks : List ℕ). AreCoded ks fields) same (record {
      ascending = ascending-ascends places (length fields);
      texts = All-weaker (λ k. is_number_in places k ≡ true) (IsTextColumn fields)
          (λ k h. among-all (IsTextColumn fields) places k texts h) (ascending places (length fields))
          (filter_passes (is_number_in places) (range_with_len 0 (length fields)));
    }))))

pub dict-in-sound : (fields : List (Rose NamedType)) (o : Option Data) (ns : List ℕ) → dict_in fields o ≡ Ok ns
    → AreCoded ns fields
dict-in-sound fields None ns e =
    let none : [] ≡ ns = cc in
    subst (λ (ks : List ℕ). AreCoded ks fields) none
    (record { ascending = λ i j d below within. absurd (omega (arith, within)); texts = All-nil (IsTextColumn fields) })
dict-in-sound fields (Some d) ns e = dict-sound fields d ns e
