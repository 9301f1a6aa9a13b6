-- The types of the fields below a field, one after another.
use Rattle.std.proofs.Common.{◌≡◌, ℕ, List, ◌++◌, ◌<◌, ◌+◌, length, drop, get_or, refl, ap, sym, ◌∙◌, append_assoc}
use Rattle.std.specs.Prelude.{codes}
use Rattle.values.specs.Rose.{Rose, node, Roses, more, kids_of}
use Rattle.values.proofs.Roses.{kids_step, kids_end, kid_smaller}
use Rattle.values.specs.declared.col_type.ColType.{ColType}
use Rattle.schema_meta.specs.Entry.{Entry}
use Rattle.liveviews.specs.Lines.{label_text, parts_text, tree_text}

-- the name that is stored
abbrev pub name_of : Rose Entry → List ℕ
name_of (node e kids) = e.name

parts-more :
    (comma : List ℕ) (s : ColType) (f : Rose Entry) (fs : Roses Entry)
    → parts_text comma s (more f fs) ≡ comma
    ++ (label_text s (name_of f) ++ (tree_text f ++ parts_text (codes ", ") s fs))
parts-more comma s (node e kids) fs = refl

pub parts_step :
    (s : ColType) (fs : List (Rose Entry)) (k : ℕ) (e d : Rose Entry) (comma text whole : List ℕ) → e ≡ get_or fs k d
    → k < length fs
    → text ++ parts_text comma s (kids_of (drop k fs)) ≡ whole
    → (((text ++ comma) ++ label_text s (name_of e)) ++ tree_text e)
    ++ parts_text (codes ", ") s (kids_of (drop (k + 1) fs)) ≡ whole
parts_step s fs k e d comma text whole is below all =
    let rest : List ℕ = parts_text (codes ", ") s (kids_of (drop (k + 1) fs)) in
    let label : List ℕ = label_text s (name_of e) in
    append_assoc ((text ++ comma) ++ label) (tree_text e) rest
    ∙ append_assoc (text ++ comma) label (tree_text e ++ rest)
    ∙ append_assoc text comma (label ++ (tree_text e ++ rest))
    ∙ ap (λ t. text ++ t)
    (sym (ap (λ ts. parts_text comma s ts) (kids_step fs k e d is below)
    ∙ parts-more comma s e (kids_of (drop (k + 1) fs)))) ∙ all

pub ruleset type_texts = (kids_step, kids_end, kid_smaller, parts_step)
