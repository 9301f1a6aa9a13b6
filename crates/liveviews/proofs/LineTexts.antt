-- A line that is written part by part.
use Rattle.std.proofs.Common.{◌≡◌, ℕ, ℤ, Bool, List, ◌++◌, ap, ◌∙◌, append_assoc}
use Rattle.std.specs.Prelude.{codes}
use Rattle.std.specs.Fmt.{decimal, signed_decimal}
use Rattle.liveviews.specs.Lines.{bool_text, dictionary_line, newline}

pub dictionary-joins :
    (text one two all : List ℕ) (id : ℤ) (delta : Bool) (values : ℕ)
    → one ≡ text ++ (codes "dictionary id=" ++ signed_decimal id)
    → two ≡ one ++ (codes " delta=" ++ bool_text delta) → all ≡ two ++ (codes " values=" ++ (decimal values ++ newline))
    → all ≡ text ++ dictionary_line id delta values
dictionary-joins text one two all id delta values first second third =
    let a : List ℕ = codes "dictionary id=" ++ signed_decimal id in
    let b : List ℕ = codes " delta=" ++ bool_text delta in
    let c : List ℕ = codes " values=" ++ (decimal values ++ newline) in
    third ∙ ap (λ t. t ++ c) (second ∙ ap (λ t. t ++ b) first) ∙ append_assoc (text ++ a) b c
    ∙ append_assoc text a (b ++ c)
