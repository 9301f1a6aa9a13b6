-- A message is what it has before its body, and the body.
use Rattle.std.proofs.Common.{◌≡◌, ℕ, List, [], ◌∷◌, ◌++◌, length, ap, ◌∙◌, append_assoc}
use Rattle.byteorder.specs.Endian.{little_bytes}
use Rattle.stream_writer.specs.Stream.{message}

head-body : (metadata body : List ℕ) → message metadata [] ++ body ≡ message metadata body
head-body metadata body =
    let mark : List ℕ = 255 ∷ 255 ∷ 255 ∷ 255 ∷ [] in
    let size = little_bytes 4 (length metadata) in
    append_assoc mark (size ++ (metadata ++ [])) body
    ∙ ap (λ xs. mark ++ xs) (append_assoc size (metadata ++ []) body
    ∙ ap (λ xs. size ++ xs) (append_assoc metadata [] body))

pub behind-head : (before made metadata body : List ℕ) → made ≡ before ++ message metadata []
    → made ++ body ≡ before ++ message metadata body
behind-head before made metadata body is =
    ap (λ xs. xs ++ body) is ∙ append_assoc before (message metadata []) body
    ∙ ap (λ xs. before ++ xs) (head-body metadata body)

pub ruleset behind = (behind-head)
