-- The texts of cells as the program holds them.
use Rattle.std.specs.Prelude.{ℕ, List, map, Option, None, Some}
use denote.Ref.{Bor}
use Rattle.values.specs.Datum.{Datum, text}

abbrev pub text_of : Datum → Option (List ℕ)
text_of (text t) = Some t
text_of _ = None

abbrev pub texts_in : List (Bor (List ℕ)) → List (List ℕ)
texts_in keys = map (λ k. k.now) keys
