-- The definitions are computed.
use Rattle.std.proofs.Common.{◌≡◌, [], ◌∷◌, true, false, refl}
use Rattle.std.specs.Prelude.{pos, None}
use Rattle.values.specs.Datum.{null, whole}
use Rattle.dictionaries.specs.Batches.{batch, dictionary_after, found_after}

-- a delta first, another id, a batch that replaces the first, and a delta after that
replaced :
    dictionary_after
    (batch (pos 7) true (null ∷ []) ∷ batch (pos 8) false (null ∷ []) ∷ batch (pos 7) false (whole (pos 1) ∷ []) ∷ batch
    (pos 7) true (whole (pos 2) ∷ []) ∷ []) (pos 7)
    ≡ whole (pos 1) ∷ whole (pos 2) ∷ []
replaced = refl

added : dictionary_after
    (batch (pos 7) true (null ∷ []) ∷ batch (pos 8) false [] ∷ batch (pos 7) true (whole (pos 1) ∷ []) ∷ [])
    (pos 7) ≡ null ∷ whole (pos 1) ∷ []
added = refl

absent : found_after (batch (pos 7) true (null ∷ []) ∷ []) (pos 8) ≡ None
absent = refl
