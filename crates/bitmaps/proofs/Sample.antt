-- Some bits, and what is computed from them by the definitions.
use Rattle.std.proofs.Common.{◌≡◌, [], ◌∷◌, true, false, refl}
use Rattle.bitmaps.specs.Bits.{bits_at, ones}
use Rattle.bitmaps.specs.Packed.{bytes_of}

seven : bits_at (177 ∷ 2 ∷ []) 3 7 ≡ false ∷ true ∷ true ∷ false ∷ true ∷ false ∷ true ∷ []
unfolding bits_at
seven = refl

four : ones (false ∷ true ∷ true ∷ false ∷ true ∷ false ∷ true ∷ []) ≡ 4
unfolding ones
four = refl

nine : bytes_of (true ∷ false ∷ false ∷ true ∷ false ∷ false ∷ true ∷ false ∷ false ∷ []) ≡ 73 ∷ 0 ∷ []
unfolding bytes_of
nine = refl
