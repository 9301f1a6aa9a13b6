-- Truths of three values: true, false or unknown, which is `None`. Many of them lie in two bitmaps.
use Rattle.std.specs.Prelude.{◌≡◌, Bool, true, false, not, if◌then◌else◌, List, [], ◌∷◌, Option, None, Some, map}

abbrev pub Truth : Type 0
Truth = Option Bool

abbrev pub is_true : Truth → Bool
is_true (Some b) = b
is_true None = false

abbrev pub is_unknown : Truth → Bool
is_unknown (Some b) = false
is_unknown None = true

-- `not unknown` is unknown.
abbrev pub negated : Truth → Truth
negated None = None
negated (Some b) = Some (not b)

-- False where one is false, else unknown where one is unknown, else true.
abbrev pub both : Truth → Truth → Truth
both (Some false) y = Some false
both (Some true) y = y
both None (Some false) = Some false
both None (Some true) = None
both None None = None

-- True where one is true, else unknown where one is unknown, else false.
abbrev pub either : Truth → Truth → Truth
either (Some true) y = Some true
either (Some false) y = y
either None (Some true) = Some true
either None (Some false) = None
either None None = None

-- f of each truth of the first list and the one of the second at its index
unfoldable pub paired : (Truth → Truth → Truth) → List Truth → List Truth → List Truth
paired f [] ys = []
paired f (x ∷ xs) [] = []
paired f (x ∷ xs) (y ∷ ys) = f x y ∷ paired f xs ys

-- unknown where its bit is 1, else as the other bit
abbrev pub truth_by : Bool → Bool → Truth
truth_by t u = if u then None else Some t

unfoldable pub truths_by : List Bool → List Bool → List Truth
truths_by [] us = []
truths_by (t ∷ ts) [] = []
truths_by (t ∷ ts) (u ∷ us) = truth_by t u ∷ truths_by ts us

-- the two bitmaps of these truths: which are true, and which are unknown
pub record AreBitsOf (ts : List Truth) (ys us : List Bool) : Type 0 where
  pub yes : ys ≡ map is_true ts
  pub unknown : us ≡ map is_unknown ts
