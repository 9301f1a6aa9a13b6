-- What a shelf holds once a new file replaced `out`.
use Rattle.std.proofs.Common.{◌≡◌, Bool, true, ℕ, List, Option, Some, None, refl, subst, sym}
use Rattle.std.specs.Prelude.{codes, if◌then◌else◌}
use Rattle.std.specs.Str.{bytes_eq}
use Rattle.liveviews.specs.Files.{IsContent, Replaces}
use Rattle.scenario_tests.specs.Shelves.{shelved}

pub placed :
    (path input bytes : List ℕ) → bytes_eq path (codes "out") ≡ true
    → Replaces (λ p. shelved p input) (λ p. shelved p input) path bytes
placed path input bytes hit = record {
  whole = subst (λ (b : Bool). IsContent (if b then None else Some input) bytes) (sym hit) tt;
  others = λ other apart. refl;
}
