-- Numbers of columns among others, and names that are gathered.
use Rattle.std.proofs.Common.{◌≡◌, ℕ, ◌+◌, ◌<◌, List, ◌∷◌, length, get_or, drop, refl}
use Rattle.std.specs.Prelude.{◌||◌}
use Rattle.std.proofs.lemmas.List.{drop_all, drop_more}
use Rattle.view_config.specs.Numbers.{is_number_in, place_of, repeats_number}

pub number-step :
    (ns : List ℕ) (i d n : ℕ) → i < length ns
    → is_number_in (drop i ns) n ≡ is_number_in (get_or ns i d ∷ drop (i + 1) ns) n
number-step ns i d n h = rw (drop_more ns i d h) refl

pub numbers-step :
    (ns : List ℕ) (i d : ℕ) → i < length ns
    → repeats_number (drop i ns) ≡ (is_number_in (drop (i + 1) ns) (get_or ns i d) || repeats_number (drop (i + 1) ns))
numbers-step ns i d h = rw (drop_more ns i d h) refl

pub place-step :
    (ns : List ℕ) (i d n : ℕ) → i < length ns
    → place_of i n (drop i ns) ≡ place_of i n (get_or ns i d ∷ drop (i + 1) ns)
place-step ns i d n h = rw (drop_more ns i d h) refl

pub ruleset numbering = (number-step, numbers-step, place-step, drop_all)
