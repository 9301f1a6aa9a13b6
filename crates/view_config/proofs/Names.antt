-- Names among others.
use Rattle.std.proofs.Common.{◌≡◌, ℕ, ◌+◌, ◌<◌, List, ◌∷◌, length, get_or, drop, map, refl}
use Rattle.std.specs.Prelude.{◌||◌, ◌&&◌}
use Rattle.std.proofs.lemmas.List.{drop_all, drop_more}
use Rattle.values.specs.Rose.{Rose}
use Rattle.values.specs.Logical.{NamedType}
use Rattle.view_config.specs.Columns.{find, find_name, name_of}
use Rattle.view_config.specs.Entries.{are_name_bytes, is_name_byte}
use Rattle.view_config.specs.Sides.{find_side}
use Rattle.view_lang.specs.Config.{SideTable}
use Rattle.view_config.specs.Tree.{is_one_of, repeats}

-- by what is left of a list
pub among-step :
    {A : Type 0} (name_of : A → List ℕ) (xs : List A) (i : ℕ) (d : A) (name : List ℕ) → i < length xs
    → is_one_of (map name_of (drop i xs)) name
    ≡ is_one_of (name_of (get_or xs i d) ∷ map name_of (drop (i + 1) xs)) name
among-step name_of xs i d name h = rw (drop_more xs i d h) refl

pub repeats-step :
    {A : Type 0} (name_of : A → List ℕ) (xs : List A) (i : ℕ) (d : A) → i < length xs
    → repeats (map name_of (drop i xs))
    ≡ (is_one_of (map name_of (drop (i + 1) xs)) (name_of (get_or xs i d)) || repeats (map name_of (drop (i + 1) xs)))
repeats-step name_of xs i d h = rw (drop_more xs i d h) refl

pub ruleset naming = (among-step, repeats-step, drop_all)

-- the first column of a name
pub find-step :
    (cs : List (Rose NamedType)) (i : ℕ) (d : Rose NamedType) (n : List ℕ) → i < length cs
    → find i n (drop i cs) ≡ find i n (get_or cs i d ∷ drop (i + 1) cs)
find-step cs i d n h = rw (drop_more cs i d h) refl

pub ruleset finding = (find-step, drop_all)

-- the place of a name
pub name-step :
    {A : Type 0} (name_of : A → List ℕ) (xs : List A) (i : ℕ) (d : A) (n : List ℕ) → i < length xs
    → find_name i n (map name_of (drop i xs)) ≡ find_name i n (name_of (get_or xs i d) ∷ map name_of (drop (i + 1) xs))
name-step name_of xs i d n h = rw (drop_more xs i d h) refl

pub ruleset finding_names = (name-step, drop_all)

-- the first side table of a name
pub side-step :
    (ss : List SideTable) (i : ℕ) (d : SideTable) (n : List ℕ) → i < length ss
    → find_side i n (drop i ss) ≡ find_side i n (get_or ss i d ∷ drop (i + 1) ss)
side-step ss i d n h = rw (drop_more ss i d h) refl

pub ruleset finding_sides = (side-step, drop_all)

-- the bytes of a name
pub bytes-step :
    (bs : List ℕ) (i d : ℕ) → i < length bs
    → are_name_bytes (drop i bs) ≡ (is_name_byte (get_or bs i d) && are_name_bytes (drop (i + 1) bs))
bytes-step bs i d h = rw (drop_more bs i d h) refl

pub ruleset name_bytes = (bytes-step, drop_all)
