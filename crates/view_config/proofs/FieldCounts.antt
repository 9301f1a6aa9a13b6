-- The fields of columns, as loops count them.
use Rattle.std.proofs.Common.{◌≡◌, ℕ, ◌+◌, ◌<◌, ◌≤◌, List, length, drop, get_or, ap}
use Rattle.values.specs.Rose.{Rose, kids_of, rose_size, roses_size}
use Rattle.values.proofs.Roses.{kids_step, kids_end, kid_smaller}

-- what the next field and those after it have
pub fields_step :
    {A : Type 0} (fs : List (Rose A)) (k : ℕ) (e d : Rose A) → e ≡ get_or fs k d → k < length fs
    → roses_size (kids_of (drop k fs)) ≡ rose_size e + roses_size (kids_of (drop (k + 1) fs))
fields_step fs k e d is below = ap roses_size (kids_step fs k e d is below)

pub fields_end : {A : Type 0} (fs : List (Rose A)) (k : ℕ) → length fs ≤ k → roses_size (kids_of (drop k fs)) ≡ 0
fields_end fs k all = ap roses_size (kids_end fs k all)

pub ruleset counting = (fields_step, fields_end, kid_smaller)
