-- Pairs of hexadecimal digits.
use Rattle.std.proofs.Common.{◌≡◌, ℕ, ◌+◌, ◌*◌, ◌%◌, ◌<◌, ◌≤◌, List, [], ◌∷◌, ◌++◌, Option, None, Some, Ok, length}
use Rattle.std.proofs.Common.{get_or, drop, refl, ap, sym, subst, ◌∙◌, arith, append_assoc, append-nil}
use Rattle.std.specs.Prelude.{◌≢◌, option_map}
use Rattle.std.proofs.lemmas.List.{drop_all, drop_more}
use Rattle.values.specs.Reading.{must, FailsWith}
use Rattle.view_config.specs.Constants.{and_then, byte_of, pairs}
use Rattle.view_config.specs.Reading.{Fails}
use Rattle.view_config.specs.declared.faults.ConfigFault.{ConfigFault}
use Rattle.view_config.proofs.Causes.{fails_along}

-- bytes that were read, and those after them
abbrev pub behind : List ℕ → Option (List ℕ) → Option (List ℕ)
behind xs o = option_map (λ ys. xs ++ ys) o

-- a byte before those of a rest
abbrev ahead : Option (List ℕ) → ℕ → Option (List ℕ)
ahead rest b = and_then rest (λ bs. Some (b ∷ bs))

no-rest : (o : Option ℕ) → and_then o (ahead None) ≡ None
no-rest None = refl
no-rest (Some b) = refl

pub pairs-odd : (cs : List ℕ) → length cs % 2 ≢ 0 → pairs cs ≡ None
unfolding pairs
pairs-odd [] h = absurd (h refl)
pairs-odd (c ∷ []) h = refl
pairs-odd (c ∷ d ∷ cs) h =
    let rest = pairs-odd cs (λ e. h (omega (arith, e))) in
    ap (λ (o : Option (List ℕ)). and_then (byte_of c d) (ahead o)) rest ∙ no-rest (byte_of c d)

pairs-step :
    (cs : List ℕ) (i d e : ℕ) → 2 * i + 1 < length cs
    → pairs (drop (2 * i) cs)
    ≡ and_then (byte_of (get_or cs (2 * i) d) (get_or cs (2 * i + 1) e)) (ahead (pairs (drop (2 * (i + 1)) cs)))
unfolding pairs
pairs-step cs i d e h =
    let next : 2 * i + 1 + 1 ≡ 2 * (i + 1) = omega arith in
    let split : drop (2 * i) cs ≡ get_or cs (2 * i) d ∷ get_or cs (2 * i + 1) e ∷ drop (2 * (i + 1)) cs =
    drop_more cs (2 * i) d (omega (arith, h))
    ∙ ap (λ (r : List ℕ). get_or cs (2 * i) d ∷ r) (drop_more cs (2 * i + 1) e h)
    ∙ ap (λ (n : ℕ). get_or cs (2 * i) d ∷ get_or cs (2 * i + 1) e ∷ drop n cs) next in
    ap pairs split

behind-ahead : (xs : List ℕ) (b : ℕ) (o : Option (List ℕ)) → behind (xs ++ b ∷ []) o ≡ behind xs (ahead o b)
behind-ahead xs b None = refl
behind-ahead xs b (Some ys) = ap (λ zs. Some zs) (simp append_assoc)

pub pairs_step :
    (xs cs : List ℕ) (i d e b : ℕ) (w : Option (List ℕ)) → 2 * i + 1 < length cs
    → byte_of (get_or cs (2 * i) d) (get_or cs (2 * i + 1) e) ≡ Some b → behind xs (pairs (drop (2 * i) cs)) ≡ w
    → behind (xs ++ b ∷ []) (pairs (drop (2 * (i + 1)) cs)) ≡ w
pairs_step xs cs i d e b w h is k =
    let rest = pairs (drop (2 * (i + 1)) cs) in
    let split = pairs-step cs i d e h ∙ ap (λ (o : Option ℕ). and_then o (ahead rest)) is in
    behind-ahead xs b rest ∙ subst (λ (o : Option (List ℕ)). behind xs o ≡ w) split k

pub pairs_stop :
    (xs cs : List ℕ) (i d e : ℕ) (w : Option (List ℕ)) → 2 * i + 1 < length cs
    → byte_of (get_or cs (2 * i) d) (get_or cs (2 * i + 1) e) ≡ None → behind xs (pairs (drop (2 * i) cs)) ≡ w
    → w ≡ None
pairs_stop xs cs i d e w h is k =
    let rest = pairs (drop (2 * (i + 1)) cs) in
    let split = pairs-step cs i d e h ∙ ap (λ (o : Option ℕ). and_then o (ahead rest)) is in
    sym (subst (λ (o : Option (List ℕ)). behind xs o ≡ w) split k)

pub pairs_end :
    (xs cs : List ℕ) (i : ℕ) (w : Option (List ℕ)) → length cs ≤ 2 * i → behind xs (pairs (drop (2 * i) cs)) ≡ w
    → w ≡ Some xs
unfolding pairs
pairs_end xs cs i w h k =
    sym (subst (λ (r : List ℕ). behind xs (pairs r) ≡ w) (drop_all (2 * i) cs h) k)
    ∙ ap (λ zs. Some zs) (append-nil xs)

pub nothing-behind : (o : Option (List ℕ)) → behind [] o ≡ o
nothing-behind None = refl
nothing-behind (Some ys) = refl

-- a required part that is missing
pub must_None : {X : Type 0} (c : ConfigFault) (o : Option X) → o ≡ None → FailsWith (must c o) c
must_None c o e = subst (λ (p : Option _). FailsWith (must c p) c) (sym e) refl

pub must_Some : {X : Type 0} (c : ConfigFault) (o : Option X) (x : X) → o ≡ Some x → must c o ≡ Ok x
must_Some c o x e = ap (must c) e

pub ruleset paired = (pairs-odd, pairs_step, pairs_stop, pairs_end, nothing-behind, must_None, must_Some)

-- what is made of a required part
pub must-then :
    {X Y : Type 0} (c : ConfigFault) (o : Option X) (f : X → Option Y) (x : X) → must c o ≡ Ok x
    → must c (and_then o f) ≡ must c (f x)
must-then c None f x e = cc
must-then c (Some y) f x e = let same : y ≡ x = cc in ap (λ z. must c (f z)) same

stands-then :
    {X Y : Type 0} (c : ConfigFault) (o : Option X) (f : X → Option Y) (d : ConfigFault) → FailsWith (must c o) d
    → FailsWith (must c (and_then o f)) d
stands-then c None f d h = h
stands-then c (Some y) f d h = absurd h

pub fails-then :
    {X Y : Type 0} (c : ConfigFault) (o : Option X) (f : X → Option Y) (d : ConfigFault) → Fails d (must c o)
    → Fails d (must c (and_then o f))
fails-then c o f d h = fails_along d (must c o) (must c (and_then o f)) (λ e. stands-then c o f e) h

pub ruleset made = (must-then, fails-then)
