-- Steps of the loop that gathers a message.
use Rattle.std.proofs.Common.{
  ◌≡◌,
  ℕ,
  ◌+◌,
  ◌-◌,
  ◌≤◌,
  Some,
  Ok,
  List,
  ◌++◌,
  length,
  take,
  drop,
  ap,
  sym,
  subst,
  ◌∙◌,
  arith,
  append_assoc,
  length-drop,
}
use Rattle.std.specs.Prelude.{slice_range}
use Rattle.std.proofs.lemmas.List.{take-append-le, drop-append-le, take-append-drop}
use Rattle.std.proofs.Math.Seq.{take-add, take-length}
use Rattle.values.specs.declared.faults.StreamFault.{StreamFault}
use Rattle.values.specs.Reading.{Fails}
use Rattle.schema_meta.specs.Stage.{Known, Whole}
use Rattle.schema_meta.specs.Framing.{first}
use Rattle.messages.specs.Gather.{Gathers}
use Rattle.messages.proofs.Messages.{whole_stays, fails_stays, first_within}

-- what was held, with one part more of the piece
pub next_part :
    (held old piece : List ℕ) (used step : ℕ) → held ≡ old ++ take used piece → used + step ≤ length piece
    → held ++ slice_range piece used (used + step) ≡ old ++ take (used + step) piece
next_part held old piece used step h l =
    let k : used + step - used ≡ step = omega arith in
    let e : take (used + step) piece ≡ take used piece ++ take step (drop used piece) = take-add used step piece in
    let P : List ℕ → Type 0 = λ bs. bs ++ take (used + step - used) (drop used piece) ≡ old
    ++ take (used + step) piece in
    subst P (sym h) (rw (k, e) (append_assoc old (take used piece) (take step (drop used piece))))

-- all bytes are that, and the rest of the piece
pub whole_part :
    (old piece : List ℕ) (n : ℕ) → (old ++ take n piece) ++ drop n piece ≡ old ++ piece
whole_part old piece n = append_assoc old (take n piece) (drop n piece)
    ∙ ap (λ ps. old ++ ps) (take-append-drop n piece)

pub part_found :
    (known : Known) (held old piece : List ℕ) (n : ℕ) (w : Whole) → held ≡ old ++ take n piece
    → first known held ≡ Ok (Some w)
    → first known (old ++ piece) ≡ Ok (Some w)
part_found known held old piece n w h e =
    let P : List ℕ → Type 0 = λ bs. first known bs ≡ Ok (Some w) in
    subst P (whole_part old piece n) (whole_stays known (old ++ take n piece) (drop n piece) w (subst P h e))

pub part_fails :
    (known : Known) (held old piece : List ℕ) (n : ℕ) (c : StreamFault) → held ≡ old ++ take n piece
    → Fails c (first known held)
    → Fails c (first known (old ++ piece))
part_fails known held old piece n c h e =
    let P : List ℕ → Type 0 = λ bs. Fails c (first known bs) in
    subst P (whole_part old piece n) (fails_stays known (old ++ take n piece) (drop n piece) c (subst P h e))

pub part_gathers :
    (known : Known) (held old piece : List ℕ) (n : ℕ) (w : Whole) → n ≤ length piece → held ≡ old ++ take n piece
    → first known held ≡ Ok (Some w) → Gathers (Some w) (old ++ piece) held
part_gathers known held old piece n w l h e =
    let k : held ++ drop n piece ≡ old ++ piece = ap (λ bs. bs ++ drop n piece) h ∙ whole_part old piece n in
    let t : take (length held) (held ++ drop n piece) ≡ held =
    take-append-le (length held) held (drop n piece) (omega arith) ∙ take-length held in
    (sym t ∙ ap (λ bs. take (length held) bs) k, (first_within known held w e).1)

pub ruleset gathers = (next_part, part_found, part_fails, part_gathers)

-- what remains after the bytes of a refused piece are cut off
pub cut_back :
    (new held old part : List ℕ) (had : ℕ) → take (length held) new ≡ held → held ≡ old ++ part → had ≡ length old
    → take had new ≡ old
cut_back new held old part had e h l =
    let rest : List ℕ = drop (length held) new in
    let k : held ++ rest ≡ new = ap (λ bs. bs ++ rest) (sym e) ∙ take-append-drop (length held) new in
    let j : old ++ (part ++ rest) ≡ new = sym (append_assoc old part rest) ∙ ap (λ bs. bs ++ rest) (sym h) ∙ k in
    let P : List ℕ → Type 0 = λ bs. take had bs ≡ old in
    subst P j (rw l (take-append-le (length old) old (part ++ rest) (omega arith) ∙ take-length old))

-- a prefix of some bytes, and the rest of them
all_bytes : (held bytes : List ℕ) → held ≡ take (length held) bytes → held ++ drop (length held) bytes ≡ bytes
all_bytes held bytes h =
    ap (λ bs. bs ++ drop (length held) bytes) h ∙ take-append-drop (length held) bytes

-- the body is the same in the prefix that is held
pub same_body :
    (held bytes : List ℕ) (from end : ℕ) → held ≡ take (length held) bytes → from ≤ end → end ≤ length held
    → slice_range held from end ≡ slice_range bytes from end
same_body held bytes from end h l m =
    let rest : List ℕ = drop (length held) bytes in
    let d : drop from (held ++ rest) ≡ drop from held ++ rest = drop-append-le from held rest (omega arith) in
    let t : take (end - from) (drop from held ++ rest) ≡ take (end - from) (drop from held) =
    take-append-le (end - from) (drop from held) rest (omega (arith, length-drop from held)) in
    sym (ap (λ bs. take (end - from) bs) d ∙ t) ∙ ap (λ bs. slice_range bs from end) (all_bytes held bytes h)

-- what was held before comes before all of the piece
pub held_before :
    (held old piece : List ℕ) → held ≡ take (length held) (old ++ piece) → length old ≤ length held
    → take (length old) held ≡ old
held_before held old piece h l =
    let rest : List ℕ = drop (length held) (old ++ piece) in
    sym (take-append-le (length old) held rest l)
    ∙ ap (λ bs. take (length old) bs) (all_bytes held (old ++ piece) h)
    ∙ (take-append-le (length old) old piece (omega arith) ∙ take-length old)
