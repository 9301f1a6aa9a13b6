-- The values of a dictionary are the texts of the cells, each once, in order of first appearance.
use Rattle.std.proofs.Common.{
  ◌≡◌,
  ℕ,
  ◌⊎◌,
  inl,
  inr,
  Bool,
  true,
  false,
  List,
  [],
  ◌∷◌,
  ◌++◌,
  refl,
  ap,
  sym,
  subst,
  ◌∙◌,
  append_assoc,
  append-nil,
}
use Rattle.std.specs.Prelude.{if◌then◌else◌, ◌||◌}
use Rattle.std.specs.List.{list_any, position_or_len}
use Rattle.std.specs.Str.{bytes_eq}
use Rattle.std.proofs.lemmas.Slice.Eq.{bytes_eq-Decides}
use Rattle.values.specs.Datum.{Datum, bytes, list, null, structure, text, truth, whole}
use Rattle.stream_writer.specs.Coding.{add_text, texts_after}
use Rattle.stream_writer.specs.DictionaryLaw.{
  AreDifferent,
  AreTheTexts,
  BeginAlike,
  DifferInPairs,
  IsInCells,
  IsOneOf,
  NameTheirTexts,
  SampleIsNumbered,
}
use Rattle.stream_writer.proofs.Decoded.{added, kept, or-left, or-right, place-found}
use Rattle.stream_writer.proofs.NumberedTexts.{texts-next}

-- a text is one of these exactly where the test says so

one-found : (t : List ℕ) (vs : List (List ℕ)) → list_any (bytes_eq t) vs ≡ true → IsOneOf t vs
one-found t [] e = absurd (cc)
one-found t (v ∷ vs) e = by-test (bytes_eq t v) refl (λ g. one-found t vs g)
  where
    by-test : (b : Bool) → bytes_eq t v ≡ b → (list_any (bytes_eq t) vs ≡ true → IsOneOf t vs)
        → (t ≡ v) ⊎ IsOneOf t vs
    by-test true is later = inl ((bytes_eq-Decides t v).0 is)
    by-test false is later = inr (later (sym (ap (λ b. b || list_any (bytes_eq t) vs) is) ∙ e))

one-tested : (t : List ℕ) (vs : List (List ℕ)) → IsOneOf t vs → list_any (bytes_eq t) vs ≡ true
one-tested t [] h = absurd h
one-tested t (v ∷ vs) (inl e) =
    or-left (bytes_eq t v) (list_any (bytes_eq t) vs) ((bytes_eq-Decides t v).1 e)
one-tested t (v ∷ vs) (inr h) = or-right (bytes_eq t v) (list_any (bytes_eq t) vs) (one-tested t vs h)

-- a text that is added

one-behind : (t u : List ℕ) (vs : List (List ℕ)) → IsOneOf t (vs ++ u ∷ []) → IsOneOf t vs ⊎ (t ≡ u)
one-behind t u [] (inl e) = inr e
one-behind t u [] (inr h) = absurd h
one-behind t u (v ∷ vs) (inl e) = inl (inl e)
one-behind t u (v ∷ vs) (inr h) = further (one-behind t u vs h)
  where
    further : IsOneOf t vs ⊎ (t ≡ u) → IsOneOf t (v ∷ vs) ⊎ (t ≡ u)
    further (inl g) = inl (inr g)
    further (inr e) = inr e

one-of-added : (seen : List (List ℕ)) (t u : List ℕ) → IsOneOf t (add_text seen u) → IsOneOf t seen ⊎ (t ≡ u)
one-of-added seen t u h = by-test (list_any (bytes_eq u) seen) h
  where
    by-test : (b : Bool) → IsOneOf t (if b then seen else seen ++ u ∷ []) → IsOneOf t seen ⊎ (t ≡ u)
    by-test true g = inl g
    by-test false g = one-behind t u seen g

different-behind : (u : List ℕ) (vs : List (List ℕ)) → AreDifferent vs → ¬ (IsOneOf u vs)
    → AreDifferent (vs ++ u ∷ [])
different-behind u [] h new = ((λ g. g), tt)
different-behind u (v ∷ vs) h new =
    ((λ g. not-here (one-behind v u vs g)), different-behind u vs h.1 (λ g. new (inr g)))
  where
    not-here : IsOneOf v vs ⊎ (v ≡ u) → ⊥
    not-here (inl g) = h.0 g
    not-here (inr e) = new (inl (sym e))

different-added : (seen : List (List ℕ)) (u : List ℕ) → AreDifferent seen → AreDifferent (add_text seen u)
different-added seen u h = by-test (list_any (bytes_eq u) seen) refl
  where
    by-test : (b : Bool) → list_any (bytes_eq u) seen ≡ b → AreDifferent (if b then seen else seen ++ u ∷ [])
    by-test true is = h
    by-test false is = different-behind u seen h (λ g. let there = one-tested u seen g in absurd (cc))

begins-added : (seen : List (List ℕ)) (u : List ℕ) → (more : List (List ℕ)) × (add_text seen u ≡ seen ++ more)
begins-added seen u = by-test (list_any (bytes_eq u) seen)
  where
    by-test : (b : Bool)
        → (more : List (List ℕ)) × ((if b then seen else seen ++ u ∷ []) ≡ seen ++ more)
    by-test true = ([], sym (append-nil seen))
    by-test false = (u ∷ [], refl)

-- One cell adds its text, or nothing.

abbrev AddsText : List (List ℕ) → Datum → Type 0
AddsText seen c = (t : List ℕ) × (c ≡ text t) × (texts_after seen (c ∷ []) ≡ add_text seen t)

one-cell : (seen : List (List ℕ)) (c : Datum) → (texts_after seen (c ∷ []) ≡ seen) ⊎ AddsText seen c
one-cell seen (text t) = inr (t, refl, refl)
one-cell seen null = inl refl
one-cell seen (truth v) = inl refl
one-cell seen (whole z) = inl refl
one-cell seen (bytes x) = inl refl
one-cell seen (list es) = inl refl
one-cell seen (structure es) = inl refl

-- the values are the texts

texts-seen : (seen : List (List ℕ)) (cs : List Datum) (t : List ℕ) → IsOneOf t (texts_after seen cs)
    → IsOneOf t seen ⊎ IsInCells t cs
texts-seen seen [] t h = inl h
texts-seen seen (c ∷ cs) t h =
    let next = texts_after seen (c ∷ []) in
    by-cell (one-cell seen c)
    (texts-seen next cs t (subst (λ vs. IsOneOf t vs) (sym (texts-next seen c cs)) h))
  where
    by-cell : (texts_after seen (c ∷ []) ≡ seen) ⊎ AddsText seen c
        → IsOneOf t (texts_after seen (c ∷ [])) ⊎ IsInCells t cs → IsOneOf t seen ⊎ IsInCells t (c ∷ cs)
    by-cell (inl same) (inl g) = inl (subst (λ vs. IsOneOf t vs) same g)
    by-cell (inr a) (inl g) = by-added (one-of-added seen t a.0 (subst (λ vs. IsOneOf t vs) a.2 g))
      where
        by-added : IsOneOf t seen ⊎ (t ≡ a.0) → IsOneOf t seen ⊎ IsInCells t (c ∷ cs)
        by-added (inl k) = inl k
        by-added (inr e) = inr (inl (a.1 ∙ ap (λ u. text u) (sym e)))
    by-cell s (inr g) = inr (inr g)

texts-found : (seen : List (List ℕ)) (cs : List Datum) (t : List ℕ) → IsInCells t cs
    → list_any (bytes_eq t) (texts_after seen cs) ≡ true
texts-found seen [] t h = absurd h
texts-found seen (c ∷ cs) t (inl e) =
    let P : Datum → Type 0 = λ d. list_any (bytes_eq t) (texts_after seen (d ∷ cs)) ≡ true in
    subst P (sym e) (kept (add_text seen t) cs t (added seen t))
texts-found seen (c ∷ cs) t (inr h) =
    ap (list_any (bytes_eq t)) (sym (texts-next seen c cs)) ∙ texts-found (texts_after seen (c ∷ [])) cs t h

pub the-texts : AreTheTexts
the-texts cells t =
    ((λ h. behind (texts-seen [] cells t h)), λ h. one-found t (texts_after [] cells) (texts-found [] cells t h))
  where
    behind : IsOneOf t [] ⊎ IsInCells t cells → IsInCells t cells
    behind (inl g) = absurd g
    behind (inr g) = g

-- each once

texts-differ : (seen : List (List ℕ)) (cs : List Datum) → AreDifferent seen → AreDifferent (texts_after seen cs)
texts-differ seen [] h = h
texts-differ seen (c ∷ cs) h =
    subst AreDifferent (texts-next seen c cs) (texts-differ (texts_after seen (c ∷ [])) cs (by-cell (one-cell seen c)))
  where
    by-cell : (texts_after seen (c ∷ []) ≡ seen) ⊎ AddsText seen c → AreDifferent (texts_after seen (c ∷ []))
    by-cell (inl same) = subst AreDifferent (sym same) h
    by-cell (inr a) = subst AreDifferent (sym a.2) (different-added seen a.0 h)

pub differ-in-pairs : DifferInPairs
differ-in-pairs cells = texts-differ [] cells tt

-- in order of first appearance

texts-of-both : (seen : List (List ℕ)) (cs ds : List Datum)
    → texts_after seen (cs ++ ds) ≡ texts_after (texts_after seen cs) ds
texts-of-both seen [] ds = refl
texts-of-both seen (c ∷ cs) ds =
    sym (texts-next seen c (cs ++ ds)) ∙ texts-of-both (texts_after seen (c ∷ [])) cs ds
    ∙ ap (λ vs. texts_after vs ds) (texts-next seen c cs)

texts-begin : (seen : List (List ℕ)) (cs : List Datum)
    → (more : List (List ℕ)) × (texts_after seen cs ≡ seen ++ more)
texts-begin seen [] = ([], sym (append-nil seen))
texts-begin seen (c ∷ cs) =
    let here = by-cell (one-cell seen c) in
    let rest = texts-begin (texts_after seen (c ∷ [])) cs in (
      here.0 ++ rest.0,
      sym (texts-next seen c cs) ∙ rest.1 ∙ ap (λ vs. vs ++ rest.0) here.1 ∙ append_assoc seen here.0 rest.0,
    )
  where
    by-cell : (texts_after seen (c ∷ []) ≡ seen) ⊎ AddsText seen c
        → (more : List (List ℕ)) × (texts_after seen (c ∷ []) ≡ seen ++ more)
    by-cell (inl same) = ([], same ∙ sym (append-nil seen))
    by-cell (inr a) = let one = begins-added seen a.0 in (one.0, a.2 ∙ one.1)

pub begin-alike : BeginAlike
begin-alike cells later =
    let rest = texts-begin (texts_after [] cells) later in (rest.0, texts-of-both [] cells later ∙ rest.1)

-- indices

pub stand-for-their-texts : NameTheirTexts
stand-for-their-texts cells t h =
    let values = texts_after [] cells in
    (position_or_len (bytes_eq t) values, refl, place-found t values (texts-found [] cells t h))

pub sample-is-numbered : SampleIsNumbered
sample-is-numbered = (refl, refl)
