-- The values of chunks: of one chunk more, of one chunk less, and one by one.
use Rattle.std.proofs.Common.{
  ◌≡◌,
  ℕ,
  zero,
  suc,
  ◌+◌,
  ◌-◌,
  ◌<◌,
  ◌≤◌,
  List,
  [],
  ◌∷◌,
  ◌++◌,
  length,
  take,
  drop,
  get_or,
  refl,
  ap,
  sym,
  ◌∙◌,
  arith,
  append_assoc,
  append-nil,
}
use Rattle.std.specs.Prelude.{slice_get, None}
use Rattle.std.proofs.lemmas.List.{drop_all, drop_more, take_all, take_more, take-append-drop}
use Rattle.values.specs.Datum.{Datum}
use Rattle.dictionaries.specs.Joined.{joined}

joined-append : (cs ds : List (List Datum)) → joined (cs ++ ds) ≡ joined cs ++ joined ds
joined-append [] ds = refl
joined-append (c ∷ cs) ds = ap (λ r. c ++ r) (joined-append cs ds) ∙ sym (append_assoc c (joined cs) (joined ds))

joined-push : (cs : List (List Datum)) (c : List Datum) → joined (cs ++ c ∷ []) ≡ joined cs ++ c
joined-push cs c = joined-append cs (c ∷ []) ∙ ap (λ r. joined cs ++ r) (append-nil c)

pub joined-take-more : (cs : List (List Datum)) (k : ℕ) (c : List Datum) → k < length cs → c ≡ get_or cs k c
    → joined (take (k + 1) cs) ≡ joined (take k cs) ++ c
joined-take-more cs k c h e = ap joined (take_more cs k c h) ∙ joined-push (take k cs) (get_or cs k c)
    ∙ ap (λ x. joined (take k cs) ++ x) (sym e)

pub joined-take-all : (cs : List (List Datum)) (k : ℕ) → length cs ≤ k → joined (take k cs) ≡ joined cs
joined-take-all cs k h = ap joined (take_all k cs h)

-- the first k chunks, and one with all the other values and more after them
pub joined-extended : (cs : List (List Datum)) (k : ℕ) (ds : List Datum)
    → joined (take k cs ++ (joined (drop k cs) ++ ds) ∷ []) ≡ joined cs ++ ds
joined-extended cs k ds =
    joined-push (take k cs) (joined (drop k cs) ++ ds) ∙ sym (append_assoc (joined (take k cs)) (joined (drop k cs)) ds)
    ∙ ap (λ r. r ++ ds) (sym (joined-append (take k cs) (drop k cs)) ∙ ap joined (take-append-drop k cs))

pub slice_get-left : (xs ys : List Datum) (i : ℕ) → i < length xs → slice_get (xs ++ ys) i ≡ slice_get xs i
slice_get-left [] ys i h = absurd (omega (arith, h))
slice_get-left (x ∷ xs) ys zero h = refl
slice_get-left (x ∷ xs) ys (suc i) h = slice_get-left xs ys i (omega (arith, h))

pub slice_get-right : (xs ys : List Datum) (i j : ℕ) → i ≡ length xs + j → slice_get (xs ++ ys) i ≡ slice_get ys j
slice_get-right [] ys i j e = ap (slice_get ys) (omega (arith, e))
slice_get-right (x ∷ xs) ys zero j e = absurd (omega (arith, e))
slice_get-right (x ∷ xs) ys (suc i) j e = slice_get-right xs ys i j (omega (arith, e))

joined-drop-more : (cs : List (List Datum)) (k : ℕ) (c d : List Datum) → k < length cs → c ≡ get_or cs k d
    → joined (drop k cs) ≡ c ++ joined (drop (k + 1) cs)
joined-drop-more cs k c d h e = ap joined (drop_more cs k d h) ∙ ap (λ x. x ++ joined (drop (k + 1) cs)) (sym e)

-- value i of cs is value j from chunk k on: it is in chunk k, or after it, or there is none
pub in-chunk : (cs : List (List Datum)) (i k j : ℕ) (c d : List Datum)
    → slice_get (joined cs) i ≡ slice_get (joined (drop k cs)) j → k < length cs → c ≡ get_or cs k d
    → j < length c → slice_get (joined cs) i ≡ slice_get c j
in-chunk cs i k j c d same h e here =
    same ∙ ap (λ xs. slice_get xs j) (joined-drop-more cs k c d h e)
    ∙ slice_get-left c (joined (drop (k + 1) cs)) j here

pub behind-chunk : (cs : List (List Datum)) (i k j : ℕ) (c : List Datum)
    → slice_get (joined cs) i ≡ slice_get (joined (drop k cs)) j → k < length cs → c ≡ get_or cs k c
    → length c ≤ j → slice_get (joined cs) i ≡ slice_get (joined (drop (k + 1) cs)) (j - length c)
behind-chunk cs i k j c same h e behind =
    same ∙ ap (λ xs. slice_get xs j) (joined-drop-more cs k c c h e)
    ∙ slice_get-right c (joined (drop (k + 1) cs)) j (j - length c) (omega (arith, behind))

pub behind-all : (cs : List (List Datum)) (i k j : ℕ) → slice_get (joined cs) i ≡ slice_get (joined (drop k cs)) j
    → length cs ≤ k → slice_get (joined cs) i ≡ None
behind-all cs i k j same h = same ∙ ap (λ xs. slice_get (joined xs) j) (drop_all k cs h)

pub ruleset merging = (joined-take-more, joined-take-all, joined-extended)

pub ruleset reading = (behind-chunk, behind-all)

-- the values of one chunk
pub joined-one : (c ds : List Datum) → ds ≡ c → ds ≡ joined (c ∷ [])
joined-one c ds is = is ∙ sym (append-nil c)

pub ruleset one_chunk = (joined-one)
