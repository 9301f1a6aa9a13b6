-- What is retained of some bytes, and of more of them.
use Rattle.std.proofs.Common.{
  ◌≡◌,
  ℕ,
  zero,
  suc,
  ◌+◌,
  ◌-◌,
  ◌≤◌,
  Option,
  None,
  Some,
  Ok,
  Err,
  List,
  [],
  ◌∷◌,
  ◌++◌,
  length,
  take,
  drop,
  refl,
  ap,
  sym,
  subst,
  ◌∙◌,
  arith,
  length-append,
  length-drop,
}
use Rattle.std.specs.Prelude.{slice_range}
use Rattle.std.proofs.lemmas.List.{take-append-le, drop-append-le, length-take-le, nil_from_length, drop-take}
use Rattle.std.proofs.Math.Seq.{take-append-add}
use Rattle.values.specs.Rose.{Rose}
use Rattle.values.specs.Reading.{Reading}
use Rattle.values.specs.Logical.{NamedType}
use Rattle.dictionaries.specs.Batches.{DictionaryBatch}
use Rattle.schema_meta.specs.Framing.{first}
use Rattle.schema_meta.specs.SchemaLaw.{before}
use Rattle.schema_meta.specs.Sound.{after}
use Rattle.schema_meta.specs.Story.{fields_of}
use Rattle.schema_meta.specs.Stage.{Known, Whole, end_of}
use Rattle.messages.specs.Laws.{FirstMessageLaw}
use Rattle.messages.specs.MessageLaw.{IsMessage}
use Rattle.feed.specs.Retained.{Retained, retained, retained_of, retained_after, brought, brought_by}

abbrev pub retained_here : Known → List DictionaryBatch → List ℕ → Retained
retained_here known ds bytes = record { known = known; dictionaries = ds; held = bytes }

-- bytes after a message don't affect its body
pub same-range : (bytes more : List ℕ) (a b : ℕ) → a ≤ b → b ≤ length bytes
    → slice_range (bytes ++ more) a b ≡ slice_range bytes a b
same-range bytes more a b order within =
    ap (λ xs. take (b - a) xs) (drop-append-le a bytes more (omega (arith, order, within)))
    ∙ take-append-le (b - a) (drop a bytes) more (omega (arith, order, within, length-drop a bytes))

pub front-below : (w : Whole) → w.front ≤ end_of w
front-below w = omega arith

take-front : (xs ys : List ℕ) (u e : ℕ) → u + length xs ≡ e → take e (xs ++ ys) ≡ xs ++ take u ys
take-front xs ys u e is =
    ap (λ n. take n (xs ++ ys)) (omega (arith, is)) ∙ take-append-add xs ys u

take-twice : (n : ℕ) (ys : List ℕ) → take n (take n ys) ≡ take n ys
take-twice zero ys = refl
take-twice (suc n) [] = refl
take-twice (suc n) (y ∷ ys) = ap (λ zs. y ∷ zs) (take-twice n ys)

take-range : (xs : List ℕ) (a b : ℕ) → a ≤ b → slice_range (take b xs) a b ≡ slice_range xs a b
take-range xs a b order =
    let sum : a + (b - a) ≡ b = omega (arith, order) in
    let cut : drop a (take b xs) ≡ take (b - a) (drop a xs) =
    subst (λ n. drop a (take n xs) ≡ take (b - a) (drop a xs)) sum (drop-take a (b - a) xs) in
    ap (λ ys. take (b - a) ys) cut ∙ take-twice (b - a) (drop a xs)

-- what is retained after a message that a piece completes
abbrev pub retained_past : Retained → List ℕ → Whole → Retained
retained_past k piece w =
    record {
      known = after k.known w.meta;
      dictionaries = k.dictionaries ++ brought (after k.known w.meta) (k.held ++ piece) w;
      held = [];
    }

module _ (laws : FirstMessageLaw) where
  pub retained-step :
      (n : ℕ) (known : Known) (ds : List DictionaryBatch) (bytes : List ℕ) (r : Reading (Option Whole))
      → first known bytes ≡ r
      → retained (suc n) known ds bytes ≡ retained_after (retained n) known ds bytes r
  unfolding retained
  retained-step n known ds bytes r is = ap (λ m. retained_after (retained n) known ds bytes m) is

  -- where no message is whole
  pub retained-none :
      (n : ℕ) (known : Known) (ds : List DictionaryBatch) (bytes : List ℕ) → first known bytes ≡ Ok None
      → retained n known ds bytes ≡ retained_here known ds bytes
  unfolding retained
  retained-none zero known ds bytes is = refl
  retained-none (suc n) known ds bytes is = retained-step n known ds bytes (Ok None) is

  pub retained-empty : (n : ℕ) (known : Known) (ds : List DictionaryBatch)
      → retained n known ds [] ≡ retained_here known ds []
  retained-empty n known ds = retained-none n known ds [] (laws.none known)

  -- how many bytes come after a message
  pub left-after : (known : Known) (bytes : List ℕ) (w : Whole) → first known bytes ≡ Ok (Some w)
      → length (drop (end_of w) bytes) + 8 ≤ length bytes
  left-after known bytes w is =
      let m : IsMessage known bytes w = laws.message known bytes w is in
      omega (arith, m.framed, m.within, length-drop (end_of w) bytes)

  -- more messages than there are bytes change nothing
  pub retained-fuel :
      (n m : ℕ) (known : Known) (ds : List DictionaryBatch) (bytes : List ℕ) → length bytes ≤ n → length bytes ≤ m
      → retained n known ds bytes ≡ retained m known ds bytes
  retained-fuel zero m known ds bytes a b =
      let none : bytes ≡ [] = nil_from_length bytes (omega (arith, a)) in
      subst (λ xs. retained zero known ds xs ≡ retained m known ds xs) (sym none) (retained-empty zero known ds
      ∙ sym (retained-empty m known ds))
  retained-fuel (suc n) zero known ds bytes a b =
      let none : bytes ≡ [] = nil_from_length bytes (omega (arith, b)) in
      subst (λ xs. retained (suc n) known ds xs ≡ retained zero known ds xs) (sym none) (retained-empty (suc n) known ds
      ∙ sym (retained-empty zero known ds))
  retained-fuel (suc n) (suc m) known ds bytes a b =
      by_reading (λ k es xs. retained-fuel n m k es xs) (first known bytes) refl where
        by_reading : ((k : Known) (es : List DictionaryBatch) (xs : List ℕ) → length xs ≤ n → length xs ≤ m
            → retained n k es xs ≡ retained m k es xs)
            → (r : Reading (Option Whole)) → first known bytes ≡ r
            → retained (suc n) known ds bytes ≡ retained (suc m) known ds bytes
        by_reading same (Err fs) is = retained-step n known ds bytes (Err fs) is
            ∙ sym (retained-step m known ds bytes (Err fs) is)
        by_reading same (Ok None) is =
            retained-step n known ds bytes (Ok None) is ∙ sym (retained-step m known ds bytes (Ok None) is)
        by_reading same (Ok (Some w)) is =
            let less : length (drop (end_of w) bytes) + 8 ≤ length bytes = left-after known bytes w is in
            let now : Known = after known w.meta in
            let more : List DictionaryBatch = ds ++ brought now bytes w in
            retained-step n known ds bytes (Ok (Some w)) is
            ∙ same now more (drop (end_of w) bytes) (omega (arith, a, less)) (omega (arith, b, less))
            ∙ sym (retained-step m known ds bytes (Ok (Some w)) is)

  pub held-short : (n : ℕ) (known : Known) (ds : List DictionaryBatch) (bytes : List ℕ)
      → length (retained n known ds bytes).held ≤ length bytes
  unfolding retained
  held-short zero known ds bytes = omega arith
  held-short (suc n) known ds bytes = by_reading (λ k es xs. held-short n k es xs) (first known bytes) refl where
    by_reading : ((k : Known) (es : List DictionaryBatch) (xs : List ℕ) → length (retained n k es xs).held ≤ length xs)
        → (r : Reading (Option Whole)) → first known bytes ≡ r
        → length (retained_after (retained n) known ds bytes r).held ≤ length bytes
    by_reading short (Err fs) is = omega arith
    by_reading short (Ok None) is = omega arith
    by_reading short (Ok (Some w)) is =
        let less : length (drop (end_of w) bytes) + 8 ≤ length bytes = left-after known bytes w is in
        let now : Known = after known w.meta in
        omega (arith, less, short now (ds ++ brought now bytes w) (drop (end_of w) bytes))

  -- what is retained of all bytes, from what is retained of the first ones
  abbrev resumed : ℕ → Retained → List ℕ → Retained
  resumed n k more = retained n k.known k.dictionaries (k.held ++ more)

  pub retained-join :
      (n : ℕ) (known : Known) (ds : List DictionaryBatch) (bytes more : List ℕ) → length (bytes ++ more) ≤ n
      → retained n known ds (bytes ++ more) ≡ resumed n (retained n known ds bytes) more
  retained-join zero known ds bytes more small =
      let some = length-append bytes more in
      let no_bytes : bytes ≡ [] = nil_from_length bytes (omega (arith, small, some)) in
      subst (λ xs. retained zero known ds (xs ++ more) ≡ resumed zero (retained zero known ds xs) more) (sym no_bytes)
      (ap (λ k. resumed zero k more) (sym (retained-empty zero known ds)))
  retained-join (suc n) known ds bytes more small =
      by_reading (λ k es xs. retained-join n k es xs more) (first known bytes) refl where
        by_reading : ((k : Known) (es : List DictionaryBatch) (xs : List ℕ) → length (xs ++ more) ≤ n
            → retained n k es (xs ++ more) ≡ resumed n (retained n k es xs) more)
            → (r : Reading (Option Whole)) → first known bytes ≡ r
            → retained (suc n) known ds (bytes ++ more) ≡ resumed (suc n) (retained (suc n) known ds bytes) more
        by_reading join (Err fs) is =
            ap (λ k. resumed (suc n) k more) (sym (retained-step n known ds bytes (Err fs) is))
        by_reading join (Ok None) is =
            ap (λ k. resumed (suc n) k more) (sym (retained-step n known ds bytes (Ok None) is))
        by_reading join (Ok (Some w)) is =
            let m : IsMessage known bytes w = laws.message known bytes w is in
            let size = length-append bytes more in
            let less : length (drop (end_of w) bytes) + 8 ≤ length bytes = left-after known bytes w is in
            let now : Known = after known w.meta in
            let rest : List ℕ = drop (end_of w) bytes in
            let es : List DictionaryBatch = ds ++ brought now bytes w in
            let size_rest = length-append rest more in
            let k : Retained = retained n now es rest in
            let short : length k.held ≤ length rest = held-short n now es rest in
            let size_held = length-append k.held more in
            let body : slice_range (bytes ++ more) w.front (end_of w) ≡ slice_range bytes w.front (end_of w) =
            same-range bytes more w.front (end_of w) (front-below w) m.within in
            retained-step n known ds (bytes ++ more) (Ok (Some w)) (laws.whole known bytes more w is)
            ∙ ap (λ b. retained n now (ds ++ brought_by (fields_of now) b w.meta.header)
            (drop (end_of w) (bytes ++ more)))
            body
            ∙ ap (λ xs. retained n now es xs) (drop-append-le (end_of w) bytes more m.within)
            ∙ join now es rest (omega (arith, small, size, size_rest, less))
            ∙ retained-fuel n (suc n) k.known k.dictionaries (k.held ++ more)
            (omega (arith, small, size, size_held, short, less)) (omega (arith, small, size, size_held, short, less))
            ∙ ap (λ x. resumed (suc n) x more) (sym (retained-step n known ds bytes (Ok (Some w)) is))

  -- the same of all that was consumed
  pub retained_of-join :
      (declared : Option (List (Rose NamedType))) (bytes more : List ℕ)
      → retained_of declared (bytes ++ more) ≡ resumed (length (bytes ++ more)) (retained_of declared bytes) more
  unfolding retained_of
  retained_of-join declared bytes more =
      let size = length-append bytes more in
      retained-join (length (bytes ++ more)) (before declared) [] bytes more (omega arith)
      ∙ ap (λ k. resumed (length (bytes ++ more)) k more)
      (retained-fuel (length (bytes ++ more)) (length bytes) (before declared) [] bytes (omega (arith, size))
      (omega arith))

  pub held-within : (declared : Option (List (Rose NamedType))) (bytes : List ℕ)
      → length (retained_of declared bytes).held ≤ length bytes
  unfolding retained_of
  held-within declared bytes = held-short (length bytes) (before declared) [] bytes

  -- after a piece that completes no message
  pub after-partial :
      (declared : Option (List (Rose NamedType))) (bytes piece : List ℕ) (k : Retained) → retained_of declared bytes ≡ k
      → first k.known (k.held ++ piece) ≡ Ok None
      → retained_of declared (bytes ++ piece) ≡ retained_here k.known k.dictionaries (k.held ++ piece)
  after-partial declared bytes piece k there is =
      retained_of-join declared bytes piece
      ∙ ap (λ x. resumed (length (bytes ++ piece)) x piece) there
      ∙ retained-none (length (bytes ++ piece)) k.known k.dictionaries (k.held ++ piece) is

  -- after a piece up to the end of the message that it completes
  pub after-whole :
      (declared : Option (List (Rose NamedType))) (bytes piece : List ℕ) (k : Retained) (w : Whole) (used : ℕ)
      → retained_of declared bytes ≡ k
      → first k.known (k.held ++ piece) ≡ Ok (Some w) → used + length k.held ≡ end_of w
      → retained_of declared (bytes ++ take used piece) ≡ retained_past k piece w
  after-whole declared bytes piece k w used there is size = by_count (length (bytes ++ own)) refl where
    own : List ℕ
    own = take used piece

    all : List ℕ
    all = k.held ++ piece

    m : IsMessage k.known all w
    m = laws.message k.known all w is

    front : take (end_of w) all ≡ k.held ++ own
    front = take-front k.held piece used (end_of w) size

    there_alone : first k.known (k.held ++ own) ≡ Ok (Some w)
    there_alone = subst (λ xs. first k.known xs ≡ Ok (Some w)) front (laws.alone k.known all w is)

    whole_size : length (take (end_of w) all) ≡ end_of w
    whole_size = length-take-le (end_of w) all m.within

    now : Known
    now = after k.known w.meta

    ds : List DictionaryBatch
    ds = k.dictionaries ++ brought now (k.held ++ own) w

    body : slice_range (k.held ++ own) w.front (end_of w) ≡ slice_range all w.front (end_of w)
    body = ap (λ xs. slice_range xs w.front (end_of w)) (sym front) ∙ take-range all w.front (end_of w) (front-below w)

    none_left : drop (end_of w) (k.held ++ own) ≡ []
    none_left =
        nil_from_length (drop (end_of w) (k.held ++ own))
        (omega (arith, length-drop (end_of w) (k.held ++ own), whole_size, ap length front))

    by_count : (n : ℕ) → length (bytes ++ own) ≡ n → retained_of declared (bytes ++ own) ≡ retained_past k piece w
    by_count zero count =
        let held = held-within declared bytes in
        let same : length (retained_of declared bytes).held ≡ length k.held = ap (λ x. length x.held) there in
        absurd (omega (
          arith,
          count,
          length-append bytes own,
          whole_size,
          ap length front,
          length-append k.held own,
          held,
          same,
          m.framed,
        ))
    by_count (suc n) count =
        retained_of-join declared bytes own
        ∙ ap (λ x. resumed (length (bytes ++ own)) x own) there
        ∙ ap (λ c. retained c k.known k.dictionaries (k.held ++ own)) count
        ∙ retained-step n k.known k.dictionaries (k.held ++ own) (Ok (Some w)) there_alone
        ∙ ap (λ xs. retained n now ds xs) none_left
        ∙ retained-empty n now ds
        ∙ ap (λ b. retained_here now (k.dictionaries ++ brought_by (fields_of now) b w.meta.header) []) body
