-- Batches that no later row changes.
use Rattle.std.proofs.Common.{
  ◌≡◌,
  ℕ,
  zero,
  suc,
  ◌+◌,
  ◌-◌,
  ◌<◌,
  ◌≤◌,
  List,
  [],
  ◌∷◌,
  ◌++◌,
  length,
  take,
  drop,
  refl,
  ap,
  sym,
  ◌∙◌,
  arith,
  append_assoc,
  length-append,
  length-drop,
  subst,
  inl,
  inr,
  ◌⊎◌,
}
use Rattle.std.specs.Prelude.{All, Bool, true, false, if◌then◌else◌}
use Rattle.std.specs.List.{flat_map}
use Rattle.std.proofs.lemmas.Bool.{cases_lt}
use Rattle.std.proofs.lemmas.Bool.Decides.{nat_tests}
use Rattle.std.proofs.lemmas.List.{drop-append-le, take-append-drop, take-append-le, take_all}
use Rattle.std.proofs.lemmas.List.Elements.{All-append, All-drop}
use Rattle.values.specs.Limits.{max_batch_rows, max_batch_weight}
use Rattle.values.specs.Datum.{Datum}
use Rattle.values.specs.Rose.{Rose, Roses}
use Rattle.values.specs.declared.layout.Layout.{Layout}
use Rattle.values.specs.Logical.{NamedType}
use Rattle.body_writer.specs.Batch.{row_weight, rows_weight}
use Rattle.stream_writer.specs.Stream.{batch_len, batch_messages, batches, beginning, trees}
use Rattle.stream_writer.specs.Table.{IsRow}
use Rattle.stream_writer.specs.ClosedBatches.{IsClosed, is_open, closed, open_rows, IsSettled, ClosedLaw}
use Rattle.stream_writer.proofs.Cut.{
  taken,
  beginning-heavy,
  batch_len-few,
  batch_len-within,
  batch-some,
  batches-next,
}

beginning-stays : (ls : Roses Layout) (n room : ℕ) (rows more : List (List Datum))
    → (beginning ls n room rows ≡ n) ⊎ (beginning ls n room rows < length rows)
    → beginning ls n room (rows ++ more) ≡ beginning ls n room rows
beginning-stays ls zero room rows more h = refl
beginning-stays ls (suc n) room [] more (inl all) = absurd (omega (arith, all))
beginning-stays ls (suc n) room [] more (inr some) = absurd (omega (arith, some))
beginning-stays ls (suc n) room (row ∷ rows) more h =
    let w : ℕ = row_weight ls row in
    let m : ℕ = beginning ls n (room - w) rows in
    let k : ℕ = beginning ls n (room - w) (rows ++ more) in
    elim (cases_lt room w) [
      | inl heavy ↦
          beginning-heavy ls (suc n) room row (rows ++ more) heavy
          ∙ sym (beginning-heavy ls (suc n) room row rows heavy)
      | inr light ↦
          (let is = taken w room m light in
          let one : (m ≡ n) ⊎ (m < length rows) = elim h [
            | inl all ↦ inl (omega (arith, all, is))
            | inr some ↦ inr (omega (arith, some, is))
          ] in
          taken w room k light ∙ ap (λ x. 1 + x) (beginning-stays ls n (room - w) rows more one) ∙ sym is)
    ]

-- A closed batch stays as it is when rows come.
pub batch_len-stays : (ls : Roses Layout) (rows more : List (List Datum)) → IsClosed ls rows
    → batch_len ls (rows ++ more) ≡ batch_len ls rows
unfolding batch_len
batch_len-stays ls rows more h = beginning-stays ls max_batch_rows max_batch_weight rows more h

pub closed-some : (ls : Roses Layout) (rows : List (List Datum)) → IsClosed ls rows → 0 < length rows
closed-some ls rows (inl all) = let within = (batch_len-within ls rows).0 in omega (arith, all, within)
closed-some ls rows (inr some) = omega (arith, some)

pub left-stays : (ls : Roses Layout) (rows more : List (List Datum))
    → drop (batch_len ls rows) rows ++ more ≡ drop (batch_len ls rows) (rows ++ more)
left-stays ls rows more = sym (drop-append-le (batch_len ls rows) rows more (batch_len-within ls rows).0)

pub first-stays : (ls : Roses Layout) (rows more : List (List Datum))
    → take (batch_len ls rows) (rows ++ more) ≡ take (batch_len ls rows) rows
first-stays ls rows more = take-append-le (batch_len ls rows) rows more (batch_len-within ls rows).0

pub more-some : (rows more : List (List Datum)) → 0 < length rows → 0 < length (rows ++ more)
more-some rows more some = let both = length-append rows more in omega (arith, some, both)

-- The batches with those of later rows begin with the closed batch.
pub batches-closed : (coded : List ℕ) (fs : List (Rose NamedType)) (rows more : List (List Datum))
    → All (IsRow fs) rows → All (IsRow fs) more → IsClosed (trees fs) rows
    → batches coded (trees fs) (length (rows ++ more)) (rows ++ more)
    ≡ batch_messages coded (trees fs) (take (batch_len (trees fs) rows) rows)
    ++ batches coded (trees fs) (length (drop (batch_len (trees fs) rows) rows ++ more))
    (drop (batch_len (trees fs) rows) rows ++ more)
batches-closed coded fs rows more sound later h =
    let ls = trees fs in
    let n : ℕ = batch_len ls rows in
    let F : ℕ → List ℕ = λ k. batch_messages coded ls (take k (rows ++ more))
    ++ batches coded ls (length (drop k (rows ++ more))) (drop k (rows ++ more)) in
    let G : List (List Datum) → List ℕ = λ cs. batch_messages coded ls cs
    ++ batches coded ls (length (drop n (rows ++ more))) (drop n (rows ++ more)) in
    let H : List (List Datum) → List ℕ = λ cs. batch_messages coded ls (take n rows)
    ++ batches coded ls (length cs) cs in
    batches-next coded fs (rows ++ more) (more-some rows more (closed-some ls rows h))
    (All-append (IsRow fs) rows more sound later)
    ∙ ap F (batch_len-stays ls rows more h) ∙ ap G (first-stays ls rows more) ∙ ap H (sym (left-stays ls rows more))

-- open or closed

pub not-open : (ls : Roses Layout) (rows : List (List Datum)) → is_open ls rows ≡ false → IsClosed ls rows
not-open ls rows e =
    let few = batch_len-few ls rows in
    let within = (batch_len-within ls rows).0 in
    elim (cases_lt (batch_len ls rows) (length rows)) [
      | inl some ↦ inr some
      | inr all ↦ inl (grind (arith, nat_tests))
    ]

pub open-all : (ls : Roses Layout) (rows : List (List Datum)) → is_open ls rows ≡ true
    → (batch_len ls rows ≡ length rows) × (length rows < max_batch_rows)
open-all ls rows e = (grind (arith, nat_tests), grind (arith, nat_tests))

open-light : (ls : Roses Layout) (rows : List (List Datum)) → batch_len ls rows ≡ length rows
    → rows_weight ls rows ≤ max_batch_weight
open-light ls rows e =
    let P : List (List Datum) → Type 0 = λ rs. rows_weight ls rs ≤ max_batch_weight in
    subst P (ap (λ k. take k rows) e ∙ take_all (length rows) rows (omega arith)) (batch_len-within ls rows).1

settled-at : (fs : List (Rose NamedType)) (most : ℕ) (rows more : List (List Datum)) (b : Bool)
    → is_open (trees fs) rows ≡ b
    → length rows ≤ suc most → All (IsRow fs) rows → All (IsRow fs) more
    → ((left : List (List Datum)) → length left ≤ most → All (IsRow fs) left
    → IsSettled (trees fs) left more (closed (trees fs) most left) (open_rows (trees fs) most left))
    → IsSettled (trees fs) rows more
    (if b
    then []
    else (take (batch_len (trees fs) rows) rows ∷ closed (trees fs) most (drop (batch_len (trees fs) rows) rows)))
    (if b then rows else open_rows (trees fs) most (drop (batch_len (trees fs) rows) rows))
settled-at fs most rows more true e few sound later on =
    let all = open-all (trees fs) rows e in
    record { bytes = λ coded. refl; joined = refl; few = all.1; light = open-light (trees fs) rows all.0 }
settled-at fs most rows more false e few sound later on =
    let ls = trees fs in
    let n : ℕ = batch_len ls rows in
    let left : List (List Datum) = drop n rows in
    let h = not-open ls rows e in
    let one = batch-some fs rows (closed-some ls rows h) sound in
    let size = length-drop n rows in
    let rest = on left (omega (arith, few, one, size)) (All-drop (IsRow fs) n rows sound) in
    let first : List ℕ → List ℕ = λ coded. batch_messages coded ls (take n rows) in
    record {
      bytes = λ coded. batches-closed coded fs rows more sound later h ∙ ap (λ bs. first coded ++ bs) (rest.bytes coded)
          ∙ sym (append_assoc (first coded) (flat_map (batch_messages coded ls) (closed ls most left))
          (batches coded ls (length (open_rows ls most left ++ more)) (open_rows ls most left ++ more)));
      joined = append_assoc (take n rows) (flat_map (λ piece. piece) (closed ls most left)) (open_rows ls most left)
          ∙ ap (λ rs. take n rows ++ rs) rest.joined ∙ take-append-drop n rows;
      few = rest.few;
      light = rest.light;
    }

settled : (fs : List (Rose NamedType)) (most : ℕ) (rows more : List (List Datum)) → length rows ≤ most
    → All (IsRow fs) rows → All (IsRow fs) more
    → IsSettled (trees fs) rows more (closed (trees fs) most rows) (open_rows (trees fs) most rows)
unfolding closed open_rows
settled fs zero [] more few sound later = record { bytes = λ coded. refl; joined = refl; few = omega arith; light = omega arith }
settled fs zero (row ∷ rows) more few sound later = absurd (omega (arith, few))
settled fs (suc most) rows more few sound later =
    settled-at fs most rows more (is_open (trees fs) rows) refl few sound later
    (λ left less fit. settled fs most left more less fit later)

pub closed-law : ClosedLaw
closed-law fields rows more sound later = settled fields (length rows) rows more (omega arith) sound later
