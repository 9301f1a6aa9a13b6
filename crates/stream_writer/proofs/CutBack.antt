-- The batches of a table's rows, joined, are the rows; none could be longer.
use Rattle.std.proofs.Common.{
  ◌≡◌,
  ℕ,
  zero,
  suc,
  ◌+◌,
  ◌-◌,
  ◌<◌,
  ◌≤◌,
  List,
  [],
  ◌∷◌,
  ◌++◌,
  length,
  take,
  drop,
  refl,
  ap,
  sym,
  ◌∙◌,
  arith,
  subst,
  length-drop,
  inl,
  inr,
  ◌⊎◌,
}
use Rattle.std.specs.Prelude.{All}
use Rattle.std.specs.List.{flat_map}
use Rattle.std.proofs.lemmas.Bool.{cases_lt}
use Rattle.std.proofs.lemmas.List.{length-take, take-append-drop, take-take}
use Rattle.std.proofs.Math.Seq.{take-add}
use Rattle.std.proofs.lemmas.List.Elements.{All-drop}
use Rattle.values.specs.Limits.{max_batch_rows, max_batch_weight}
use Rattle.values.specs.Datum.{Datum}
use Rattle.values.specs.Rose.{Rose, Roses}
use Rattle.values.specs.Layouts.{AreLayouts}
use Rattle.values.specs.declared.layout.Layout.{Layout}
use Rattle.values.specs.Logical.{NamedType}
use Rattle.schema_meta.specs.SchemaTree.{AreColumns}
use Rattle.body_writer.specs.Batch.{row_weight, rows_weight}
use Rattle.stream_writer.specs.Stream.{batch_len, batch_messages, batches, beginning, trees}
use Rattle.stream_writer.specs.Table.{IsRow}
use Rattle.stream_writer.specs.CutLaw.{cut, IsFull, AreBatches, CutLaw}
use Rattle.stream_writer.proofs.Cut.{taken, beginning-heavy, batch_len-within, batch-some, batch-sound}

cut-bytes : (coded : List ℕ) (ls : Roses Layout) (most : ℕ) (rows : List (List Datum))
    → batches coded ls most rows ≡ flat_map (batch_messages coded ls) (cut ls most rows)
unfolding batches cut
cut-bytes coded ls zero rows = refl
cut-bytes coded ls (suc most) [] = refl
cut-bytes coded ls (suc most) (row ∷ rows) =
    let n : ℕ = batch_len ls (row ∷ rows) in
    ap (λ rest. batch_messages coded ls (take n (row ∷ rows)) ++ rest) (cut-bytes coded ls most (drop n (row ∷ rows)))

cut-joined : (fs : List (Rose NamedType)) (most : ℕ) (rows : List (List Datum)) → length rows ≤ most
    → All (IsRow fs) rows → flat_map (λ piece. piece) (cut (trees fs) most rows) ≡ rows
unfolding cut
cut-joined fs zero [] few sound = refl
cut-joined fs zero (row ∷ rows) few sound = absurd (omega (arith, few))
cut-joined fs (suc most) [] few sound = refl
cut-joined fs (suc most) (row ∷ rows) few sound =
    let n : ℕ = batch_len (trees fs) (row ∷ rows) in
    let some = batch-some fs (row ∷ rows) (omega arith) sound in
    let left = length-drop n (row ∷ rows) in
    ap (λ rest. take n (row ∷ rows) ++ rest)
    (cut-joined fs most (drop n (row ∷ rows)) (omega (arith, few, some, left))
    (All-drop (IsRow fs) n (row ∷ rows) sound))
    ∙ take-append-drop n (row ∷ rows)

-- the prefix ends at the number, at the end of the rows, or before a row that is too heavy
beginning-full : (ls : Roses Layout) (n room : ℕ) (rows : List (List Datum)) → beginning ls n room rows < length rows →
    (beginning ls n room rows ≡ n) ⊎ (room < rows_weight ls (take (beginning ls n room rows + 1) rows))
beginning-full ls zero room rows h = inl refl
beginning-full ls (suc n) room [] h = absurd (omega (arith, h))
beginning-full ls (suc n) room (row ∷ rows) h =
    let w : ℕ = row_weight ls row in
    let m : ℕ = beginning ls n (room - w) rows in
    let P : ℕ → Type 0 = λ k. (k ≡ suc n) ⊎ (room < rows_weight ls (take (k + 1) (row ∷ rows))) in
    elim (cases_lt room w) [
      | inl heavy ↦ subst P (sym (beginning-heavy ls (suc n) room row rows heavy)) (inr (omega (arith, heavy)))
      | inr light ↦
          (let is = taken w room m light in
          let one : 1 + m ≡ suc m = omega arith in
          let next : suc m + 1 ≡ suc (m + 1) = omega arith in
          let Q : ℕ → Type 0 = λ k. room < rows_weight ls (take k (row ∷ rows)) in
          subst P (sym (is ∙ one)) (elim (beginning-full ls n (room - w) rows (omega (arith, h, is))) [
            | inl all ↦ inl (ap suc all)
            | inr heavy ↦ inr (subst Q (sym next) (omega (arith, heavy, light)))
          ]))
    ]

batch_len-full : (ls : Roses Layout) (rows : List (List Datum)) → batch_len ls rows < length rows →
    (batch_len ls rows ≡ max_batch_rows) ⊎ (max_batch_weight < rows_weight ls (take (batch_len ls rows + 1) rows))
unfolding batch_len
batch_len-full ls rows h = beginning-full ls max_batch_rows max_batch_weight rows h

full : (fs : List (Rose NamedType)) (most : ℕ) (rows left : List (List Datum)) → All (IsRow fs) left
    → drop (batch_len (trees fs) rows) rows ≡ left
    → IsFull (trees fs) (take (batch_len (trees fs) rows) rows) (cut (trees fs) most left)
unfolding cut
full fs zero rows left sound e = tt
full fs (suc most) rows [] sound e = tt
full fs (suc most) rows (x ∷ xs) sound e =
    let n : ℕ = batch_len (trees fs) rows in
    let some = batch-some fs (x ∷ xs) (omega arith) sound in
    let first : take 1 (take (batch_len (trees fs) (x ∷ xs)) (x ∷ xs)) ≡ x ∷ [] =
    take-take 1 (batch_len (trees fs) (x ∷ xs)) (x ∷ xs) (omega (arith, some)) in
    let left = ap length e in
    let behind = length-drop n rows in
    let size = length-take n rows in
    let joined : take (n + 1) rows ≡ take n rows ++ take 1 (take (batch_len (trees fs) (x ∷ xs)) (x ∷ xs)) =
    take-add n 1 rows ∙ ap (λ zs. take n rows ++ take 1 zs) e ∙ ap (λ zs. take n rows ++ zs) (sym first) in
    let Q : List (List Datum) → Type 0 = λ zs. max_batch_weight < rows_weight (trees fs) zs in
    elim (batch_len-full (trees fs) rows (omega (arith, left, behind))) [
      | inl all ↦ inl (omega (arith, all, size, left, behind))
      | inr heavy ↦ inr (subst Q joined heavy)
    ]

cut-sound : (fs : List (Rose NamedType)) (most : ℕ) (rows : List (List Datum)) → AreColumns fs → AreLayouts (trees fs)
    → All (IsRow fs) rows → AreBatches (trees fs) (cut (trees fs) most rows)
unfolding cut
cut-sound fs zero rows columns layouts sound = tt
cut-sound fs (suc most) [] columns layouts sound = tt
cut-sound fs (suc most) (row ∷ rows) columns layouts sound =
    let n : ℕ = batch_len (trees fs) (row ∷ rows) in
    let some = batch-some fs (row ∷ rows) (omega arith) sound in
    let size = length-take n (row ∷ rows) in
    let inside = (batch_len-within (trees fs) (row ∷ rows)).0 in
    let left = All-drop (IsRow fs) n (row ∷ rows) sound in (
      omega (arith, some, size, inside),
      batch-sound fs (row ∷ rows) columns layouts sound,
      full fs most (row ∷ rows) (drop n (row ∷ rows)) left refl,
      cut-sound fs most (drop n (row ∷ rows)) columns layouts left,
    )

pub cut-law : CutLaw
cut-law fields rows table = record {
  bytes = λ coded. cut-bytes coded (trees fields) (length rows) rows;
  joined = cut-joined fields (length rows) rows (omega arith) table.sound;
  sound = cut-sound fields (length rows) rows table.columns table.layouts table.sound;
}
