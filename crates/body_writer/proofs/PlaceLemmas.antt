-- Nodes and buffers are where they are appended.
use Rattle.std.proofs.Common.{
  ◌≡◌,
  ℕ,
  suc,
  ◌+◌,
  ◌-◌,
  ◌%◌,
  ◌≤◌,
  List,
  [],
  ◌∷◌,
  ◌++◌,
  length,
  take,
  drop,
  refl,
  ap,
  sym,
  subst,
  ◌∙◌,
  arith,
  append_assoc,
  length-append,
}
use Rattle.std.specs.Prelude.{slice_range, replicate}
use Rattle.std.proofs.lemmas.List.{drop_at, take_at, length-replicate}
use Rattle.std.proofs.lemmas.List.Elements.{All-nil, All-cons}
use Rattle.array_layout.specs.declared.array.FieldNode.{FieldNode}
use Rattle.array_layout.specs.declared.array.BufferRange.{BufferRange}
use Rattle.array_layout.specs.Placing.{node_at, range_at, bytes_of}
use Rattle.array_layout.specs.Sound.{LiesIn}
use Rattle.body_writer.specs.Body.{padding, padded, laid, ranges_from}
use Rattle.body_writer.specs.Law.{AreNodes, HoldBuffers, NodesAreHeldLaw, BuffersAreHeldLaw, AlignedLaw}

node-here : (before : List FieldNode) (x : FieldNode) (after : List FieldNode)
    → node_at (before ++ x ∷ after) (length before) ≡ x
node-here [] x after = refl
node-here (y ∷ before) x after = node-here before x after

range-here : (before : List BufferRange) (x : BufferRange) (after : List BufferRange)
    → range_at (before ++ x ∷ after) (length before) ≡ x
range-here [] x after = refl
range-here (y ∷ before) x after = range-here before x after

nodes-stand : (all before xs after : List FieldNode) (n : ℕ) → all ≡ before ++ (xs ++ after) → n ≡ length before
    → AreNodes all n xs
nodes-stand all before [] after n is e = tt
nodes-stand all before (x ∷ xs) after n is e =
    let here : node_at all n ≡ x =
    ap (λ ys. node_at ys n) is ∙ ap (λ k. node_at (before ++ x ∷ (xs ++ after)) k) e
    ∙ node-here before x (xs ++ after) in
    let next : all ≡ (before ++ x ∷ []) ++ (xs ++ after) = is ∙ sym (append_assoc before (x ∷ []) (xs ++ after)) in
    let all_before = length-append before (x ∷ []) in
    (here, nodes-stand all (before ++ x ∷ []) xs after (suc n) next (omega (arith, e, all_before)))

pub nodes-stand-law : NodesAreHeldLaw
nodes-stand-law before xs after = nodes-stand (before ++ (xs ++ after)) before xs after (length before) refl refl

range-at : (before x after : List ℕ)
    → slice_range (before ++ (x ++ after)) (length before) (length before + length x) ≡ x
range-at before x after =
    let len : length before + length x - length before ≡ length x = omega arith in
    ap (λ n. take n (drop (length before) (before ++ (x ++ after)))) len
    ∙ ap (λ xs. take (length x) xs) (drop_at before (x ++ after) (length before) refl) ∙ take_at x after (length x) refl

lies : (body before x after : List ℕ) (at : ℕ) → body ≡ before ++ (x ++ after) → at ≡ length before
    → at + length x ≤ length body
lies body before x after at is e =
    let len = ap length is in
    omega (arith, len, e, length-append before (x ++ after), length-append x after)

buffers-stand :
    (body before after : List ℕ) (ranges sb sa : List BufferRange) (xs : List (List ℕ)) (b at : ℕ)
    → body ≡ before ++ (laid xs ++ after) → at ≡ length before
    → ranges ≡ sb ++ (ranges_from at xs ++ sa) → b ≡ length sb → HoldBuffers body ranges b xs
buffers-stand body before after ranges sb sa [] b at is e saturated c = tt
buffers-stand body before after ranges sb sa (x ∷ xs) b at is e saturated c =
    let s : BufferRange = record { from = at; len = length x } in
    let fill : List ℕ = replicate (padding (length x)) 0 in
    let rest : List ℕ = laid xs in
    let later : List BufferRange = ranges_from (at + length (padded x)) xs in
    let here : range_at ranges b ≡ s =
    ap (λ ys. range_at ys b) saturated ∙ ap (λ k. range_at (sb ++ s ∷ (later ++ sa)) k) c
    ∙ range-here sb s (later ++ sa) in
    let open_up : body ≡ before ++ (x ++ (fill ++ (rest ++ after))) =
    is ∙ ap (λ bs. before ++ bs) (append_assoc (x ++ fill) rest after ∙ append_assoc x fill (rest ++ after)) in
    let bytes : slice_range body at (at + length x) ≡ x =
    ap (λ bs. slice_range bs at (at + length x)) open_up
    ∙ ap (λ n. slice_range (before ++ (x ++ (fill ++ (rest ++ after)))) n (n + length x)) e
    ∙ range-at before x (fill ++ (rest ++ after)) in
    let inside = lies body before x (fill ++ (rest ++ after)) at open_up e in
    let next : body ≡ (before ++ padded x) ++ (rest ++ after) =
    is ∙ ap (λ bs. before ++ bs) (append_assoc (padded x) rest after)
    ∙ sym (append_assoc before (padded x) (rest ++ after)) in
    let len = length-append before (padded x) in
    let place : at + length (padded x) ≡ length (before ++ padded x) = omega (arith, e, len) in
    let next_told : ranges ≡ (sb ++ s ∷ []) ++ (later ++ sa) =
    saturated ∙ sym (append_assoc sb (s ∷ []) (later ++ sa)) in
    let all_before = length-append sb (s ∷ []) in
    let next_place : suc b ≡ length (sb ++ s ∷ []) = omega (arith, c, all_before) in
    let P : BufferRange → Type 0 = λ y. LiesIn body y × (bytes_of body y ≡ x) in
    let both : P (range_at ranges b) = subst P (sym here) (inside, bytes) in (
      both.0,
      both.1,
      buffers-stand body (before ++ padded x) after ranges (sb ++ s ∷ []) sa xs (suc b) (at + length (padded x)) next
          place next_told next_place,
    )

pub buffers-stand-law : BuffersAreHeldLaw
buffers-stand-law before after sb sa xs =
    buffers-stand (before ++ (laid xs ++ after)) before after (sb ++ (ranges_from (length before) xs ++ sa)) sb sa xs
    (length sb) (length before) refl refl refl refl

padded-even : (xs : List ℕ) → length (padded xs) % 8 ≡ 0
padded-even xs =
    let fill = length-replicate {A = ℕ} (padding (length xs)) 0 in
    omega (arith, fill, length-append xs (replicate (padding (length xs)) 0))

pub aligned-law : AlignedLaw
aligned-law at [] e = All-nil (λ (s : BufferRange). s.from % 8 ≡ 0)
aligned-law at (x ∷ xs) e =
    let step = padded-even x in
    All-cons (λ (s : BufferRange). s.from % 8 ≡ 0) (record { from = at; len = length x })
    (ranges_from (at + length (padded x)) xs) e
    (aligned-law (at + length (padded x)) xs (omega (arith, e, step)))

pub ruleset standing = (nodes-stand-law, buffers-stand-law, aligned-law)
