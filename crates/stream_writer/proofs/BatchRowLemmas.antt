-- Rows that lie in batches.
use Rattle.std.proofs.Common.{
  ◌≡◌,
  ℕ,
  zero,
  suc,
  ◌+◌,
  ◌*◌,
  ◌-◌,
  ◌<◌,
  ◌≤◌,
  List,
  [],
  ◌∷◌,
  ◌++◌,
  length,
  get_or,
  take,
  drop,
  refl,
  ap,
  sym,
  subst,
  ◌∙◌,
  arith,
  append_assoc,
  append-nil,
  length-drop,
  inl,
  inr,
  All,
}
use Rattle.std.specs.Prelude.{min}
use Rattle.std.proofs.lemmas.Bool.{cases_lt}
use Rattle.std.proofs.lemmas.List.{drop_more, drop_all, take_all, drop-drop, length-map}
use Rattle.std.proofs.lemmas.List.Elements.{
  All-append,
  All-cons,
  All-drop,
  All-get_or,
  All-head,
  All-nil,
  All-tail,
  All-weaker,
}
use Rattle.std.specs.List.{flat_map}
use Rattle.std.proofs.lemmas.List.Concat.{flat_map-append}
use Rattle.values.specs.Limits.{max_batch_rows, max_batch_weight}
use Rattle.values.specs.Datum.{Datum}
use Rattle.values.specs.Rose.{Rose, Roses, none, more, kids_of}
use Rattle.values.specs.declared.layout.Layout.{Layout}
use Rattle.values.specs.Logical.{NamedType, trees_of}
use Rattle.body_writer.specs.Batch.{row_weight}
use Rattle.schema_meta.specs.Rows.{rows_from}
use Rattle.body_writer.specs.declared.from_columns.batch.Batch.{Batch}
use Rattle.body_writer.specs.declared.from_columns.batch.RowRange.{RowRange}
use Rattle.body_writer.specs.RowRanges.{batch_rows, rows_of, range_rows, ranges_rows, cells_in, IsSized}
use Rattle.stream_writer.specs.BatchRows.{AreLightRows, AreWeighed, IsInFirst, max_light_row}
use Rattle.stream_writer.specs.Weights.{weights_of}
use Rattle.stream_writer.proofs.FittingLemmas.{weights-left}
use Rattle.stream_writer.specs.Stream.{batch_len, beginning, trees}
use Rattle.stream_writer.proofs.Cut.{beginning-light}

-- where rows are light, a batch has as many as it may

light-beginning : (ls : Roses Layout) (n room : ℕ) (rows : List (List Datum)) → n * max_light_row ≤ room
    → AreLightRows ls rows
    → (length rows ≤ n → beginning ls n room rows ≡ length rows) × (n ≤ length rows → beginning ls n room rows ≡ n)
light-beginning ls zero room rows fits light = (λ h. omega (arith, h), λ h. refl)
light-beginning ls (suc n) room [] fits light = (λ h. refl, λ h. absurd (omega (arith, h)))
light-beginning ls (suc n) room (row ∷ rows) fits light =
    let P : List Datum → Type 0 = λ r. row_weight ls r ≤ max_light_row in
    let here = All-head P row rows light in
    let same : suc n - 1 ≡ n = omega arith in
    let first = beginning-light ls (suc n) room row rows (omega arith) (omega (arith, here, fits)) in
    let moved = ap (λ k. beginning ls k (room - row_weight ls row) rows) same in
    let rest = light-beginning ls n (room - row_weight ls row) rows (omega (arith, here, fits)) (All-tail P row rows
    light) in (
      λ h. let all = rest.0 (omega (arith, h)) in omega (arith, first, moved, all),
      λ h. let all = rest.1 (omega (arith, h)) in omega (arith, first, moved, all),
    )

pub light-len : (ls : Roses Layout) (rows : List (List Datum)) (left count : ℕ) → AreLightRows ls rows
    → left ≡ length rows
    → count ≡ min left max_batch_rows → count ≡ batch_len ls rows
unfolding batch_len
light-len ls rows left count light e is =
    let all = light-beginning ls max_batch_rows max_batch_weight rows (omega arith) light in
    elim (cases_lt max_batch_rows (length rows)) [
      | inl over ↦ let full = all.1 (omega (arith, over)) in omega (arith, full, is, e, over)
      | inr few ↦ let whole = all.0 (omega (arith, few)) in omega (arith, whole, is, e, few)
    ]

-- batch after batch

pub rows_from-length : (columns : List (List Datum)) (i n : ℕ) → length (rows_from columns i n) ≡ n
unfolding rows_from
rows_from-length columns i zero = refl
rows_from-length columns i (suc n) = ap suc (rows_from-length columns (i + 1) n)

pub batch-long : (b : Batch) → length (batch_rows b) ≡ b.rows
batch-long b = rows_from-length (cells_in b.columns.items) 0 b.rows

drop-joined : {A : Type 0} (s : ℕ) (xs ys : List A) → drop s (xs ++ ys) ≡ drop s xs ++ drop (s - length xs) ys
drop-joined zero xs ys = let none_left : 0 - length xs ≡ 0 = omega arith in ap (λ k. xs ++ drop k ys) (sym none_left)
drop-joined (suc s) [] ys = let same : suc s - 0 ≡ suc s = omega arith in ap (λ k. drop k ys) (sym same)
drop-joined (suc s) (x ∷ xs) ys =
    let same : s - length xs ≡ suc s - suc (length xs) = omega arith in
    drop-joined s xs ys ∙ ap (λ k. drop s xs ++ drop k ys) same

take-joined : {A : Type 0} (s : ℕ) (xs ys : List A) → take s (xs ++ ys) ≡ take s xs ++ take (s - length xs) ys
take-joined zero xs ys = let none_left : 0 - length xs ≡ 0 = omega arith in ap (λ k. take k ys) (sym none_left)
take-joined (suc s) [] ys = let same : suc s - 0 ≡ suc s = omega arith in ap (λ k. take k ys) (sym same)
take-joined (suc s) (x ∷ xs) ys =
    let same : s - length xs ≡ suc s - suc (length xs) = omega arith in
    ap (λ zs. x ∷ zs) (take-joined s xs ys ∙ ap (λ k. take s xs ++ take k ys) same)

-- the same of lists of rows

split-at : {X : Type 0} (f : X → List (List Datum)) (xs : List X) (i : ℕ) (x : X) → i < length xs → x ≡ get_or xs i x
    → flat_map f (drop i xs) ≡ f x ++ flat_map f (drop (i + 1) xs)
split-at f xs i x h e =
    ap (flat_map f) (drop_more xs i x h) ∙ ap (λ y. f y ++ flat_map f (drop (i + 1) xs)) (sym e)

pub rows-split : (bs : List Batch) (i : ℕ) (b : Batch) → i < length bs → b ≡ get_or bs i b
    → rows_of (drop i bs) ≡ batch_rows b ++ rows_of (drop (i + 1) bs)
rows-split bs i b h e = split-at batch_rows bs i b h e

pub step-over :
    {X : Type 0} (f : X → List (List Datum)) (xs : List X) (i : ℕ) (x : X) (n from : ℕ) (whole : List (List Datum))
    → i < length xs → x ≡ get_or xs i x → length (f x) ≡ n
    → n ≤ from → drop from (flat_map f (drop i xs)) ≡ whole → drop (from - n) (flat_map f (drop (i + 1) xs)) ≡ whole
step-over f xs i x n from whole some e size past is =
    let behind = flat_map f (drop (i + 1) xs) in
    let gone : drop from (f x) ≡ [] = drop_all from (f x) (omega (arith, size, past)) in
    let same : from - n ≡ from - length (f x) = omega (arith, size) in
    ap (λ k. drop k behind) same ∙ ap (λ ys. ys ++ drop (from - length (f x)) behind) (sym gone)
    ∙ sym (drop-joined from (f x) behind) ∙ ap (drop from) (sym (split-at f xs i x some e)) ∙ is

pub place-step : (bs : List Batch) (i : ℕ) (b : Batch) (from : ℕ) (whole : List (List Datum)) → i < length bs
    → b ≡ get_or bs i b
    → b.rows ≤ from → drop from (rows_of (drop i bs)) ≡ whole → drop (from - b.rows) (rows_of (drop (i + 1) bs)) ≡ whole
place-step bs i b from whole some e past is =
    step-over batch_rows bs i b b.rows from whole some e (batch-long b) past is

pub first-is : (bs : List Batch) (i : ℕ) (b : Batch) (from : ℕ) → i < length bs → b ≡ get_or bs i b → from < b.rows
    → IsInFirst from (drop i bs)
first-is bs i b from h e less =
    subst (IsInFirst from) (sym (drop_more bs i b h)) (subst (λ (x : Batch). from < x.rows) e less)

pub rest-is : {A : Type 0} (xs : List A) (i : ℕ) → i ≤ length xs → take (length xs - i) (drop i xs) ≡ drop i xs
rest-is xs i h = let left = length-drop i xs in take_all (length xs - i) (drop i xs) (omega (arith, left))

take-least : {A : Type 0} (n m : ℕ) (xs : List A) → m ≡ min (length xs) n → take n xs ≡ take m xs
take-least n m xs e = elim (cases_lt n (length xs)) [
  | inl less ↦ let same : n ≡ m = omega (arith, e, less) in ap (λ k. take k xs) same
  | inr over ↦ take_all n xs over ∙ sym (take_all m xs (omega (arith, e, over)))
]

-- the n rows of the first, and those of the ones after it

range-split : (rows others : List (List Datum)) (n from left to : ℕ) → length rows ≡ n → from < to
    → to ≡ min n (from + left)
    → take left (drop from (rows ++ others))
    ≡ take (to - from) (drop from rows) ++ take (left - (to - from)) (drop (from - n) others)
range-split rows others n from left to size some e =
    let behind = length-drop from rows in
    let same : from - length rows ≡ from - n = omega (arith, size) in
    let here : take left (drop from rows) ≡ take (to - from) (drop from rows) =
    take-least left (to - from) (drop from rows) (omega (arith, size, behind, some, e)) in
    let rest : take (left - length (drop from rows)) (drop (from - n) others) ≡ take (left - (to - from)) (drop (from - n) others) =
    (let k : left - length (drop from rows) ≡ left - (to - from) = omega (arith, size, behind, some, e) in
    ap (λ m. take m (drop (from - n) others)) k) in
    ap (take left) (drop-joined from rows others ∙ ap (λ k. drop from rows ++ drop k others) same)
    ∙ take-joined left (drop from rows) (drop (from - n) others)
    ∙ ap (λ xs. xs ++ take (left - length (drop from rows)) (drop (from - n) others)) here
    ∙ ap (λ ys. take (to - from) (drop from rows) ++ ys) rest

range-none : (rows others : List (List Datum)) (n from left to : ℕ) → length rows ≡ n → to ≤ from → 0 < left
    → to ≡ min n (from + left)
    → take left (drop from (rows ++ others)) ≡ take left (drop (from - n) others)
range-none rows others n from left to size past some e =
    let gone : drop from rows ≡ [] = drop_all from rows (omega (arith, size, past, some, e)) in
    let same : from - length rows ≡ from - n = omega (arith, size) in
    ap (take left) (drop-joined from rows others ∙ ap (λ k. drop from rows ++ drop k others) same
    ∙ ap (λ xs. xs ++ drop (from - n) others) gone)

pub ranges-more : (rs : List RowRange) (r : RowRange) → ranges_rows (rs ++ r ∷ []) ≡ ranges_rows rs ++ range_rows r
ranges-more rs r = flat_map-append range_rows rs (r ∷ []) ∙ ap (λ cs. ranges_rows rs ++ cs) (append-nil (range_rows r))

pub all-ranges : (P : RowRange → Type 0) (rs : List RowRange) (r : RowRange) → All P rs → P r → All P (rs ++ r ∷ [])
all-ranges P rs r all one = All-append P rs (r ∷ []) all (All-cons P r [] one (All-nil P))

pub batch-sized : (n : ℕ) (bs : List Batch) (i : ℕ) (b : Batch) → i < length bs → b ≡ get_or bs i b
    → All (IsSized n) bs → IsSized n b
batch-sized n bs i b h e all = subst (IsSized n) (sym e) (All-get_or (IsSized n) bs i b h all)

pub rows-then :
    {X : Type 0} (f : X → List (List Datum)) (bs : List X) (i : ℕ) (b : X) (n start left to next others : ℕ)
    (rs more_ranges : List RowRange) (r : RowRange)
    (whole : List (List Datum)) → i < length bs → b ≡ get_or bs i b → length (f b) ≡ n → start < to
    → to ≡ min n (start + left)
    → more_ranges ≡ rs ++ r ∷ [] → range_rows r ≡ take (to - start) (drop start (f b))
    → others ≡ left - (to - start)
    → next ≡ start - n → ranges_rows rs ++ take left (drop start (flat_map f (drop i bs))) ≡ whole
    → ranges_rows more_ranges ++ take others (drop next (flat_map f (drop (i + 1) bs))) ≡ whole
rows-then f bs i b n start left to next others rs more_ranges r whole h e size some least grown here fewer on is =
    let behind = flat_map f (drop (i + 1) bs) in
    let split = ap (λ rows. take left (drop start rows)) (split-at f bs i b h e)
    ∙ range-split (f b) behind n start left to size some least in
    ap (λ k. ranges_rows more_ranges ++ take k (drop next behind)) fewer
    ∙ ap (λ k. ranges_rows more_ranges ++ take (left - (to - start)) (drop k behind)) on
    ∙ ap (λ xs. xs ++ take (left - (to - start)) (drop (start - n) behind)) (ap ranges_rows grown
    ∙ ranges-more rs r
    ∙ ap (λ ys. ranges_rows rs ++ ys) here)
    ∙ append_assoc (ranges_rows rs) (take (to - start) (drop start (f b))) (take (left - (to - start)) (drop
    (start - n) behind))
    ∙ ap (λ ys. ranges_rows rs ++ ys) (sym split) ∙ is

pub rows-else :
    {X : Type 0} (f : X → List (List Datum)) (bs : List X) (i : ℕ) (b : X) (n start left to next others : ℕ)
    (rs same_ranges : List RowRange)
    (whole : List (List Datum)) → i < length bs → b ≡ get_or bs i b → length (f b) ≡ n → to ≤ start → 0 < left
    → to ≡ min n (start + left)
    → same_ranges ≡ rs → others ≡ left → next ≡ start - n
    → ranges_rows rs ++ take left (drop start (flat_map f (drop i bs))) ≡ whole
    → ranges_rows same_ranges ++ take others (drop next (flat_map f (drop (i + 1) bs))) ≡ whole
rows-else f bs i b n start left to next others rs same_ranges whole h e size past some least same fewer on is =
    let behind = flat_map f (drop (i + 1) bs) in
    let split = ap (λ rows. take left (drop start rows)) (split-at f bs i b h e)
    ∙ range-none (f b) behind n start left to size past some least in
    ap (λ k. ranges_rows same_ranges ++ take k (drop next behind)) fewer
    ∙ ap (λ k. ranges_rows same_ranges ++ take left (drop k behind)) on
    ∙ ap (λ xs. ranges_rows xs ++ take left (drop (start - n) behind)) same
    ∙ ap (λ ys. ranges_rows rs ++ ys) (sym split) ∙ is

-- as many layouts as columns

abbrev pub count : {A : Type 0} → Roses A → ℕ
count none = 0
count (more t ts) = 1 + count ts

count-kids : {A : Type 0} (ts : List (Rose A)) → count (kids_of ts) ≡ length ts
count-kids [] = refl
count-kids (t ∷ ts) = let rest = count-kids ts in omega (arith, rest)

count-trees : (fs : Roses NamedType) → count (trees_of fs) ≡ count fs
count-trees none = refl
count-trees (more f fs) = let rest = count-trees fs in omega (arith, rest)

pub as-many : (ls : List (Rose Layout)) (fs : List (Rose NamedType)) → kids_of ls ≡ trees fs → length ls ≡ length fs
as-many ls fs e = sym (count-kids ls) ∙ ap count e ∙ count-trees (kids_of fs) ∙ count-kids fs

-- the rows after those that are skipped

pub skipped : (rows : List (List Datum)) (from n : ℕ) (left : List (List Datum)) → left ≡ drop (from + n) rows
    → left ≡ drop n (drop from rows)
skipped rows from n left is = is ∙ sym (drop-drop n from rows)

pub light-left : (ls : Roses Layout) (rows left : List (List Datum)) (n : ℕ) → left ≡ drop n rows
    → AreLightRows ls rows → AreLightRows ls left
light-left ls rows left n is light =
    let P : List Datum → Type 0 = λ row. row_weight ls row ≤ max_light_row in
    subst (AreLightRows ls) (sym is) (All-drop P n rows light)

pub light-as : (us ls : Roses Layout) (rows : List (List Datum)) → us ≡ ls → AreLightRows ls rows → AreLightRows us rows
light-as us ls rows same light = subst (λ (ts : Roses Layout). AreLightRows ts rows) (sym same) light

pub sized-as : (m n : ℕ) (bs : List Batch) → m ≡ n → All (IsSized n) bs → All (IsSized m) bs
sized-as m n bs same sized = subst (λ (k : ℕ). All (IsSized k) bs) (sym same) sized

-- what is known of the weights

pub weighed-light : (ls : Roses Layout) (ws : List ℕ) (rows : List (List Datum)) → AreWeighed ls ws rows
    → length ws ≡ 0 → AreLightRows ls rows
weighed-light ls ws rows (inl light) e = light.1
weighed-light ls ws rows (inr is) e =
    let many = ap length is ∙ length-map rows (row_weight ls) in none-light ls rows (omega (arith, many, e))
  where
    none-light : (ls : Roses Layout) (rows : List (List Datum)) → length rows ≡ 0 → AreLightRows ls rows
    none-light ls [] h = All-nil (λ (row : List Datum). row_weight ls row ≤ max_light_row)
    none-light ls (row ∷ rows) h = absurd (omega (arith, h))

pub weighed-each : (ls : Roses Layout) (ws : List ℕ) (rows : List (List Datum)) → AreWeighed ls ws rows
    → 0 < length ws → ws ≡ weights_of ls rows
weighed-each ls ws rows (inl light) some = let none_there = ap length light.0 in absurd (omega (arith, none_there, some))
weighed-each ls ws rows (inr is) some = is

pub weighed-many : (ls : Roses Layout) (ws : List ℕ) (rows : List (List Datum)) → AreWeighed ls ws rows
    → 0 < length ws → length ws ≡ length rows
weighed-many ls ws rows known some = ap length (weighed-each ls ws rows known some) ∙ length-map rows (row_weight ls)

pub weighed-left : (ls : Roses Layout) (ws : List ℕ) (rows left : List (List Datum)) (n k : ℕ)
    → AreWeighed ls ws rows → left ≡ drop n rows → n ≤ length rows → k ≡ min n (length ws)
    → AreWeighed ls (drop k ws) left
weighed-left ls ws rows left n k (inl light) is within least =
    inl (ap (drop k) light.0 ∙ drop_all k [] (omega arith), light-left ls rows left n is light.1)
weighed-left ls ws rows left n k (inr e) is within least =
    let many = ap length e ∙ length-map rows (row_weight ls) in
    let same : k ≡ n = omega (arith, many, within, least) in
    inr (ap (λ i. drop i ws) same ∙ weights-left ls n rows left ws e is)

no-items : {A : Type 0} (xs : List A) → length xs ≡ 0 → xs ≡ []
no-items [] e = refl
no-items (x ∷ xs) e = absurd (omega (arith, e))

-- light rows with light ones
pub weighed-more : (ls : Roses Layout) (ws : List ℕ) (rows new : List (List Datum)) (heaviest : ℕ)
    → AreWeighed ls ws rows → length ws ≡ 0 → heaviest ≤ max_light_row
    → All (λ (row : List Datum). row_weight ls row ≤ heaviest) new → AreWeighed ls ws (rows ++ new)
weighed-more ls ws rows new heaviest known none_there few light =
    let R : List Datum → Type 0 = λ row. row_weight ls row ≤ max_light_row in
    inl (
      no-items ws none_there,
      All-append R rows new (weighed-light ls ws rows known none_there)
          (All-weaker (λ (row : List Datum). row_weight ls row ≤ heaviest) R (λ row h. omega (arith, h, few)) new light),
    )
