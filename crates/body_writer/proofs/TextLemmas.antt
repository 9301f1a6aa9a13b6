-- What slices of texts are, for the functions that read them.
use Rattle.std.proofs.Common.{◌≡◌, ℕ, ◌+◌, ◌-◌, ◌<◌, ◌≤◌, ◌^◌, List, [], ◌∷◌, ◌++◌, length, get_or, drop, Option, All, refl, ap, sym, subst, ◌∙◌, append_assoc, append-nil, arith, pos, inl, inr}
use Rattle.std.specs.Prelude.{map, ◌==◌, if◌then◌else◌}
use Rattle.std.specs.List.{flat_map}
use Rattle.std.proofs.lemmas.List.{drop_all, drop_more, length-map, map-append}
use Rattle.std.proofs.lemmas.List.Elements.{All-head, All-tail, All-weaker}
use denote.Ref.{Bor}
use Rattle.bitmaps.specs.Packed.{bytes_of}
use Rattle.values.specs.Datum.{Datum, null, text, bytes}
use Rattle.values.specs.Reading.{Reading}
use Rattle.values.specs.Rose.{Rose, Roses, node, none, more}
use Rattle.values.specs.declared.layout.OffsetWidth.{OffsetWidth}
use Rattle.values.specs.declared.layout.Layout.{Layout}
use Rattle.values.specs.declared.layout.Layout.TheVariants.{Binary}
use Rattle.values.specs.Layouts.{IsText, IsBytes, IsNode, IsLayout, Holds}
use Rattle.body_writer.specs.declared.body.Body.{Body}
use Rattle.body_writer.specs.Slots.{is_valid, bytes_in, length_in, null_count, total_length}
use Rattle.body_writer.specs.Columns.{
  validity,
  offsets,
  offsets_from,
  joined,
  own_node,
  own_buffers,
  nodes,
  nodes_below,
  buffers,
  buffers_below,
}
use Rattle.body_writer.specs.Grows.{Grows}
use Rattle.body_writer.proofs.WeightLemmas.{total-short}
use Rattle.values.specs.Weights.{weights}
use Rattle.body_writer.proofs.Cells.{validity-none, validity-some}
use Rattle.body_writer.specs.Runs.{cell_in, slots, HasBytes}
use Rattle.body_writer.specs.Texts.{as_bytes, bytes_cell, bytes_cells}
use Rattle.body_writer.proofs.BitLemmas.{slots-next, slots-none}

pub texts-at : (texts : List (Option (Bor (List ℕ)))) (i : ℕ) (slice : Option (Bor (List ℕ))) → i < length texts
    → slice ≡ get_or texts i slice
    → bytes_cells (drop i texts) ≡ bytes_cell slice ∷ bytes_cells (drop (i + 1) texts)
texts-at texts i slice h e =
    ap bytes_cells (drop_more texts i slice h) ∙ ap (λ s. bytes_cell s ∷ bytes_cells (drop (i + 1) texts)) (sym e)

pub ruleset steps = (texts-at, length-map)

pub ruleset bits = (texts-at, length-map, validity-none, validity-some)

pub all-read :
    {A : Type 0} (f : Datum → A) (texts : List (Option (Bor (List ℕ)))) (made : List A) (i : ℕ) → length texts ≤ i
    → made ++ map f (bytes_cells (drop i texts)) ≡ map f (bytes_cells texts) → made ≡ map f (bytes_cells texts)
all-read f texts made i h e =
    sym (append-nil made) ∙ ap (λ rest. made ++ map f (bytes_cells rest)) (sym (drop_all i texts h)) ∙ e

-- slot after slot

pub text-step :
    (read : ℕ → Reading Datum) (i to : ℕ) (r : Option (Bor (List ℕ))) (made next : List (Option (Bor (List ℕ))))
    (total : List Datum) → i < to
    → bytes_cell r ≡ as_bytes (cell_in (read i)) → next ≡ made ++ r ∷ []
    → bytes_cells made ++ map as_bytes (slots read i (to - i)) ≡ total
    → bytes_cells next ++ map as_bytes (slots read (i + 1) (to - (i + 1))) ≡ total
text-step read i to r made next total h e n is =
    let rest = map as_bytes (slots read (i + 1) (to - (i + 1))) in
    ap (λ xs. bytes_cells xs ++ rest) n ∙ ap (λ xs. xs ++ rest) (map-append bytes_cell made (r ∷ []))
    ∙ append_assoc (bytes_cells made) (bytes_cell r ∷ []) rest ∙ ap (λ d. bytes_cells made ++ d ∷ rest) e
    ∙ ap (λ xs. bytes_cells made ++ map as_bytes xs) (sym (slots-next read i to h)) ∙ is

pub text-over :
    (read : ℕ → Reading Datum) (i to : ℕ) (made total : List Datum) → to ≤ i
    → made ++ map as_bytes (slots read i (to - i)) ≡ total → made ≡ total
text-over read i to made total h is =
    sym (append-nil made) ∙ ap (λ xs. made ++ map as_bytes xs) (sym (slots-none read i to h)) ∙ is

-- A column of texts or of bytes has the node and the buffers that a column of its bytes has.

abbrev IsAlikeBytes : Datum → Type 0
IsAlikeBytes d = (is_valid (as_bytes d) ≡ is_valid d) × (bytes_in (as_bytes d) ≡ bytes_in d)
    × (length_in (as_bytes d) ≡ length_in d)

text-alike : (d : Datum) → IsText d → IsAlikeBytes d
text-alike null h = (refl, refl, refl)
text-alike (text t) h = (refl, refl, refl)
text-alike d h = absurd h

bytes-alike : (d : Datum) → IsBytes d → IsAlikeBytes d
bytes-alike null h = (refl, refl, refl)
bytes-alike (bytes t) h = (refl, refl, refl)
bytes-alike d h = absurd h

nulls-alike : (ds : List Datum) → All IsAlikeBytes ds → null_count (map as_bytes ds) ≡ null_count ds
nulls-alike [] all = refl
nulls-alike (d ∷ ds) all =
    ap (λ b. (if b then 0 else 1) + null_count (map as_bytes ds)) (All-head IsAlikeBytes d ds all).0
    ∙ ap (λ n. (if is_valid d then 0 else 1) + n) (nulls-alike ds (All-tail IsAlikeBytes d ds all))

valid-alike : (ds : List Datum) → All IsAlikeBytes ds → map is_valid (map as_bytes ds) ≡ map is_valid ds
valid-alike [] all = refl
valid-alike (d ∷ ds) all =
    ap (λ b. b ∷ map is_valid (map as_bytes ds)) (All-head IsAlikeBytes d ds all).0
    ∙ ap (λ bs. is_valid d ∷ bs) (valid-alike ds (All-tail IsAlikeBytes d ds all))

lengths-alike : (ds : List Datum) → All IsAlikeBytes ds → map length_in (map as_bytes ds) ≡ map length_in ds
lengths-alike [] all = refl
lengths-alike (d ∷ ds) all =
    ap (λ n. n ∷ map length_in (map as_bytes ds)) (All-head IsAlikeBytes d ds all).2
    ∙ ap (λ ns. length_in d ∷ ns) (lengths-alike ds (All-tail IsAlikeBytes d ds all))

joined-alike : (ds : List Datum) → All IsAlikeBytes ds → joined (map as_bytes ds) ≡ joined ds
unfolding joined
joined-alike [] all = refl
joined-alike (d ∷ ds) all =
    ap (λ bs. bs ++ flat_map bytes_in (map as_bytes ds)) (All-head IsAlikeBytes d ds all).1
    ∙ ap (λ bs. bytes_in d ++ bs) (joined-alike ds (All-tail IsAlikeBytes d ds all))

total-alike : (ds : List Datum) → All IsAlikeBytes ds → total_length (map as_bytes ds) ≡ total_length ds
total-alike [] all = refl
total-alike (d ∷ ds) all =
    ap (λ n. n + total_length (map as_bytes ds)) (All-head IsAlikeBytes d ds all).2
    ∙ ap (λ n. length_in d + n) (total-alike ds (All-tail IsAlikeBytes d ds all))

validity-alike : (ds : List Datum) → All IsAlikeBytes ds → validity (map as_bytes ds) ≡ validity ds
unfolding validity
validity-alike ds all =
    ap (λ (n : ℕ). if n == 0 then [] else bytes_of (map is_valid (map as_bytes ds))) (nulls-alike ds all)
    ∙ ap (λ bs. if null_count ds == 0 then [] else bytes_of bs) (valid-alike ds all)

node-alike : (ds : List Datum) → All IsAlikeBytes ds → own_node (map as_bytes ds) ≡ own_node ds
node-alike ds all =
    ap (λ n. record { length = n; nulls = pos (null_count (map as_bytes ds)) }) (length-map ds as_bytes)
    ∙ ap (λ n. record { length = length ds; nulls = pos n }) (nulls-alike ds all)

runs-alike : (o : OffsetWidth) (ds : List Datum) → All IsAlikeBytes ds
    → own_buffers (Binary o) (map as_bytes ds) ≡ validity ds ∷ offsets o ds ∷ joined ds ∷ []
unfolding offsets
runs-alike o ds all =
    ap (λ v. v ∷ offsets o (map as_bytes ds) ∷ joined (map as_bytes ds) ∷ []) (validity-alike ds all)
    ∙ ap (λ ns. validity ds ∷ offsets_from o 0 ns ∷ joined (map as_bytes ds) ∷ []) (lengths-alike ds all)
    ∙ ap (λ bs. validity ds ∷ offsets o ds ∷ bs ∷ []) (joined-alike ds all)

held-alike : (l : Layout) (o : OffsetWidth) (kids : Roses Layout) (ds : List Datum) → HasBytes l o
    → All (Holds (node l kids)) ds → All IsAlikeBytes ds
held-alike l o kids ds (inl is) held = All-weaker (Holds (node l kids)) IsAlikeBytes
    (λ d h. text-alike d (subst (λ k. Holds (node k kids) d) is h)) ds held
held-alike l o kids ds (inr is) held = All-weaker (Holds (node l kids)) IsAlikeBytes
    (λ d h. bytes-alike d (subst (λ k. Holds (node k kids) d) is h)) ds held

childless : (l : Layout) (o : OffsetWidth) (kids : Roses Layout) → HasBytes l o → IsNode l kids → kids ≡ none
childless l o none is known = refl
childless l o (more t ts) (inl is) known = absurd (subst (λ k. IsNode k (more t ts)) is known)
childless l o (more t ts) (inr is) known = absurd (subst (λ k. IsNode k (more t ts)) is known)

own-runs : (l : Layout) (o : OffsetWidth) (ds : List Datum) → HasBytes l o
    → own_buffers l ds ≡ validity ds ∷ offsets o ds ∷ joined ds ∷ []
own-runs l o ds (inl is) = ap (λ k. own_buffers k ds) is
own-runs l o ds (inr is) = ap (λ k. own_buffers k ds) is

node-column :
    (l : Layout) (o : OffsetWidth) (kids : Roses Layout) (ds : List Datum) (old new : Body) → HasBytes l o
    → IsLayout (node l kids) → All (Holds (node l kids)) ds
    → Grows old new (own_node (map as_bytes ds) ∷ []) (own_buffers (Binary o) (map as_bytes ds))
    → Grows old new (nodes (node l kids) ds) (buffers (node l kids) ds)
node-column l o kids ds old new is known held grows =
    let all = held-alike l o kids ds is held in
    let bare = childless l o kids is known.0 in
    let ns : nodes (node l kids) ds ≡ own_node (map as_bytes ds) ∷ [] =
    ap (λ ks. own_node ds ∷ nodes_below l 0 ks ds) bare ∙ ap (λ n. n ∷ []) (sym (node-alike ds all)) in
    let bs : buffers (node l kids) ds ≡ own_buffers (Binary o) (map as_bytes ds) =
    ap (λ ks. own_buffers l ds ++ buffers_below l 0 ks ds) bare ∙ append-nil (own_buffers l ds) ∙ own-runs l o ds is
    ∙ sym (runs-alike o ds all) in
    subst (λ xs. Grows old new xs (buffers (node l kids) ds)) (sym ns)
    (subst (λ xs. Grows old new (own_node (map as_bytes ds) ∷ []) xs) (sym bs) grows)

pub texts-column :
    (t : Rose Layout) (l : Layout) (kids : Roses Layout) (o : OffsetWidth) (ds : List Datum) (old new : Body)
    → node l kids ≡ t → HasBytes l o → IsLayout t → All (Holds t) ds
    → Grows old new (own_node (map as_bytes ds) ∷ []) (own_buffers (Binary o) (map as_bytes ds))
    → Grows old new (nodes t ds) (buffers t ds)
texts-column t l kids o ds old new e is known held grows =
    let P : Rose Layout → Type 0 = λ u. IsLayout u → All (Holds u) ds → Grows old new (nodes u ds) (buffers u ds) in
    subst P e (λ k h. node-column l o kids ds old new is k h grows) known held

pub texts-short :
    (t : Rose Layout) (l : Layout) (kids : Roses Layout) (o : OffsetWidth) (ds : List Datum) → node l kids ≡ t
    → HasBytes l o → IsLayout t → All (Holds t) ds → weights t ds < 2 ^ 31 → total_length (map as_bytes ds) < 2 ^ 31
texts-short t l kids o ds e is known held light =
    let all : All (Holds (node l kids)) ds = subst (λ u. All (Holds u) ds) (sym e) held in
    let same = total-alike ds (held-alike l o kids ds is all) in
    let short = total-short t ds known held light in
    omega (arith, same, short)

pub texts-many : (texts : List (Option (Bor (List ℕ)))) (ds : List Datum) → bytes_cells texts ≡ map as_bytes ds
    → length texts ≡ length ds
texts-many texts ds same = sym (length-map texts bytes_cell) ∙ ap length same ∙ length-map ds as_bytes
