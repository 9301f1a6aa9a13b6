-- The remaining segments, one after the other.
use Rattle.std.proofs.Common.{◌≡◌, ℕ, ◌+◌, ◌<◌, ◌≤◌, List, [], ◌∷◌, ◌++◌, length, get_or, drop, ap, sym, ◌∙◌, subst, arith, append_assoc, append-nil, length-append, All}
use Rattle.std.specs.Prelude.{map}
use Rattle.std.specs.List.{flat_map}
use Rattle.std.proofs.lemmas.List.{drop_more, drop_all, map-append}
use Rattle.std.proofs.lemmas.List.Elements.{All-get_or, All-cons}
use Rattle.values.specs.Datum.{Datum}
use Rattle.values.specs.declared.layout.OffsetWidth.{OffsetWidth}
use Rattle.body_writer.specs.Slots.{null_count, length_in, total_length}
use Rattle.body_writer.specs.Columns.{offsets_from}
use Rattle.body_writer.specs.declared.from_columns.segment.Segment.{Segment}
use Rattle.body_writer.specs.Segments.{segment_cells, segments_cells}
use Rattle.body_writer.proofs.RunLemmas.{flat-append}
use Rattle.body_writer.proofs.BitLemmas.{nulls-append}

pub at-segment : (P : Segment → Type 0) (ps : List Segment) (i : ℕ) (p : Segment) → i < length ps → p ≡ get_or ps i p
    → All P ps → P p
at-segment P ps i p h e all = subst P (sym e) (All-get_or P ps i p h all)

pub segments-split : (ps : List Segment) (i : ℕ) (p : Segment) → i < length ps → p ≡ get_or ps i p
    → segments_cells (drop i ps) ≡ segment_cells p ++ segments_cells (drop (i + 1) ps)
segments-split ps i p h e =
    ap segments_cells (drop_more ps i p h) ∙ ap (λ q. segment_cells q ++ segments_cells (drop (i + 1) ps)) (sym e)

pub segments-none : (ps : List Segment) (i : ℕ) → length ps ≤ i → segments_cells (drop i ps) ≡ []
segments-none ps i h = ap segments_cells (drop_all i ps h)

pub flat-step :
    (f : Datum → List ℕ) (ps : List Segment) (i : ℕ) (p : Segment) (made next total : List ℕ) → i < length ps
    → p ≡ get_or ps i p
    → next ≡ made ++ flat_map f (segment_cells p) → made ++ flat_map f (segments_cells (drop i ps)) ≡ total
    → next ++ flat_map f (segments_cells (drop (i + 1) ps)) ≡ total
flat-step f ps i p made next total h e n is =
    let rest = segments_cells (drop (i + 1) ps) in
    ap (λ xs. xs ++ flat_map f rest) n ∙ append_assoc made (flat_map f (segment_cells p)) (flat_map f rest)
    ∙ ap (λ xs. made ++ xs) (sym (flat-append f (segment_cells p) rest))
    ∙ ap (λ cs. made ++ flat_map f cs) (sym (segments-split ps i p h e)) ∙ is

pub flat-over : (f : Datum → List ℕ) (ps : List Segment) (i : ℕ) (made total : List ℕ) → length ps ≤ i
    → made ++ flat_map f (segments_cells (drop i ps)) ≡ total → made ≡ total
flat-over f ps i made total h is = sym (append-nil made)
    ∙ ap (λ cs. made ++ flat_map f cs) (sym (segments-none ps i h)) ∙ is

pub maps-over : {A : Type 0} (f : Datum → A) (ps : List Segment) (i : ℕ) (made total : List A) → length ps ≤ i
    → made ++ map f (segments_cells (drop i ps)) ≡ total → made ≡ total
maps-over f ps i made total h is = sym (append-nil made) ∙ ap (λ cs. made ++ map f cs) (sym (segments-none ps i h)) ∙ is

pub count-step :
    (ps : List Segment) (i : ℕ) (p : Segment) (nulls more total : ℕ) → i < length ps → p ≡ get_or ps i p
    → more ≡ null_count (segment_cells p)
    → nulls + null_count (segments_cells (drop i ps)) ≡ total
    → nulls + more + null_count (segments_cells (drop (i + 1) ps)) ≡ total
count-step ps i p nulls more total h e n is =
    let split = ap null_count (segments-split ps i p h e)
    ∙ nulls-append (segment_cells p) (segments_cells (drop (i + 1) ps)) in
    omega (arith, n, split, is)

pub count-over : (ps : List Segment) (i nulls total : ℕ) → length ps ≤ i
    → nulls + null_count (segments_cells (drop i ps)) ≡ total → nulls ≡ total
count-over ps i nulls total h is = let none = ap null_count (segments-none ps i h) in omega (arith, none, is)

lengths-append : (xs ys : List Datum) → total_length (xs ++ ys) ≡ total_length xs + total_length ys
lengths-append [] ys = omega arith
lengths-append (x ∷ xs) ys = let rest = lengths-append xs ys in omega (arith, rest)

pub total-split : (ps : List Segment) (i : ℕ) (p : Segment) → i < length ps → p ≡ get_or ps i p
    → total_length (segments_cells (drop i ps)) ≡ total_length (segment_cells p) + total_length (segments_cells (drop (i + 1)
    ps))
total-split ps i p h e =
    ap total_length (segments-split ps i p h e) ∙ lengths-append (segment_cells p) (segments_cells (drop (i + 1) ps))

pub size-split : (ps : List Segment) (i : ℕ) (p : Segment) → i < length ps → p ≡ get_or ps i p
    → length (segments_cells (drop i ps)) ≡ length (segment_cells p) + length (segments_cells (drop (i + 1) ps))
size-split ps i p h e = ap length (segments-split ps i p h e)
    ∙ length-append (segment_cells p) (segments_cells (drop (i + 1) ps))

pub starts-step :
    (o : OffsetWidth) (ps : List Segment) (i : ℕ) (p : Segment) (end n : ℕ) (made next total rest : List ℕ)
    → i < length ps → p ≡ get_or ps i p
    → ((more : List ℕ) → next ++ offsets_from o n more ≡ made ++ offsets_from o end (map length_in (segment_cells p) ++
    more))
    → made ++ offsets_from o end (map length_in (segments_cells (drop i ps)) ++ rest) ≡ total
    → next ++ offsets_from o n (map length_in (segments_cells (drop (i + 1) ps)) ++ rest) ≡ total
starts-step o ps i p end n made next total rest h e grown is =
    let others = map length_in (segments_cells (drop (i + 1) ps)) in
    let here = map length_in (segment_cells p) in
    grown (others ++ rest) ∙ ap (λ xs. made ++ offsets_from o end xs) (sym (append_assoc here others rest)
    ∙ ap (λ xs. xs ++ rest) (sym (map-append length_in (segment_cells p) (segments_cells (drop (i + 1) ps)))
    ∙ ap (map length_in) (sym (segments-split ps i p h e)))) ∙ is

pub starts-over :
    (o : OffsetWidth) (ps : List Segment) (i end : ℕ) (made total : List ℕ) → length ps ≤ i
    → made ++ offsets_from o end (map length_in (segments_cells (drop i ps)) ++ []) ≡ total
    → made ++ offsets_from o end [] ≡ total
starts-over o ps i end made total h is =
    ap (λ cs. made ++ offsets_from o end (map length_in cs ++ [])) (sym (segments-none ps i h)) ∙ is

-- one segment, and those after it
pub all-before : (P : Segment → Type 0) (ps : List Segment) (i : ℕ) (p : Segment) → i < length ps → p ≡ get_or ps i p
    → P p → All P (drop (i + 1) ps)
    → All P (drop i ps)
all-before P ps i p h e here rest =
    subst (All P) (sym (drop_more ps i p h ∙ ap (λ q. q ∷ drop (i + 1) ps) (sym e))) (All-cons P p (drop (i + 1) ps)
    here rest)
