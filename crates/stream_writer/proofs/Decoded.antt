-- An array of indices with a dictionary is read as the values at these indices.
use Rattle.std.proofs.Common.{
  ◌≡◌,
  ℕ,
  ℤ,
  zero,
  suc,
  ◌+◌,
  Bool,
  true,
  false,
  List,
  [],
  ◌∷◌,
  ◌++◌,
  Some,
  Ok,
  Err,
  refl,
  ap,
  sym,
  subst,
  ◌∙◌,
  arith,
}
use Rattle.std.specs.Prelude.{map, not, cond, ◌||◌, if◌then◌else◌, slice_get}
use Rattle.std.specs.List.{list_any, position_or_len}
use Rattle.std.specs.Str.{bytes_eq}
use Rattle.std.proofs.lemmas.List.Folds.{list_any-append}
use Rattle.std.proofs.lemmas.Slice.Eq.{bytes_eq-Decides}
use Rattle.values.specs.Datum.{Datum, bytes, list, null, structure, text, truth, whole}
use Rattle.values.specs.Reading.{Reading, ◌>>=◌, both, cons, each}
use Rattle.values.specs.Rose.{Rose, node, none}
use Rattle.array_layout.specs.declared.array.FieldNode.{FieldNode}
use Rattle.array_layout.specs.declared.array.BufferRange.{BufferRange}
use Rattle.array_layout.specs.declared.array.DictionaryValues.{DictionaryValues}
use Rattle.array_layout.specs.declared.array.ArrayData.{ArrayData}
use Rattle.array_layout.specs.Buffers.{is_null, number_at}
use Rattle.array_layout.specs.Placing.{bytes_of, data_at, placed, with_dictionary}
use Rattle.array_layout.specs.Sound.{faults_in, own_faults}
use Rattle.array_layout.specs.Cells.{cell, cell_by, cells, column_of, indexed, len_of}
use Rattle.stream_writer.specs.Coding.{AreTextCells, add_text, index_in, index_layout, texts_after}

-- the value to which a cell of indices refers
abbrev pub decode : List Datum → Datum → Reading Datum
decode values (whole z) = indexed values z
decode values c = Ok c

abbrev pub Decodes : List Datum → List Datum → List Datum → Type 0
Decodes values [] [] = Unit {0}
Decodes values [] (d ∷ ds) = ⊥
Decodes values (c ∷ cs) [] = ⊥
Decodes values (c ∷ cs) (d ∷ ds) = (decode values c ≡ Ok d) × Decodes values cs ds

-- cells one after another

bind-back : {X Y : Type 0} (m : Reading X) (f : X → Reading Y) (y : Y) → (m >>= f) ≡ Ok y
    → (x : X) × (m ≡ Ok x) × (f x ≡ Ok y)
bind-back (Ok x) f y e = (x, refl, e)
bind-back (Err fs) f y e = absurd (cc)

cons-back : (m : Reading Datum) (r : Reading (List Datum)) (cs : List Datum) → both cons m r ≡ Ok cs
    → (x : Datum) × (xs : List Datum) × (m ≡ Ok x) × (r ≡ Ok xs) × (cs ≡ x ∷ xs)
cons-back (Ok x) (Ok xs) cs e = (x, xs, refl, refl, cc)
cons-back (Ok x) (Err gs) cs e = absurd (cc)
cons-back (Err fs) (Ok xs) cs e = absurd (cc)
cons-back (Err fs) (Err gs) cs e = absurd (cc)

each-decoded :
    (f g : ℕ → Reading Datum) (values : List Datum) (i n : ℕ) (cs ds : List Datum)
    → ((k : ℕ) (c d : Datum) → f k ≡ Ok c → decode values c ≡ Ok d → g k ≡ Ok d) → each f i n ≡ Ok cs
    → Decodes values cs ds → each g i n ≡ Ok ds
unfolding each
each-decoded f g values i zero [] [] step e h = refl
each-decoded f g values i zero [] (d ∷ ds) step e h = absurd h
each-decoded f g values i zero (c ∷ cs) ds step e h = absurd (cc)
each-decoded f g values i (suc n) cs ds step e h =
    let p = cons-back (f i) (each f (i + 1) n) cs e in
    by-cells p.0 p.1 ds p.2 p.3 (subst (λ (zs : List Datum). Decodes values zs ds) p.4 h)
    (λ xs rest there k. each-decoded f g values (i + 1) n xs rest step there k)
  where
    by-cells :
        (x : Datum) (xs rest : List Datum) → f i ≡ Ok x → each f (i + 1) n ≡ Ok xs → Decodes values (x ∷ xs) rest
        → ((ys zs : List Datum) → each f (i + 1) n ≡ Ok ys → Decodes values ys zs → each g (i + 1) n ≡ Ok zs)
        → both cons (g i) (each g (i + 1) n) ≡ Ok rest
    by-cells x xs [] here there k later = absurd k
    by-cells x xs (d ∷ rest) here there k later = rw (step i x d here k.0, later xs rest there k.1) refl

-- one cell: a null stays one, a number refers to a value

abbrev unless_null : Bool → Reading Datum → Reading Datum
unless_null b m = if b then Ok null else m

cell-either :
    (b : Bool) (n : ℤ) (values : List Datum) (c d : Datum) → unless_null b (Ok (whole n)) ≡ Ok c
    → decode values c ≡ Ok d → unless_null b (indexed values n) ≡ Ok d
cell-either true n values c d e h =
    let same : c ≡ null = cc in
    let P : Datum → Type 0 = λ x. decode values x ≡ Ok d in
    subst P same h
cell-either false n values c d e h =
    let same : c ≡ whole n = cc in
    let P : Datum → Type 0 = λ x. decode values x ≡ Ok d in
    subst P same h

abbrev decoded_data : DictionaryValues → List FieldNode → List BufferRange → ℕ → ℕ → Rose ArrayData
decoded_data w all ranges n b = node (with_dictionary (Some w) (data_at all ranges n b index_layout)) none

cell-decoded :
    (body : List ℕ) (all : List FieldNode) (ranges : List BufferRange) (n b : ℕ) (w : DictionaryValues) (i : ℕ)
    (c d : Datum)
    → cell body (placed all ranges n b (node index_layout none)) i ≡ Ok c → decode w.values c ≡ Ok d
    → cell body (decoded_data w all ranges n b) i ≡ Ok d
unfolding cell_by
cell-decoded body all ranges n b w i c d e h =
    let p : ArrayData = data_at all ranges n b index_layout in
    cell-either (is_null (bytes_of body p.validity) i) (number_at true 4 (bytes_of body p.values) i) w.values c d e h

-- a column of indices with its dictionary
pub column-decoded :
    (body : List ℕ) (all : List FieldNode) (ranges : List BufferRange) (n b : ℕ) (w : DictionaryValues)
    (cs ds : List Datum)
    → column_of body (placed all ranges n b (node index_layout none)) ≡ Ok cs → Decodes w.values cs ds
    → column_of body (decoded_data w all ranges n b) ≡ Ok ds
unfolding column_of cells own_faults
column-decoded body all ranges n b w cs ds e h =
    let t : Rose ArrayData = placed all ranges n b (node index_layout none) in
    let back = bind-back (faults_in body t) (λ u. cells body t) cs e in
    let read =
    each-decoded (λ i. cell body t i) (λ i. cell body (decoded_data w all ranges n b) i) w.values 0 (len_of t) cs ds
    (λ i c d f g. cell-decoded body all ranges n b w i c d f g) back.2 h in
    rw (back.1) read

-- texts that are among the values

pub or-left : (t u : Bool) → t ≡ true → (t || u) ≡ true
or-left true u e = refl
or-left false u e = absurd (cc)

pub or-right : (t u : Bool) → u ≡ true → (t || u) ≡ true
or-right true u e = refl
or-right false u e = e

pub same-text : (t : List ℕ) → bytes_eq t t ≡ true
same-text t = (bytes_eq-Decides t t).1 refl

kept-once : (seen : List (List ℕ)) (t u : List ℕ) → list_any (bytes_eq t) seen ≡ true
    → list_any (bytes_eq t) (add_text seen u) ≡ true
kept-once seen t u e = by-test (list_any (bytes_eq u) seen) refl
  where
    by-test : (b : Bool) → list_any (bytes_eq u) seen ≡ b
        → list_any (bytes_eq t) (if b then seen else seen ++ u ∷ []) ≡ true
    by-test true is = e
    by-test false is =
        list_any-append (bytes_eq t) seen (u ∷ [])
        ∙ or-left (list_any (bytes_eq t) seen) (list_any (bytes_eq t) (u ∷ [])) e

pub added : (seen : List (List ℕ)) (t : List ℕ) → list_any (bytes_eq t) (add_text seen t) ≡ true
added seen t = by-test (list_any (bytes_eq t) seen) refl
  where
    by-test : (b : Bool) → list_any (bytes_eq t) seen ≡ b
        → list_any (bytes_eq t) (if b then seen else seen ++ t ∷ []) ≡ true
    by-test true is = is
    by-test false is =
        list_any-append (bytes_eq t) seen (t ∷ [])
        ∙ or-right (list_any (bytes_eq t) seen) (list_any (bytes_eq t) (t ∷ []))
        (or-left (bytes_eq t t) false (same-text t))

pub kept : (seen : List (List ℕ)) (cs : List Datum) (t : List ℕ) → list_any (bytes_eq t) seen ≡ true
    → list_any (bytes_eq t) (texts_after seen cs) ≡ true
kept seen [] t e = e
kept seen (text u ∷ cs) t e = kept (add_text seen u) cs t (kept-once seen t u e)
kept seen (null ∷ cs) t e = kept seen cs t e
kept seen (truth v ∷ cs) t e = kept seen cs t e
kept seen (whole z ∷ cs) t e = kept seen cs t e
kept seen (bytes x ∷ cs) t e = kept seen cs t e
kept seen (list es ∷ cs) t e = kept seen cs t e
kept seen (structure es ∷ cs) t e = kept seen cs t e

-- each cell is null, or a text among the values
abbrev pub IsAmongValues : List (List ℕ) → Datum → Type 0
IsAmongValues values null = Unit {0}
IsAmongValues values (text t) = list_any (bytes_eq t) values ≡ true
IsAmongValues values _ = ⊥

abbrev pub AreAmongValues : List (List ℕ) → List Datum → Type 0
AreAmongValues values [] = Unit {0}
AreAmongValues values (c ∷ cs) = IsAmongValues values c × AreAmongValues values cs

pub among-values : (seen : List (List ℕ)) (cs : List Datum) → AreTextCells cs → AreAmongValues (texts_after seen cs) cs
among-values seen [] h = tt
among-values seen (text t ∷ cs) h =
    (kept (add_text seen t) cs t (added seen t), among-values (add_text seen t) cs h.1)
among-values seen (null ∷ cs) h = (tt, among-values seen cs h.1)
among-values seen (truth v ∷ cs) h = absurd (h.0)
among-values seen (whole z ∷ cs) h = absurd (h.0)
among-values seen (bytes x ∷ cs) h = absurd (h.0)
among-values seen (list es ∷ cs) h = absurd (h.0)
among-values seen (structure es ∷ cs) h = absurd (h.0)

-- the value at the position of a text is the text

pub place-found : (t : List ℕ) (values : List (List ℕ)) → list_any (bytes_eq t) values ≡ true
    → slice_get (map text values) (position_or_len (bytes_eq t) values) ≡ Some (text t)
place-found t [] e = absurd (cc)
place-found t (v ∷ vs) e = by-test (bytes_eq t v) refl (λ g. place-found t vs g)
  where
    by-test : (b : Bool) → bytes_eq t v ≡ b
        → (list_any (bytes_eq t) vs ≡ true
        → slice_get (map text vs) (position_or_len (bytes_eq t) vs) ≡ Some (text t))
        → slice_get (text v ∷ map text vs) (cond (not b) (1 + position_or_len (bytes_eq t) vs) 0) ≡ Some (text t)
    by-test true is later = ap (λ u. Some (text u)) (sym ((bytes_eq-Decides t v).0 is))
    by-test false is later =
        let n : ℕ = position_or_len (bytes_eq t) vs in
        let next : 1 + n ≡ suc n = omega arith in
        ap (slice_get (text v ∷ map text vs)) next
        ∙ later (sym (ap (λ b. b || list_any (bytes_eq t) vs) is) ∙ e)

decodes-one : (values : List (List ℕ)) (c : Datum) → IsAmongValues values c
    → decode (map text values) (index_in values c) ≡ Ok c
decodes-one values null h = refl
decodes-one values (text t) h = rw (place-found t values h) refl
decodes-one values (truth v) h = absurd h
decodes-one values (whole z) h = absurd h
decodes-one values (bytes x) h = absurd h
decodes-one values (list es) h = absurd h
decodes-one values (structure es) h = absurd h

pub indices-decode : (values : List (List ℕ)) (cs : List Datum) → AreAmongValues values cs
    → Decodes (map text values) (map (index_in values) cs) cs
indices-decode values [] h = tt
indices-decode values (c ∷ cs) h = (decodes-one values c h.0, indices-decode values cs h.1)
