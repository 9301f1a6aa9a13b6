-- The numbering of texts, cell by cell.
use Rattle.std.proofs.Common.{
  ◌≡◌,
  ℕ,
  ◌+◌,
  ◌<◌,
  Bool,
  true,
  false,
  List,
  [],
  ◌∷◌,
  ◌++◌,
  length,
  get_or,
  drop,
  Option,
  None,
  Some,
  refl,
  ap,
  sym,
  subst,
  ◌∙◌,
  append_assoc,
}
use Rattle.std.specs.Prelude.{pos, map, not, cond, ◌||◌, if◌then◌else◌, nat_eq}
use Rattle.std.specs.Cmp.Lexicographic.{pointwise}
use Rattle.std.specs.List.{list_any, position_or_len}
use Rattle.std.specs.Str.{bytes_eq}
use Rattle.std.proofs.lemmas.List.{drop_more, map-append}
use denote.Ref.{Bor}
use Rattle.indexmap.specs.IndexSet.{insert_key}
use Rattle.values.specs.Datum.{Datum, bytes, list, null, structure, text, truth, whole}
use Rattle.body_writer.specs.Slots.{cell_of, cells_of}
use Rattle.stream_writer.specs.Coding.{IsTextCell, add_text, index_in, texts_after}
use Rattle.stream_writer.specs.Texts.{text_of, texts_in}
use Rattle.stream_writer.proofs.Decoded.{added, kept, same-text}

abbrev pub same_key : Bor (List ℕ) → Bor (List ℕ) → Bool
same_key x y = pointwise nat_eq x.now y.now

any-in : (k : Bor (List ℕ)) (ks : List (Bor (List ℕ)))
    → list_any (same_key k) ks ≡ list_any (bytes_eq k.now) (texts_in ks)
any-in k [] = refl
any-in k (x ∷ xs) = ap (λ b. bytes_eq k.now x.now || b) (any-in k xs)

place-in : (k : Bor (List ℕ)) (ks : List (Bor (List ℕ)))
    → position_or_len (same_key k) ks ≡ position_or_len (bytes_eq k.now) (texts_in ks)
place-in k [] = refl
place-in k (x ∷ xs) = ap (λ n. cond (not (bytes_eq k.now x.now)) (1 + n) 0) (place-in k xs)

texts-inserted : (k : Bor (List ℕ)) (ks : List (Bor (List ℕ)))
    → texts_in (insert_key same_key ks k) ≡ add_text (texts_in ks) k.now
texts-inserted k ks =
    by-test (list_any (same_key k) ks)
    ∙ ap (λ b. if b then texts_in ks else texts_in ks ++ k.now ∷ []) (any-in k ks)
  where
    by-test : (b : Bool) → texts_in (if b then ks else ks ++ k ∷ [])
        ≡ (if b then texts_in ks else texts_in ks ++ k.now ∷ [])
    by-test true = refl
    by-test false = map-append (λ (x : Bor (List ℕ)). x.now) ks (k ∷ [])

-- a text that is added has the position that is returned for it

place-pushed : (t : List ℕ) (seen : List (List ℕ)) → list_any (bytes_eq t) seen ≡ false
    → position_or_len (bytes_eq t) (seen ++ t ∷ []) ≡ position_or_len (bytes_eq t) seen
place-pushed t [] e = ap (λ b. cond (not b) 1 0) (same-text t)
place-pushed t (v ∷ vs) e = by-test (bytes_eq t v) refl (λ g. place-pushed t vs g)
  where
    by-test : (b : Bool) → bytes_eq t v ≡ b
        → (list_any (bytes_eq t) vs ≡ false
        → position_or_len (bytes_eq t) (vs ++ t ∷ []) ≡ position_or_len (bytes_eq t) vs)
        → cond (not b) (1 + position_or_len (bytes_eq t) (vs ++ t ∷ [])) 0
        ≡ cond (not b) (1 + position_or_len (bytes_eq t) vs) 0
    by-test true is later = refl
    by-test false is later = ap (λ n. 1 + n) (later (sym (ap (λ b. b || list_any (bytes_eq t) vs) is) ∙ e))

place-added : (t : List ℕ) (seen : List (List ℕ))
    → position_or_len (bytes_eq t) (add_text seen t) ≡ position_or_len (bytes_eq t) seen
place-added t seen = by-test (list_any (bytes_eq t) seen) refl
  where
    by-test : (b : Bool) → list_any (bytes_eq t) seen ≡ b
        → position_or_len (bytes_eq t) (if b then seen else seen ++ t ∷ []) ≡ position_or_len (bytes_eq t) seen
    by-test true is = refl
    by-test false is = place-pushed t seen is

-- and stays there

place-before : (t u : List ℕ) (seen : List (List ℕ)) → list_any (bytes_eq t) seen ≡ true
    → position_or_len (bytes_eq t) (seen ++ u ∷ []) ≡ position_or_len (bytes_eq t) seen
place-before t u [] e = absurd (cc)
place-before t u (v ∷ vs) e = by-test (bytes_eq t v) refl (λ g. place-before t u vs g)
  where
    by-test : (b : Bool) → bytes_eq t v ≡ b
        → (list_any (bytes_eq t) vs ≡ true
        → position_or_len (bytes_eq t) (vs ++ u ∷ []) ≡ position_or_len (bytes_eq t) vs)
        → cond (not b) (1 + position_or_len (bytes_eq t) (vs ++ u ∷ [])) 0
        ≡ cond (not b) (1 + position_or_len (bytes_eq t) vs) 0
    by-test true is later = refl
    by-test false is later = ap (λ n. 1 + n) (later (sym (ap (λ b. b || list_any (bytes_eq t) vs) is) ∙ e))

place-kept-once : (t u : List ℕ) (seen : List (List ℕ)) → list_any (bytes_eq t) seen ≡ true
    → position_or_len (bytes_eq t) (add_text seen u) ≡ position_or_len (bytes_eq t) seen
place-kept-once t u seen e = by-test (list_any (bytes_eq u) seen)
  where
    by-test : (b : Bool)
        → position_or_len (bytes_eq t) (if b then seen else seen ++ u ∷ []) ≡ position_or_len (bytes_eq t) seen
    by-test true = refl
    by-test false = place-before t u seen e

place-kept : (t : List ℕ) (seen : List (List ℕ)) (cs : List Datum) → list_any (bytes_eq t) seen ≡ true
    → position_or_len (bytes_eq t) (texts_after seen cs) ≡ position_or_len (bytes_eq t) seen
place-kept t seen [] e = refl
place-kept t seen (text u ∷ cs) e =
    place-kept t (add_text seen u) cs (kept seen (text u ∷ []) t e) ∙ place-kept-once t u seen e
place-kept t seen (null ∷ cs) e = place-kept t seen cs e
place-kept t seen (truth v ∷ cs) e = place-kept t seen cs e
place-kept t seen (whole z ∷ cs) e = place-kept t seen cs e
place-kept t seen (bytes x ∷ cs) e = place-kept t seen cs e
place-kept t seen (list es ∷ cs) e = place-kept t seen cs e
place-kept t seen (structure es ∷ cs) e = place-kept t seen cs e

-- the index of a cell stays, whatever cells follow
pub index-kept : (seen : List (List ℕ)) (c : Datum) (cs : List Datum) → IsTextCell c
    → index_in (texts_after seen (c ∷ [])) c ≡ index_in (texts_after seen (c ∷ cs)) c
index-kept seen null cs h = refl
index-kept seen (text t) cs h =
    ap (λ n. whole (pos n)) (sym (place-kept t (add_text seen t) cs (added seen t)))
index-kept seen (truth v) cs h = absurd h
index-kept seen (whole z) cs h = absurd h
index-kept seen (bytes x) cs h = absurd h
index-kept seen (list es) cs h = absurd h
index-kept seen (structure es) cs h = absurd h

pub texts-next : (seen : List (List ℕ)) (c : Datum) (cs : List Datum)
    → texts_after (texts_after seen (c ∷ [])) cs ≡ texts_after seen (c ∷ cs)
texts-next seen null cs = refl
texts-next seen (text t) cs = refl
texts-next seen (truth v) cs = refl
texts-next seen (whole z) cs = refl
texts-next seen (bytes x) cs = refl
texts-next seen (list es) cs = refl
texts-next seen (structure es) cs = refl

-- one cell

-- the text of a cell, if it holds one
pub no-text : (c : Datum) → IsTextCell c → text_of c ≡ None → c ≡ null
no-text null h e = refl
no-text (text t) h e = absurd (cc)
no-text (truth v) h e = absurd h
no-text (whole z) h e = absurd h
no-text (bytes x) h e = absurd h
no-text (list es) h e = absurd h
no-text (structure es) h e = absurd h

pub own-text : (c : Datum) (t : List ℕ) → text_of c ≡ Some t → c ≡ text t
own-text null t e = absurd (cc)
own-text (text u) t e = let same : u ≡ t = cc in ap (λ x. text x) same
own-text (truth v) t e = absurd (cc)
own-text (whole z) t e = absurd (cc)
own-text (bytes x) t e = absurd (cc)
own-text (list es) t e = absurd (cc)
own-text (structure es) t e = absurd (cc)

-- the next cell, and those after it

pub cells-next : (cells : List (Option (Bor Datum))) (i : ℕ) (cell : Option (Bor Datum)) → i < length cells
    → cell ≡ get_or cells i cell → cells_of (drop i cells) ≡ cell_of cell ∷ cells_of (drop (i + 1) cells)
cells-next cells i cell h e =
    ap cells_of (drop_more cells i cell h) ∙ ap (λ c. cell_of c ∷ cells_of (drop (i + 1) cells)) (sym e)

pub texts-more :
    (S N W : List (List ℕ)) (c : Datum) (left rest : List Datum) → left ≡ c ∷ rest → N ≡ texts_after S (c ∷ [])
    → texts_after S left ≡ W → texts_after N rest ≡ W
texts-more S N W c left rest split is e =
    ap (λ s. texts_after s rest) is ∙ texts-next S c rest ∙ ap (texts_after S) (sym split) ∙ e

pub indices-more :
    (S N W : List (List ℕ)) (c v : Datum) (left rest old new all : List Datum) → IsTextCell c → left ≡ c ∷ rest
    → texts_after S left ≡ W → N ≡ texts_after S (c ∷ []) → v ≡ index_in N c → new ≡ old ++ v ∷ []
    → old ++ map (index_in W) left ≡ all → new ++ map (index_in W) rest ≡ all
indices-more S N W c v left rest old new all is split e same value pushed so =
    let whole_is : texts_after S (c ∷ rest) ≡ W = ap (texts_after S) (sym split) ∙ e in
    let here : v ≡ index_in W c =
    value ∙ ap (λ s. index_in s c) same ∙ index-kept S c rest is ∙ ap (λ s. index_in s c) whole_is in
    ap (λ xs. xs ++ map (index_in W) rest) pushed ∙ append_assoc old (v ∷ []) (map (index_in W) rest)
    ∙ ap (λ x. old ++ (x ∷ map (index_in W) rest)) here
    ∙ ap (λ xs. old ++ map (index_in W) xs) (sym split) ∙ so

-- a cell whose text is inserted
pub text-inserted :
    (c : Datum) (k : Bor (List ℕ)) (old new : List (Bor (List ℕ))) → text_of c ≡ Some k.now
    → new ≡ insert_key same_key old k → texts_in new ≡ texts_after (texts_in old) (c ∷ [])
text-inserted c k old new is e =
    let P : Datum → Type 0 = λ d. texts_in new ≡ texts_after (texts_in old) (d ∷ []) in
    subst P (sym (own-text c k.now is)) (ap texts_in e ∙ texts-inserted k old)

pub index-inserted :
    (c : Datum) (k : Bor (List ℕ)) (old new : List (Bor (List ℕ))) (n : ℕ) → text_of c ≡ Some k.now
    → new ≡ insert_key same_key old k → n ≡ position_or_len (same_key k) old
    → whole (pos n) ≡ index_in (texts_in new) c
index-inserted c k old new n is e at =
    let P : Datum → Type 0 = λ d. whole (pos n) ≡ index_in (texts_in new) d in
    let there : n ≡ position_or_len (bytes_eq k.now) (texts_in new) =
    at ∙ place-in k old ∙ sym (place-added k.now (texts_in old))
    ∙ ap (position_or_len (bytes_eq k.now)) (sym (ap texts_in e ∙ texts-inserted k old)) in
    subst P (sym (own-text c k.now is)) (ap (λ m. whole (pos m)) there)

pub ruleset numbering = (no-text, own-text)
