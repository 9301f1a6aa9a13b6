-- What the dictionary of a coded column has: the texts of the column's cells in a batch, each once, in order of first
-- appearance; the index of a cell is the position of its text. And a dictionary batch that is written is read back.
use Rattle.std.specs.Prelude.{◌≡◌, ◌⊎◌, ℕ, pos, true, false, List, [], ◌∷◌, ◌++◌, length, map, slice_get, Some, Ok}
use Rattle.values.specs.Coded.{AreCoded, is_coded}
use Rattle.values.specs.Datum.{Datum, text, whole}
use Rattle.values.specs.Logical.{NamedType}
use Rattle.values.specs.Rose.{Rose}
use Rattle.schema_meta.specs.declared.header.DictionaryHeader.{DictionaryHeader}
use Rattle.schema_meta.specs.DictionaryBatch.{dictionary}
use Rattle.schema_meta.specs.Message.{brings_dictionary, meta_of}
use Rattle.schema_meta.specs.Rows.{values_of}
use Rattle.schema_meta.specs.SchemaLaw.{coded_fields}
use Rattle.schema_meta.specs.Stage.{Known}
use Rattle.body_writer.specs.Batch.{IsBatch}
use Rattle.stream_writer.specs.BatchLaw.{head_by}
use Rattle.stream_writer.specs.Coding.{index_in, texts_after, value_rows, values_at}
use Rattle.stream_writer.specs.DictionaryBatch.{dictionary_metadata, text_layouts, values_body}
use Rattle.stream_writer.specs.Stream.{trees}

-- this text is one of these
abbrev pub IsOneOf : List ℕ → List (List ℕ) → Type 0
IsOneOf t [] = ⊥
IsOneOf t (v ∷ vs) = (t ≡ v) ⊎ IsOneOf t vs

-- one of these cells holds this text
abbrev pub IsInCells : List ℕ → List Datum → Type 0
IsInCells t [] = ⊥
IsInCells t (c ∷ cs) = (c ≡ text t) ⊎ IsInCells t cs

-- no two of these are equal
abbrev pub AreDifferent : List (List ℕ) → Type 0
AreDifferent [] = Unit {0}
AreDifferent (v ∷ vs) = ¬ (IsOneOf v vs) × AreDifferent vs

-- A text is among the values exactly where one of the cells holds it.
abbrev pub AreTheTexts : Type 0
AreTheTexts =
    (cells : List Datum) (t : List ℕ)
    → (IsOneOf t (texts_after [] cells) → IsInCells t cells) × (IsInCells t cells → IsOneOf t (texts_after [] cells))

abbrev pub DifferInPairs : Type 0
DifferInPairs = (cells : List Datum) → AreDifferent (texts_after [] cells)

-- The values of more cells begin with those of the first ones: the position of a text follows from its first
-- appearance.
abbrev pub BeginAlike : Type 0
BeginAlike =
    (cells later : List Datum)
    → (more : List (List ℕ)) × (texts_after [] (cells ++ later) ≡ texts_after [] cells ++ more)

-- The index of a text that a cell holds is the position of that text among the values.
abbrev pub NameTheirTexts : Type 0
NameTheirTexts =
    (cells : List Datum) (t : List ℕ) → IsInCells t cells
    → (n : ℕ) × (index_in (texts_after [] cells) (text t) ≡ whole (pos n))
    × (slice_get (map text (texts_after [] cells)) n ≡ Some (text t))

-- The cells b, a, b have the values b, a and the indices 0, 1, 0.
abbrev pub letter : ℕ → Datum
letter code = text (code ∷ [])

abbrev pub SampleIsNumbered : Type 0
SampleIsNumbered =
    let cells : List Datum = letter 98 ∷ letter 97 ∷ letter 98 ∷ [] in
    let values : List (List ℕ) = (98 ∷ []) ∷ (97 ∷ []) ∷ [] in
    (texts_after [] cells ≡ values)
    × (map (index_in values) cells ≡ whole (pos 0) ∷ whole (pos 1) ∷ whole (pos 0) ∷ [])

-- the header of the dictionary batch of the column at position j: the position is its id, and it is no delta
abbrev pub dictionary_head : ℕ → List (List ℕ) → DictionaryHeader
dictionary_head j values = dictionary (pos j) false (head_by text_layouts (value_rows values))

-- Where the schema is known, the metadata of a coded column's dictionary batch is read as that header, and the length
-- of its body.
abbrev pub DictionaryLaw : Type 0
DictionaryLaw =
    (known : Known) (fs : List (Rose NamedType)) (coded : List ℕ) (rows : List (List Datum)) (j : ℕ)
    → IsBatch (trees fs) rows → AreCoded coded fs → is_coded coded j ≡ true
    → known.schema ≡ Some (coded_fields coded fs)
    → meta_of known (dictionary_metadata j (values_at j rows)) ≡ Ok
    (brings_dictionary (length (values_body (values_at j rows))) (dictionary_head j (values_at j rows)))

-- Its body is read as the values.
abbrev pub ValuesLaw : Type 0
ValuesLaw =
    (fs : List (Rose NamedType)) (coded : List ℕ) (rows : List (List Datum)) (j : ℕ)
    → IsBatch (trees fs) rows → AreCoded coded fs → is_coded coded j ≡ true
    → values_of (coded_fields coded fs) (dictionary_head j (values_at j rows)) (values_body (values_at j rows)) ≡ Ok
    (map text (values_at j rows))
