-- What cells are, for the functions that read them.
use Rattle.std.proofs.Common.{
  ◌≡◌,
  ℕ,
  ◌+◌,
  ◌<◌,
  ◌^◌,
  List,
  [],
  ◌∷◌,
  ◌++◌,
  length,
  get_or,
  drop,
  Option,
  None,
  Some,
  refl,
  ap,
  sym,
  ◌∙◌,
  ◌≤◌,
  append-nil,
  arith,
}
use Rattle.std.specs.Prelude.{unwrap_or, Bool, map, ◌≢◌}
use Rattle.std.specs.Option.{option_copied}
use Rattle.std.proofs.lemmas.List.{drop_all, drop_more, length-map}
use Rattle.std.proofs.lemmas.Bool.Decides.{nat_tests}
use Rattle.bitmaps.specs.Packed.{bytes_of}
use Rattle.body_writer.specs.Columns.{validity}
use Rattle.values.specs.Rose.{Rose}
use Rattle.values.specs.declared.layout.Layout.{Layout}
use Rattle.values.specs.Weights.{weights}
use Rattle.body_writer.proofs.WeightLemmas.{weights-long}
use denote.Ref.{Bor}
use Rattle.values.specs.Datum.{Datum, null, list, structure, items_of}
use Rattle.body_writer.specs.Slots.{cell_of, is_valid, items_in, null_count, listed, length_in, part}

pub listed-items_of : (ds : List Datum) → listed (items_of ds) ≡ ds
listed-items_of [] = refl
listed-items_of (d ∷ ds) = ap (λ xs. d ∷ xs) (listed-items_of ds)

pub length-listed : (ds : List Datum) → length_in (list (items_of ds)) ≡ length ds
length-listed ds = ap length (listed-items_of ds)

pub part-listed : (j : ℕ) (ds : List Datum) → part j (structure (items_of ds)) ≡ get_or ds j null
part-listed j ds = ap (λ xs. get_or xs j null) (listed-items_of ds)

pub part-read :
    (o : Option (Bor Datum)) (j : ℕ) (ds : List Datum) (c : Datum) → unwrap_or (option_copied o) null ≡ get_or ds j null
    → c ≡ structure (items_of ds) → cell_of o ≡ part j c
part-read None j ds c e is = e ∙ sym (part-listed j ds) ∙ ap (part j) (sym is)
part-read (Some r) j ds c e is = e ∙ sym (part-listed j ds) ∙ ap (part j) (sym is)

pub ruleset reading = (length-listed, listed-items_of)

pub cells-at :
    {C : Type 0} (datum : C → Datum) (cells : List C) (i : ℕ) (cell : C) → i < length cells
    → cell ≡ get_or cells i cell
    → map datum (drop i cells) ≡ datum cell ∷ map datum (drop (i + 1) cells)
cells-at datum cells i cell h e =
    ap (map datum) (drop_more cells i cell h) ∙ ap (λ c. datum c ∷ map datum (drop (i + 1) cells)) (sym e)

pub ruleset steps = (cells-at, length-map)

pub validity-none : (cs : List Datum) → null_count cs ≡ 0 → bytes_of [] ≡ validity cs
unfolding bytes_of validity
validity-none cs h = rw h refl

pub validity-some : (cs : List Datum) (set : List Bool) → null_count cs ≢ 0 → set ≡ map is_valid cs
    → bytes_of set ≡ validity cs
unfolding validity
validity-some cs set h e = rw e (grind (arith, nat_tests))

pub ruleset bits = (cells-at, length-map, validity-none, validity-some)

-- after the last cell

pub all-read :
    {A C : Type 0} (f : Datum → A) (datum : C → Datum) (cells : List C) (made : List A) (i : ℕ) → length cells ≤ i
    → made ++ map f (map datum (drop i cells)) ≡ map f (map datum cells) → made ≡ map f (map datum cells)
all-read f datum cells made i h e =
    sym (append-nil made) ∙ ap (λ rest. made ++ map f (map datum rest)) (sym (drop_all i cells h)) ∙ e

pub items-read :
    (c : Datum) (ds items made before : List Datum) (i : ℕ) → c ≡ list (items_of ds) → items ≡ ds → length items ≤ i
    → made ++ drop i items ≡ before ++ items → made ≡ before ++ items_in c
items-read c ds items made before i is same h e =
    sym (append-nil made) ∙ ap (λ rest. made ++ rest) (sym (drop_all i items h)) ∙ e
    ∙ ap (λ xs. before ++ xs) (same ∙ sym (listed-items_of ds) ∙ ap items_in (sym is))

pub few-cells :
    {C : Type 0} (datum : C → Datum) (t : Rose Layout) (cells : List C) → weights t (map datum cells) < 2 ^ 31
    → length cells < 2 ^ 31
few-cells datum t cells h =
    let same = length-map cells datum in
    let long = weights-long t (map datum cells) in
    omega (arith, same, long, h)
