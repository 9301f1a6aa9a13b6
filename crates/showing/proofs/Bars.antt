-- The line of a table, column by column.
use Rattle.std.proofs.Common.{
  ◌≡◌,
  ℕ,
  List,
  [],
  ◌∷◌,
  ◌++◌,
  ◌+◌,
  ◌<◌,
  ◌≤◌,
  length,
  drop,
  get_or,
  map,
  refl,
  ap,
  sym,
  subst,
  ◌∙◌,
  arith,
  append_assoc,
}
use Rattle.std.specs.Prelude.{Option, Result, Ok, Err, OnOk, codes}
use Rattle.std.specs.Io.KnownBytes.{Appends}
use Rattle.std.proofs.KnownBytes.{Appends-nil, Appends-trans}
use Rattle.std.proofs.lemmas.List.{at_drop_all}
use Rattle.values.specs.Datum.{Datum}
use Rattle.values.specs.Rose.{Rose}
use Rattle.schema_meta.specs.Entry.{Entry}
use Rattle.arrays.specs.Checked.{CheckedColumn}
use Rattle.showing.specs.Joined.{joined_behind}
use Rattle.showing.specs.Shown.{cell_in}
use Rattle.showing.specs.Tables.{
  IsHead,
  IsLine,
  PaddedCell,
  PutsSlot,
  Writes,
  before,
  behind,
  cell_slot,
  dashes,
  name_slot,
  name_slots,
  row_slots,
  rule,
  spaces,
}
use Rattle.showing.proofs.Lists.{drop-step}

-- written so far: with what is right for the rest of the line, the whole is right
pub record Begun (a b : Option (List ℕ)) (led : ℕ) (bar : List ℕ) (slots : List PaddedCell) (All : List ℕ → Type 0) : Type 0 where
  pub done : List ℕ
  pub wrote : Appends a b done
  pub whole : (rest : List ℕ) → IsLine led bar slots rest → All (done ++ rest)

pub begun-all : (a : Option (List ℕ)) (slots : List PaddedCell) → Begun a a 0 [] slots (IsLine 0 [] slots)
begun-all a slots = record { done = []; wrote = Appends-nil a; whole = λ rest is. is }

pub begun-more :
    (a b c d e : Option (List ℕ)) (led n : ℕ) (bar : List ℕ) (slots rest : List PaddedCell) (s : PaddedCell)
    (All : List ℕ → Type 0)
    → Begun a b led bar slots All → Appends b c (spaces led) → Appends c d bar → PutsSlot d e s n → slots ≡ s ∷ rest
    → Begun a e n (codes " | ") rest All
begun-more a b c d e led n bar slots rest s All so gap line put first =
    let more : Appends b e (spaces led ++ (bar ++ (spaces (before put.0 s) ++ s.text))) =
    Appends-trans b c e (spaces led) (bar ++ (spaces (before put.0 s) ++ s.text)) gap
    (Appends-trans c d e bar (spaces (before put.0 s) ++ s.text) line put.1) in
    record {
      done = so.done ++ (spaces led ++ (bar ++ (spaces (before put.0 s) ++ s.text)));
      wrote = Appends-trans a b e so.done (spaces led ++ (bar ++ (spaces (before put.0 s) ++ s.text))) so.wrote more;
      whole = λ text is.
          let behind_is : IsLine (behind put.0 s) (codes " | ") rest text =
          subst (λ m. IsLine m (codes " | ") rest text) put.2 is in
          let here : IsLine led bar (s ∷ rest) (spaces led ++ (bar ++ (spaces (before put.0 s) ++ (s.text ++ text)))) =
          (put.0, text, refl, behind_is) in
          let all : All (so.done ++ (spaces led ++ (bar ++ (spaces (before put.0 s) ++ (s.text ++ text))))) =
          so.whole (spaces led ++ (bar ++ (spaces (before put.0 s) ++ (s.text ++ text))))
          (subst (λ ss. IsLine led bar ss (spaces led ++ (bar ++ (spaces (before put.0 s) ++ (s.text ++ text))))) (sym first) here) in
          let same : so.done ++ (spaces led ++ (bar ++ (spaces (before put.0 s) ++ (s.text ++ text))))
          ≡ (so.done ++ (spaces led ++ (bar ++ (spaces (before put.0 s) ++ s.text)))) ++ text = simp append_assoc in
          subst All same all;
    }

pub begun-whole :
    (a b c : Option (List ℕ)) (led : ℕ) (bar : List ℕ) (slots : List PaddedCell) (All : List ℕ → Type 0)
    → Begun a b led bar slots All → slots ≡ [] → Appends b c (codes "\n")
    → Writes a c All
begun-whole a b c led bar slots All so none last = (
  so.done ++ codes "\n",
  so.whole (codes "\n") (subst (λ ss. IsLine led bar ss (codes "\n")) (sym none) refl),
  Appends-trans a b c so.done (codes "\n") so.wrote last,
)

pub begun-end :
    {E : Type 0} (r : Result (Unit {0}) E) (a b c : Option (List ℕ)) (led : ℕ) (bar : List ℕ) (slots : List PaddedCell)
    (All : List ℕ → Type 0)
    → Begun a b led bar slots All → slots ≡ [] → OnOk r (Appends b c (codes "\n"))
    → OnOk r (Writes a c All)
begun-end (Ok u) a b c led bar slots All so none last = begun-whole a b c led bar slots All so none last
begun-end (Err e) a b c led bar slots All so none last = tt

-- the names, and then the dashes
pub head-end :
    {E : Type 0} (r : Result (Unit {0}) E) (a b c d : Option (List ℕ)) (led : ℕ) (bar : List ℕ) (slots : List PaddedCell)
    (ws vs : List ℕ) (fs : List (Rose Entry))
    → Begun a b led bar slots (IsLine 0 [] (name_slots ws 0 fs)) → slots ≡ [] → Appends b c (codes "\n")
    → OnOk r (Appends c d (rule vs)) → vs ≡ ws
    → OnOk r (Writes a d (IsHead ws fs))
head-end (Ok u) a b c d led bar slots ws vs fs so none last dashed same =
    let head : Writes a c (IsLine 0 [] (name_slots ws 0 fs)) =
    begun-whole a b c led bar slots (IsLine 0 [] (name_slots ws 0 fs)) so none last in (
      head.0 ++ rule vs,
      (head.0, head.1, ap (λ x. head.0 ++ rule x) same),
      Appends-trans a c d head.0 (rule vs) head.2 dashed,
    )
head-end (Err e) a b c d led bar slots ws vs fs so none last dashed same = tt

pub name-slots-step :
    (ws : List ℕ) (k : ℕ) (fs : List (Rose Entry)) (f : Rose Entry) (w : ℕ) → f ≡ get_or fs k f → k < length fs
    → w ≡ get_or ws k 0
    → name_slots ws k (drop k fs) ≡ name_slot w f ∷ name_slots ws (k + 1) (drop (k + 1) fs)
name-slots-step ws k fs f w is below wide =
    ap (name_slots ws k) (drop-step fs k f f is below)
    ∙ ap (λ x. name_slot x f ∷ name_slots ws (k + 1) (drop (k + 1) fs)) (sym wide)

pub name-slots-end : (ws : List ℕ) (k : ℕ) (fs : List (Rose Entry)) → length fs ≤ k → name_slots ws k (drop k fs) ≡ []
name-slots-end ws k fs end = at_drop_all (name_slots ws k) fs k end

pub row-slots-step :
    (ws : List ℕ) (k : ℕ) (fs rest : List (Rose Entry)) (f : Rose Entry) (cs : List CheckedColumn) (c : CheckedColumn)
    (i w : ℕ) (d : Datum)
    → fs ≡ f ∷ rest → c ≡ get_or cs k c → k < length cs → w ≡ get_or ws k 0 → d ≡ cell_in c i
    → row_slots ws k fs (drop k cs) i ≡ cell_slot w f d ∷ row_slots ws (k + 1) rest (drop (k + 1) cs) i
row-slots-step ws k fs rest f cs c i w d first is below wide here =
    ap (λ gs. row_slots ws k gs (drop k cs) i) first
    ∙ ap (λ xs. row_slots ws k (f ∷ rest) xs i) (drop-step cs k c c is below)
    ∙ ap (λ x. cell_slot x f (cell_in c i) ∷ row_slots ws (k + 1) rest (drop (k + 1) cs) i) (sym wide)
    ∙ ap (λ x. cell_slot w f x ∷ row_slots ws (k + 1) rest (drop (k + 1) cs) i) (sym here)

pub row-slots-none :
    (ws : List ℕ) (k : ℕ) (fs : List (Rose Entry)) (cs : List CheckedColumn) (i : ℕ) → length fs ≡ 0
    → row_slots ws k fs cs i ≡ []
row-slots-none ws k [] [] i empty = refl
row-slots-none ws k [] (c ∷ cs) i empty = refl
row-slots-none ws k (f ∷ fs) cs i empty = absurd (omega (arith, empty))

row-slots-without : (ws : List ℕ) (k : ℕ) (fs : List (Rose Entry)) (i : ℕ) → row_slots ws k fs [] i ≡ []
row-slots-without ws k [] i = refl
row-slots-without ws k (f ∷ fs) i = refl

pub row-slots-end :
    (ws : List ℕ) (k : ℕ) (fs : List (Rose Entry)) (cs : List CheckedColumn) (i : ℕ) → length cs ≤ k
    → row_slots ws k fs (drop k cs) i ≡ []
row-slots-end ws k fs cs i end =
    at_drop_all (λ xs. row_slots ws k fs xs i) cs k end ∙ row-slots-without ws k fs i

pub dashes-step : (ws vs : List ℕ) (k : ℕ) (led separator : List ℕ) → vs ≡ ws → k < length vs
    → joined_behind led separator (map dashes (drop k ws))
    ≡ led ++ (dashes (get_or vs k 0) ++ joined_behind separator separator (map dashes (drop (k + 1) ws)))
dashes-step ws vs k led separator same below =
    ap (λ xs. joined_behind led separator (map dashes (drop k xs))) (sym same)
    ∙ ap (λ xs. joined_behind led separator (map dashes xs)) (drop-step vs k (get_or vs k 0) 0 refl below)
    ∙ ap
    (λ xs. led ++ (dashes (get_or vs k 0) ++ joined_behind separator separator (map dashes (drop (k + 1) xs)))) same
