-- The numbers of the first live rows, one after another.
use Rattle.std.proofs.Common.{◌≡◌, ℕ, ◌+◌, ◌<◌, ◌≤◌, true, false, List, [], ◌∷◌, ◌++◌, drop, length, take, get_or, ap, sym, ◌∙◌, arith, length-append}
use Rattle.std.specs.Map.{keys_of}
use Rattle.std.proofs.lemmas.List.{take-append-drop, take-append-le, take_all}
use Rattle.row_keys.specs.Numbered.{numbered}
use Rattle.row_keys.specs.Slots.{Slot, no_slot}
use Rattle.row_keys.proofs.ListedNumbers.{Listed, listed_more, listed_none, listed_over, listed_same}
use Rattle.row_keys.proofs.LiveNumbers.{from, from_joined}

-- the numbers of the live rows below number n, of which there are at most this many
pub record FirstListed (slots : List Slot) (most n : ℕ) (numbers : List ℕ) : Type 0 where
  pub listed : Listed slots n numbers
  pub few : length numbers ≤ most

pub first_none : (slots : List Slot) (most : ℕ) → FirstListed slots most 0 []
first_none slots most = record { listed = listed_none slots; few = omega arith }

pub first_more :
    (slots : List Slot) (most n : ℕ) (numbers : List ℕ) → FirstListed slots most n numbers → n < length slots
    → length numbers < most → (get_or slots n no_slot).live ≡ true → FirstListed slots most (n + 1) (numbers ++ n ∷ [])
first_more slots most n numbers l below fewer lives = record {
  listed = listed_more slots n numbers l.listed below lives;
  few = omega (arith, length-append numbers (n ∷ []), fewer);
}

pub first_same :
    (slots : List Slot) (most n : ℕ) (numbers : List ℕ) → FirstListed slots most n numbers → n < length slots
    → (get_or slots n no_slot).live ≡ false → FirstListed slots most (n + 1) numbers
first_same slots most n numbers l below dead = record {
  listed = listed_same slots n numbers l.listed below dead;
  few = l.few;
}

pub first_over :
    (slots : List Slot) (most n k m : ℕ) (numbers : List ℕ) → n + k ≡ m → FirstListed slots most n numbers
    → m ≤ length slots → ((i : ℕ) → n ≤ i → i < m → (get_or slots i no_slot).live ≡ false)
    → FirstListed slots most m numbers
first_over slots most n k m numbers is l within dead = record {
  listed = listed_over slots n k m numbers is l.listed within dead;
  few = l.few;
}

-- all numbers were gone through
pub first_all :
    (slots : List Slot) (most n : ℕ) (numbers : List ℕ) → FirstListed slots most n numbers → length slots ≤ n
    → numbers ≡ take most (keys_of (numbered slots))
first_all slots most n numbers l through =
    let all : numbers ≡ keys_of (numbered slots) =
    l.listed.numbered_are ∙ ap (λ ss. keys_of (numbered ss)) (take_all n slots through) in
    sym (take_all most numbers l.few) ∙ ap (take most) all

-- there are as many as were asked for
pub first_enough :
    (slots : List Slot) (most n : ℕ) (numbers : List ℕ) → FirstListed slots most n numbers → length numbers ≡ most
    → numbers ≡ take most (keys_of (numbered slots))
first_enough slots most n numbers l enough =
    let rest : List ℕ = from (length (take n slots) + 0) (drop n slots) in
    let whole : keys_of (numbered slots) ≡ numbers ++ rest =
    ap (λ ss. keys_of (numbered ss)) (sym (take-append-drop n slots)) ∙ from_joined 0 (take n slots) (drop n slots)
    ∙ ap (λ ns. ns ++ rest) (sym l.listed.numbered_are) in
    sym (take_all most numbers l.few) ∙ sym (take-append-le most numbers rest (omega (arith, enough)))
    ∙ ap (take most) (sym whole)
