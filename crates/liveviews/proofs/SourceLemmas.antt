-- What is so of bytes that are read from a source, piece by piece.
use Rattle.std.proofs.Common.{
  ◌≡◌,
  ℕ,
  Option,
  None,
  Some,
  List,
  [],
  ◌+◌,
  ◌≤◌,
  ◌++◌,
  take,
  ap,
  sym,
  subst,
  ◌∙◌,
  refl,
  append_assoc,
  append-nil,
  arith,
  length,
}
use Rattle.std.proofs.Math.Seq.{take-append-add}
use Rattle.std.proofs.lemmas.List.{length-take-le, take-take}
use Rattle.std.proofs.lemmas.Slice.{take-put_mid}
use Rattle.std.specs.Io.KnownBytes.{Consumes, IsAtEnd, Keeps}
use borrow.Rule.Slice.PartMut.{put_mid}
use Rattle.liveviews.specs.Files.{InspectsFile, IsContent}
use Rattle.liveviews.specs.Source.{HoldsFile, OfRead, OfSource}

consumes-more :
    (held old new : Option (List ℕ)) (bytes piece : List ℕ) → Consumes held old bytes → Consumes old new piece
    → Consumes held new (bytes ++ piece)
consumes-more None old new bytes piece before now = tt
consumes-more (Some xs) None new bytes piece before now = absurd before
consumes-more (Some xs) (Some ys) None bytes piece before now = absurd now
consumes-more (Some xs) (Some ys) (Some zs) bytes piece before now =
    before ∙ ap (λ v. bytes ++ v) now ∙ sym (append_assoc bytes piece zs)

-- the remaining bytes, where they are known
abbrev left_of : Option (List ℕ) → List ℕ
left_of None = []
left_of (Some xs) = xs

consumes-content :
    (held left : Option (List ℕ)) (bytes : List ℕ) → Consumes held left bytes
    → IsContent held (bytes ++ left_of left)
consumes-content None left bytes took = tt
consumes-content (Some xs) None bytes took = absurd took
consumes-content (Some xs) (Some ys) bytes took = sym took

end-left : (left : Option (List ℕ)) → IsAtEnd left → left_of left ≡ []
end-left None end = refl
end-left (Some xs) end = end

pub read-more :
    (held old new : Option (List ℕ)) (piece : List ℕ) (P Q : List ℕ → Type 0) → OfRead held old P
    → Consumes old new piece
    → ((bytes : List ℕ) → P bytes → Q (bytes ++ piece)) → OfRead held new Q
read-more held old new piece P Q r took goes = record {
  bytes = r.bytes ++ piece;
  read = consumes-more held old new r.bytes piece r.read took;
  so = goes r.bytes r.so;
}

-- All was read.
pub read-all :
    (held left : Option (List ℕ)) (P Q : List ℕ → Type 0) → OfRead held left P → IsAtEnd left
    → ((bytes : List ℕ) → P bytes → Q bytes) → OfSource held Q
read-all held left P Q r end goes =
    let all : (r.bytes ++ left_of left) ≡ r.bytes =
    ap (λ v. r.bytes ++ v) (end-left left end) ∙ append-nil r.bytes in
    record {
      input = r.bytes;
      read = subst (IsContent held) all (consumes-content held left r.bytes r.read);
      so = goes r.bytes r.so;
    }

-- Enough was read to say it, whatever remains.
pub read-enough :
    (held left : Option (List ℕ)) (P Q : List ℕ → Type 0) → OfRead held left P
    → ((bytes later : List ℕ) → P bytes → Q (bytes ++ later)) → OfSource held Q
read-enough held left P Q r goes = record {
  input = r.bytes ++ left_of left;
  read = consumes-content held left r.bytes r.read;
  so = goes r.bytes (left_of left) r.so;
}

-- A read that failed read nothing.
pub kept-consumes :
    (old kept new : Option (List ℕ)) (piece : List ℕ) → Keeps old kept → Consumes kept new piece
    → Consumes old new piece
kept-consumes None kept new piece same took = tt
kept-consumes (Some xs) None new piece same took = absurd same
kept-consumes (Some xs) (Some ys) new piece same took =
    subst (λ (v : List ℕ). Consumes (Some v) new piece) same took

-- Bytes that are read into a part of a buffer come after those before it.
pub consumes-part :
    (held old new : Option (List ℕ)) (room part : List ℕ) (from k n : ℕ) → from ≤ length room → n ≤ length part
    → Consumes old new (take n part) → Consumes held old (take from room)
    → Consumes held new (take (from + n) (put_mid from k room part))
consumes-part held old new room part from k n h few took before =
    let whole : take (from + length part) (put_mid from k room part) ≡ take from room ++ part =
    take-put_mid from k room part (from + length part) refl h in
    let first : take (from + n) (put_mid from k room part) ≡ take from room ++ take n part =
    sym (take-take (from + n) (from + length part) (put_mid from k room part) (omega (arith, few)))
    ∙ ap (λ (xs : List ℕ). take (from + n) xs) whole
    ∙ ap (λ (j : ℕ). take (j + n) (take from room ++ part)) (sym (length-take-le from room h))
    ∙ take-append-add (take from room) part n in
    subst (λ (xs : List ℕ). Consumes held new xs) (sym first)
    (consumes-more held old new (take from room) (take n part) before took)

-- A read of no bytes found the source's end.
pub read-end :
    (held old new : Option (List ℕ)) (n : ℕ) (room : List ℕ) (P Q : List ℕ → Type 0) → OfRead held old P
    → Consumes old new (take n room) → n ≡ 0 → IsAtEnd new → ((bytes : List ℕ) → P bytes → Q bytes) → OfSource held Q
read-end held old new n room P Q r took none end goes =
    let nothing : take n room ≡ [] = ap (λ m. take m room) none in
    read-all held new P Q
    (read-more held old new (take n room) P P r took
    (λ bytes so. subst P (sym (ap (λ v. bytes ++ v) nothing ∙ append-nil bytes)) so)) end goes

-- What holds of a piece holds whatever comes after it.
pub read-stop :
    (held old new : Option (List ℕ)) (piece : List ℕ) (P Q : List ℕ → Type 0) → OfRead held old P
    → Consumes old new piece
    → ((bytes later : List ℕ) → P bytes → Q ((bytes ++ piece) ++ later)) → OfSource held Q
read-stop held old new piece P Q r took goes =
    let Stays : List ℕ → Type 0 = λ xs. (later : List ℕ) → Q (xs ++ later) in
    read-enough held new Stays Q (read-more held old new piece P Stays r took (λ bytes so later. goes bytes later so))
    (λ bytes later so. so later)

-- What follows of the bytes of a source.
pub source-weaker :
    (held : Option (List ℕ)) (P Q : List ℕ → Type 0) → OfSource held P → ((input : List ℕ) → P input → Q input)
    → OfSource held Q
source-weaker held P Q source goes =
    record { input = source.input; read = source.read; so = goes source.input source.so }

-- What is known of a source is known of its file.
pub inspects-file :
    (file source : Option (List ℕ)) (text : List ℕ) (status : ℕ) → HoldsFile file source
    → InspectsFile source text status → InspectsFile file text status
inspects-file file source text status holds i = record {
  input = i.input;
  read = holds i.input i.read;
  tells = i.tells;
  valid = i.valid;
}
