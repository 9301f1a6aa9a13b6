-- The laws that are contracts of public functions.
use Rattle.std.proofs.Common.{◌≡◌, inl, inr, ℕ, Some, Ok, List, ◌++◌, length, take, drop, sym, subst, ◌∙◌, arith}
use Rattle.std.proofs.lemmas.List.{length-take-le, take-append-drop}
use Rattle.schema_meta.specs.Stage.{end_of}
use Rattle.schema_meta.specs.Framing.{first}
use Rattle.messages.specs.Laws.{WholeStays, WholeWithin, WholeAlone, NothingYet, FaultStays, FaultsStay}
use Rattle.messages.proofs.Messages.{whole_stays, fault_stays, faults_stay, first_within, first_beyond, first_stable}
use Rattle.messages.proofs.Streams.{nothing_held}

pub whole_law : WholeStays
whole_law known bytes more w e = whole_stays known bytes more w e

pub within_law : WholeWithin
within_law known bytes w e = (first_within known bytes w e).1

pub fault_law : FaultStays
fault_law known bytes more c h = fault_stays known bytes more c h

pub faults_law : FaultsStay
faults_law known bytes more fs h = faults_stay known bytes more fs h

pub alone_law : WholeAlone
alone_law known bytes w e =
    let own : List ℕ = take (end_of w) bytes in
    let rest : List ℕ = drop (end_of w) bytes in
    let all : own ++ rest ≡ bytes = take-append-drop (end_of w) bytes in
    let P : List ℕ → Type 0 = λ bs. first known bs ≡ Ok (Some w) in
    let whole : first known (own ++ rest) ≡ Ok (Some w) = subst P (sym all) e in
    let size : length own ≡ end_of w = length-take-le (end_of w) bytes (first_within known bytes w e).1 in
    elim (first_stable known own rest) [
      | inl n ↦ let beyond = first_beyond known own rest w n whole in absurd (omega arith)
      | inr same ↦ sym same ∙ whole
    ]

pub none_law : NothingYet
none_law known = nothing_held known

pub ruleset laws = (whole_law, within_law, fault_law, faults_law, alone_law, none_law)
