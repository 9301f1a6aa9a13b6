-- Buffers that are appended one after another.
use Rattle.std.proofs.Common.{
  ◌≡◌,
  ℕ,
  ◌+◌,
  List,
  [],
  ◌∷◌,
  ◌++◌,
  length,
  ap,
  sym,
  ◌∙◌,
  arith,
  append_assoc,
  append-nil,
  length-append,
}
use Rattle.std.proofs.lemmas.List.Concat.{flat_map-append}
use Rattle.array_layout.specs.declared.array.FieldNode.{FieldNode}
use Rattle.std.specs.Prelude.{◌-◌, replicate}
use Rattle.body_writer.specs.Body.{laid, padded, padding, ranges_from}
use Rattle.body_writer.specs.Grows.{Appends, Begins, Grows}
use Rattle.body_writer.specs.declared.body.Body.{Body}

pub ruleset lengths = (length-append, append_assoc, append-nil)

-- the bytes of a buffer after those of the ones before it
pub buffer-ended : (before old new : Body) (x : List ℕ) (len from : ℕ) → length before.bytes.items ≡ from
    → Begins before old x → len ≡ length old.bytes.items - from → new.nodes.items ≡ old.nodes.items
    → new.ranges.items ≡ old.ranges.items ++ (record { from = from; len = len }) ∷ []
    → new.bytes.items ≡ old.bytes.items ++ replicate (padding len) 0
    → Appends before new (x ∷ [])
buffer-ended before old new x len from place begins is nodes ranges bytes =
    let all : length x ≡ len =
    omega (arith, is, place, ap length begins.bytes ∙ length-append before.bytes.items x) in
    record {
      nodes = nodes ∙ begins.nodes;
      ranges = ranges ∙ ap (λ rs. rs ++ (record { from = from; len = len }) ∷ []) begins.ranges
          ∙ ap (λ n. before.ranges.items ++ (record { from = n; len = len }) ∷ []) (sym place)
          ∙ ap (λ n. before.ranges.items ++ (record { from = length before.bytes.items; len = n }) ∷ []) (sym all);
      bytes = bytes ∙ ap (λ n. old.bytes.items ++ replicate (padding n) 0) (sym all)
          ∙ ap (λ bs. bs ++ replicate (padding (length x)) 0) begins.bytes
          ∙ append_assoc before.bytes.items x (replicate (padding (length x)) 0)
          ∙ ap (λ bs. before.bytes.items ++ bs) (sym (append-nil (padded x)));
    }

pub ruleset ending = (buffer-ended, lengths)

pub ranges_from-append : (at : ℕ) (xs ys : List (List ℕ))
    → ranges_from at (xs ++ ys) ≡ ranges_from at xs ++ ranges_from (at + length (laid xs)) ys
ranges_from-append at [] ys = ap (λ n. ranges_from n ys) (omega arith)
ranges_from-append at (x ∷ xs) ys =
    let rest = ranges_from-append (at + length (padded x)) xs ys in
    let both : length (laid (x ∷ xs)) ≡ length (padded x) + length (laid xs) = length-append (padded x) (laid xs) in
    let place : at + length (padded x) + length (laid xs) ≡ at + length (laid (x ∷ xs)) = omega (arith, both) in
    ap (λ ss. record { from = at; len = length x } ∷ ss) (rest
    ∙ ap (λ n. ranges_from (at + length (padded x)) xs ++ ranges_from n ys) place)

pub Grows-then : {a b c : Body} (ns ms : List FieldNode) (xs ys : List (List ℕ)) → Grows a b ns xs → Grows b c ms ys
    → Grows a c (ns ++ ms) (xs ++ ys)
Grows-then {a} {b} {c} ns ms xs ys first second =
    let moved : length b.bytes.items ≡ length a.bytes.items + length (laid xs) =
    ap length first.bytes ∙ length-append a.bytes.items (laid xs) in
    record {
      nodes = second.nodes ∙ rw first.nodes (append_assoc a.nodes.items ns ms);
      ranges =
          second.ranges
          ∙ rw (first.ranges, moved)
          (append_assoc a.ranges.items (ranges_from (length a.bytes.items) xs)
          (ranges_from (length a.bytes.items + length (laid xs)) ys)
          ∙ ap (λ ss. a.ranges.items ++ ss) (sym (ranges_from-append (length a.bytes.items) xs ys)));
      bytes = second.bytes
          ∙ rw first.bytes (append_assoc a.bytes.items (laid xs) (laid ys)
          ∙ ap (λ bs. a.bytes.items ++ bs) (sym (flat_map-append padded xs ys)));
    }
