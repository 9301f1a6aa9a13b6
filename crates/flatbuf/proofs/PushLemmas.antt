-- One more slot is written.
use Rattle.std.proofs.Common.{◌≡◌, ℕ, ◌+◌, ◌-◌, ◌<◌, List, ◌++◌, length, get_or, drop, ◌∙◌, append_assoc}
use Rattle.byteorder.specs.Endian.{little_bytes}
use Rattle.flatbuf.specs.Written.{zeros, field_place, field_end, content, fields, object_place, object_end, elements}
use Rattle.flatbuf.specs.declared.slot.Slot.{Slot}
use Rattle.flatbuf.specs.Slots.{view, views}
use Rattle.flatbuf.proofs.Views.{views-at}

pub elements-more : (out : List ℕ) (p at : ℕ) (xs : List Slot) (i : ℕ) (x : Slot) → i < length xs → x ≡ get_or xs i x →
    (out ++ little_bytes 4 (object_place at (view x) - p))
    ++ elements (p + 4) (object_end at (view x)) (views (drop (i + 1) xs))
    ≡ out ++ elements p at (views (drop i xs))
elements-more out p at xs i x h e =
    rw (views-at xs i x h e)
    (append_assoc out (little_bytes 4 (object_place at (view x) - p))
    (elements (p + 4) (object_end at (view x)) (views (drop (i + 1) xs))))

pub fields-more : (out : List ℕ) (t c at : ℕ) (xs : List Slot) (i : ℕ) (x : Slot) → i < length xs → x ≡ get_or xs i x →
    ((out ++ zeros (field_place c (view x) - c)) ++ content (t + field_place c (view x)) at (view x))
    ++ fields t (field_end c (view x)) (object_end at (view x)) (views (drop (i + 1) xs))
    ≡ out ++ fields t c at (views (drop i xs))
fields-more out t c at xs i x h e =
    let fill = zeros (field_place c (view x) - c) in
    let bytes = content (t + field_place c (view x)) at (view x) in
    let rest = fields t (field_end c (view x)) (object_end at (view x)) (views (drop (i + 1) xs)) in
    rw (views-at xs i x h e) (append_assoc (out ++ fill) bytes rest ∙ append_assoc out fill (bytes ++ rest))
