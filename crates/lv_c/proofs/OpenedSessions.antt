-- A session that is opened is stored, or memory was refused for its box.
use mathlib.Core.Path.{refl}
use Rattle.std.proofs.Common.{ℕ, List, inl, inr}
use Rattle.std.specs.Prelude.{None, Option}
use Rattle.values.specs.declared.causes.Cause.TheVariants as cause
use Rattle.lv_c.specs.declared.held.Held.{Held}
use Rattle.lv_c.specs.Behind.{Opens}
use Rattle.lv_c.specs.Calls.{IsBoxed, OpenCall}

pub opens-kept : (bytes : List ℕ) (result : ℕ) (new : Option Held) (h : Held) → Opens bytes h → IsBoxed h result new
    → OpenCall None bytes result new
opens-kept bytes result new h opens (inl kept) = inl (kept.0, (h, kept.1, opens))
opens-kept bytes result new h opens (inr refused) = inr (cause.Memory, refused.0, inr (inr refl), refused.1)
