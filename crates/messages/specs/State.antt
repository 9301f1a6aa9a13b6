-- The state of a framer as the `Known` of the definitions.
use Rattle.std.specs.Prelude.{List, Option, None, Some}
use Rattle.std.specs.Option.{option_map}
use Rattle.values.specs.Rose.{Rose}
use Rattle.schema_meta.specs.Entry.{Entry}
use Rattle.schema_meta.specs.FieldsLaw.{AreFields}
use Rattle.messages.specs.declared.counts.Count.{Count}
use Rattle.messages.specs.declared.state.State.{State}
use Rattle.messages.specs.declared.metadata.Metadata.{Metadata}
use Rattle.messages.specs.declared.framing.Found.{Found}
use Rattle.messages.specs.declared.framing.Progress.{Progress}
use Rattle.messages.specs.declared.framing.Progress.TheVariants as progress
use Rattle.schema_meta.specs.Stage.{Known, Meta, Whole}
use Rattle.schema_meta.specs.Sound.{schema_after}
use Rattle.messages.specs.Counts.{counted}

abbrev pub known_of : State → Known
known_of s =
    record {
      declared = option_map (λ d. d.fields.items) s.declared;
      schema = option_map (λ d. d.value.fields.items) s.schema;
      counts = s.counts.entries;
    }

-- what is known after a message that has this schema, if any, and sets this count, if any
abbrev pub learnt : Known → Option (List (Rose Entry)) → Option Count → Known
learnt known brought count =
    record {
      declared = known.declared;
      schema = schema_after known.schema brought;
      counts = counted known.counts count;
    }

abbrev pub meta_seen : Metadata → Meta
meta_seen m = record { header = m.header; body = m.body; schema = option_map (λ d. d.value.fields.items) m.schema }

abbrev pub whole_seen : Found → Whole
whole_seen f = record { front = f.front; meta = meta_seen f.metadata }

abbrev pub progress_seen : Progress → Option Whole
progress_seen (progress.Partial n) = None
progress_seen (progress.Whole f) = Some (whole_seen f)

-- The fields of the schema, if one is known, meet the conditions that reading checks (`AreFields`).
abbrev pub IsRead : Option (List (Rose Entry)) → Type 0
IsRead None = Unit {0}
IsRead (Some fields) = AreFields fields
