-- The table of the stored stream can be written, and one of texts without rows.
use Rattle.std.proofs.Common.{[], zero, suc, arith}
use Rattle.std.specs.Prelude.{All}
use Rattle.stream_writer.specs.Sample.{sample_fields, sample_rows, text_fields}
use Rattle.stream_writer.specs.Table.{IsRow, IsTable}

sound : All (IsRow sample_fields) sample_rows
sound zero d below =
    record { held = ((omega arith, omega arith), ((omega arith, omega arith), tt)); light = omega arith }
sound (suc zero) d below = record { held = ((omega arith, omega arith), (tt, tt)); light = omega arith }
sound (suc (suc zero)) d below =
    record { held = ((omega arith, omega arith), ((omega arith, omega arith), tt)); light = omega arith }
sound (suc (suc (suc k))) d below = absurd (omega (arith, below))

pub is_table : IsTable sample_fields sample_rows
is_table =
    record {
      columns = record { few = omega arith; within = ((omega arith, tt, tt), ((omega arith, tt, tt), tt)) };
      layouts = ((tt, tt), ((tt, tt), tt));
      few = omega arith;
      sound = sound;
    }

pub is_text_table : IsTable text_fields []
is_text_table =
    record {
      columns =
          record {
            few = omega arith;
            within = ((omega arith, tt, tt), ((omega arith, tt, ((omega arith, tt, tt), tt)), tt));
          };
      layouts = ((tt, tt), ((tt, ((tt, tt), tt)), tt));
      few = omega arith;
      sound = λ k d below. absurd (omega (arith, below));
    }
