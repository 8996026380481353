-- `bench_lines::splitting::keep_part` meets its contract: it copies what the buffer has room for; how parts add up is a law of the definitions.
-- Assumes nothing.
use native.Mathlib.Omega.{arith}
use Rattle.bench_lines.proofs.Keeping.{all_kept, part_kept}
use Rattle.bench_lines.proofs.Parts.{keeping_parts, reading_kept}
use Rattle.bench_lines.proofs.splitting.keep_part.Goals as goal

pub returns-then-most-held : goal.returns-then-most-held
returns-then-most-held c = record { answer = all_kept _ _ _ (omega arith); parts = keeping_parts; whole = reading_kept }

pub returns : goal.returns
returns c = record {
  answer = part_kept _ c.args.held _ _ _ (omega arith) (omega arith) c.copy_from_slice.ensures.after (omega arith);
  parts = keeping_parts;
  whole = reading_kept;
}
