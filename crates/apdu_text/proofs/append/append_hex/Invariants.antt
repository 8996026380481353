-- What is written.
-- Assumes nothing.
use Rattle.bench_lines.specs.Line.{hex_text}
use Rattle.apdu_text.proofs.append.append_hex.Given as goal

abbrev pub ghost-append : goal.ghost-append
ghost-append a = hex_text a.write.0.now
