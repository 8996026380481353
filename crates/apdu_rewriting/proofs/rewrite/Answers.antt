-- Reading refuses, or what was read is written; the round trips hold of every record.
-- Assumes nothing.
use Rattle.bits.proofs.Laws.{octets_known}
use Rattle.apdu_format.proofs.Unplaced.{same_encoded}
use Rattle.apdu_format.proofs.RoundTrip.{reading_encoded, encoding_read, one_encoding, encodings_accepted, levels_suffice}
use Rattle.apdu_rewriting.proofs.RoundTrip.{writing_read, reading_written, reading_exact}
use Rattle.apdu_rewriting.proofs.Rewriting.{reading_refuses, writes_back}
use Rattle.apdu_rewriting.proofs.rewrite.Goals as goal

pub returns-in-Refused : goal.returns-in-Refused
returns-in-Refused c =
    record {
      answer = reading_refuses _ _ _ c.read-r.ensures.answer _ _ c.in-Refused.is;
      writing_read = writing_read;
      reading_written = reading_written;
      reading_exact = reading_exact;
      encoding_read = encoding_read;
      reading_encoded = reading_encoded;
      one_encoding = one_encoding;
      same_encoded = same_encoded;
      encodings_accepted = encodings_accepted;
      levels_suffice = levels_suffice;
    }

pub returns-in-Message : goal.returns-in-Message
returns-in-Message c =
    record {
      answer = writes_back _ _ _ c.read-r.ensures.answer (octets_known _ c.type_inv.s) _ c.in-Message.is _ c.write-written.ensures;
      writing_read = writing_read;
      reading_written = reading_written;
      reading_exact = reading_exact;
      encoding_read = encoding_read;
      reading_encoded = reading_encoded;
      one_encoding = one_encoding;
      same_encoded = same_encoded;
      encodings_accepted = encodings_accepted;
      levels_suffice = levels_suffice;
    }
