-- The limits of document 01 on messages, each under one name; (H) marks 01's house numbers.
-- Assumes nothing.
use Rattle.std.specs.Prelude.{ℕ}

-- the octets of a message (21)
abbrev pub longest_message : ℕ
longest_message = 512

-- what a count may announce (18)
abbrev pub most_counted : ℕ
most_counted = 16

-- the attribute rows of a message, nested ones too (18)
abbrev pub most_rows : ℕ
most_rows = 32

-- the depth of a container, the outermost being 1 (19)
abbrev pub deepest : ℕ
deepest = 4

-- the octets of an octet string: what its length's seven bits can say, so that no check has to
abbrev pub longest_string : ℕ
longest_string = 127
