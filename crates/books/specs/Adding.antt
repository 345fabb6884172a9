-- What a line adds to a draft. Assumes nothing.
use Rattle.std.specs.Prelude.{ℕ, ◌+◌, min}
use Rattle.lines.specs.Reading.{longest_text}
use Rattle.frames.specs.Frames.{Content, kind_of}
use Rattle.entries.specs.Giving.{given, closing_after}
use Rattle.books.specs.Held.{Drafted}

-- the number of the line after n lines. No text has more lines than characters, so that the count stays at that number
-- is never seen of a text
abbrev pub next_line : ℕ → ℕ
next_line n = min (n + 1) longest_text

-- the draft with what a line's fields give; how many lines it took and the kind of the last stay
abbrev pub with_fields : Drafted → Content → Drafted
with_fields h c = record { lines = h.lines; last = h.last; entries = given h.entries c; closing = closing_after h.closing c }

-- the draft with a line added
abbrev pub added : Drafted → Content → Drafted
added h c = record { lines = next_line h.lines; last = kind_of c; entries = given h.entries c; closing = closing_after h.closing c }
