-- What a reader has yet to read, and what its calls answer. Assumes nothing.
use Rattle.std.specs.Prelude.{◌≡◌, ℕ, ◌+◌, ◌<◌, ◌≤◌, List, [], ◌∷◌, length, drop, Some, None, Ok, Err, Option, Result}
use Rattle.stops.specs.declared.Stop.{Stop}
use Rattle.stops.specs.declared.Stop.TheVariants.{TooLong}
use Rattle.stops.specs.Stops.{fault}
use Rattle.lines.specs.declared.fault.TextFault.{TextFault}
use Rattle.lines.specs.declared.reader.Line.{Line}
use Rattle.lines.specs.declared.reader.Reader.{Reader}
use Rattle.lines.specs.Texts.{front, after, lines_of, Lines}

-- a text has at most this many characters
abbrev pub longest_text : ℕ
longest_text = 65536

-- a fault of the text layer
abbrev pub text_fault : Stop → ℕ → ℕ → TextFault
text_fault s l p = record { found = fault s l p }

-- the part of the text that is not read yet
abbrev pub unread : Reader → List ℕ
unread r = drop r.at r.text.now

-- the lines that a reader has yet to yield
abbrev pub lines_left : Reader → List (List ℕ)
lines_left r = lines_of (unread r)

-- a reader that begins: nothing is read. What it will yield are the lines of the text, by the law that fixes them
pub record Begins (text : List ℕ) (r : Reader) : Type 0 where
  pub all : unread r ≡ text
  pub none : r.lines ≡ 0
  pub cut : Lines text (lines_of (unread r))

-- no line of a text that is too long is at fault, so the fault names line 0 and place 0
abbrev pub Measured : List ℕ → Result (Unit {0}) TextFault → Type 0
Measured text (Ok u) = length text ≤ longest_text
Measured text (Err f) = (longest_text < length text) × (f ≡ text_fault TooLong 0 0)

-- a line read: the characters up to the first line end, and its number; what follows is left to read
pub record Read (r : Reader) (l : Line) (r' : Reader) : Type 0 where
  pub part : l.part.now ≡ front (unread r)
  pub rest : unread r' ≡ after (unread r)
  pub line : lines_of (unread r) ≡ l.part.now ∷ lines_of (unread r')
  pub number : l.number ≡ r.lines + 1
  pub count : r'.lines ≡ r.lines + 1

-- none where nothing is left, and the reader stays
abbrev pub Yielded : Reader → Option Line → Reader → Type 0
Yielded r None r' = (unread r ≡ []) × (unread r' ≡ []) × (r'.lines ≡ r.lines)
Yielded r (Some l) r' = Read r l r'
