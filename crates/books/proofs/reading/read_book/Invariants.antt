use Rattle.std.proofs.Common.{◌≡◌, Ok}
use Rattle.lines.specs.Reading.{lines_left}
use Rattle.books.specs.Held.{draft_of}
use Rattle.books.specs.TextBook.{through, shut, text_book}
use Rattle.books.proofs.reading.read_book.Given as goal

abbrev pub invariant-loop-line : goal.invariant-loop-line
invariant-loop-line l = text_book l.text ≡ shut (through (Ok (draft_of l.draft l.memory)) (lines_left l.line-iterator))
