-- What the report prints of a text. Assumes nothing.
use Rattle.std.specs.Prelude.{ℕ, List, ◌++◌, Ok, Err, codes, decimal, Result}
use Rattle.faults.specs.declared.BookFault.{BookFault}
use Rattle.faults.specs.Faults.{stop_words}
use Rattle.books.specs.Held.{Closed}
use Rattle.books.specs.TextBook as TextBook
use Rattle.books.specs.TextBook.{text_book}
use Rattle.reports.specs.declared.Answer.{Answer}

-- the line of a fault
abbrev pub stop_line : BookFault → List ℕ
stop_line f = stop_words f ++ codes "\n"

-- a good book: how many lines it has
abbrev pub taken_line : ℕ → List ℕ
taken_line n = codes "taken " ++ (decimal n ++ codes "\n")

-- what is printed of a reading that gave so many lines, or a fault
abbrev pub reading_line : Result ℕ BookFault → List ℕ
reading_line (Ok n) = taken_line n
reading_line (Err f) = stop_line f

-- what is printed of an answer
abbrev pub printed : Answer → List ℕ
printed a = reading_line a.0

-- what is answered to a reading: how many lines the book has, or the fault
abbrev pub answered : Result Closed TextBook.Stopped → Result ℕ BookFault
answered (Ok b) = Ok b.lines
answered (Err s) = Err s.fault

-- what a text is read as
abbrev pub reading_of : List ℕ → Result ℕ BookFault
reading_of text = answered (text_book text)

-- what is answered to a text
abbrev pub answer_of : List ℕ → Answer
answer_of text = record { 0 = reading_of text }
