-- The book of a text. Assumes nothing.
use Rattle.std.specs.Prelude.{◌≡◌, ℕ, cond, List, [], ◌∷◌, length, take, drop, Ok, Err, Result, nat_le}
use Rattle.stops.specs.declared.Stop.TheVariants.{TooLong}
use Rattle.lines.specs.declared.fault.TextFault.{TextFault}
use Rattle.lines.specs.Texts.{lines_of}
use Rattle.lines.specs.Reading.{longest_text, text_fault}
use Rattle.frames.specs.declared.fault.FrameFault.{FrameFault}
use Rattle.frames.specs.declared.fault.FrameFault.TheVariants.{Text}
use Rattle.frames.specs.declared.frame.Frame as Frames
use Rattle.frames.specs.Frames.{Content, content, frame_of, line_frame}
use Rattle.faults.specs.declared.BookFault.{BookFault}
use Rattle.faults.specs.declared.BookFault.TheVariants.{Frame}
use Rattle.entries.specs.declared.memory.Memory.{Memory}
use Rattle.books.specs.declared.state.Draft.{Draft}
use Rattle.books.specs.declared.state.Book.{Book}
use Rattle.books.specs.Held.{Drafted, Closed, empty, draft_of, book_of}
use Rattle.books.specs.Adding.{next_line}
use Rattle.books.specs.Taking.{after_frame, closed}

-- what the frame layer says; the book layer passes its fault on whole
abbrev pub in_book : Result Content FrameFault → Result Content BookFault
in_book (Ok c) = Ok c
in_book (Err e) = Err (Frame e)

-- what a frame says that was read
abbrev pub known : Result (Frames.Frame) BookFault → Result Content BookFault
known (Ok f) = Ok (content f)
known (Err e) = Err e

-- what a line that was read so makes of a draft
abbrev pub after_reading : Drafted → Result Content BookFault → Result Drafted BookFault
after_reading h (Ok c) = after_frame h c
after_reading h (Err f) = Err f

-- what the front of a buffer says, where the line was decoded into it
abbrev pub frame_in : ℕ → Result ℕ TextFault → List ℕ → Result Content BookFault
frame_in line (Ok n) buffer = in_book (frame_of line (take n buffer))
frame_in line (Err e) buffer = Err (Frame (Text e))

-- a draft after one line of the text more: the line's characters are read as its frame, and the frame is taken
abbrev pub after_line : Drafted → List ℕ → Result Drafted BookFault
after_line h chars = after_reading h (in_book (line_frame (next_line h.lines) chars))

-- the buffer after a line: as it was where the line's characters are at fault, else the line's bytes in its front, and
-- the rest as it was
abbrev pub Buffered : Result (List ℕ) TextFault → List ℕ → List ℕ → Type 0
Buffered (Ok bs) old new = (take (length bs) new ≡ bs) × (drop (length bs) new ≡ drop (length bs) old)
Buffered (Err e) old new = new ≡ old

-- a reading that stopped: what the lines before the stop gave, and the fault
pub record Stopped : Type 0 where
  pub held : Drafted
  pub fault : BookFault

-- a fault, with the draft that it left
abbrev pub or_stopped : {X : Type 0} → Drafted → Result X BookFault → Result X Stopped
or_stopped h (Ok x) = Ok x
or_stopped h (Err f) = Err (record { held = h; fault = f })

-- one line more; after a stop no line is read
abbrev pub further : Result Drafted Stopped → List ℕ → Result Drafted Stopped
further (Ok h) l = or_stopped h (after_line h l)
further (Err s) l = Err s

-- line after line
abbrev pub through : Result Drafted Stopped → List (List ℕ) → Result Drafted Stopped
through r [] = r
through r (l ∷ ls) = through (further r l) ls

-- a reading that came to the end of the text closes its draft
abbrev pub shut : Result Drafted Stopped → Result Closed Stopped
shut (Ok h) = or_stopped h (closed h)
shut (Err s) = Err s

-- the book of a text: its lines are taken one by one by a draft that begins empty, and the draft is closed
abbrev pub text_book : List ℕ → Result Closed Stopped
text_book text =
    cond (nat_le (length text) longest_text)
    (shut (through (Ok empty) (lines_of text)))
    (Err (record { held = empty; fault = Frame (Text (text_fault TooLong 0 0)) }))

-- a call that reads a text: a book, or the draft of the lines before the stop
abbrev pub Answered : List ℕ → Result Book (Draft × BookFault) → Memory → Type 0
Answered text (Ok b) m = text_book text ≡ Ok (book_of b m)
Answered text (Err e) m = text_book text ≡ Err (record { held = draft_of e.0 m; fault = e.1 })
