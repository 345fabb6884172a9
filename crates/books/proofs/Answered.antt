-- The book of a text holds exactly what its lines say. Assumes nothing.
use Rattle.std.proofs.Common.{◌≡◌, ℕ, ◌<◌, ◌≤◌, leb, cond, Bool, List, [], ◌∷◌, length, Some, Ok, Err, Result, refl, ap, ◌∙◌, arith}
use Rattle.std.proofs.lemmas.List.{take_all}
use Rattle.std.proofs.lemmas.Bool.{cond-false, lt-leb}
use Rattle.std.proofs.lemmas.Bool.Decides.{nat_tests}
use Rattle.stops.specs.declared.Stop.TheVariants.{TooLong}
use Rattle.lines.specs.declared.fault.TextFault.{TextFault}
use Rattle.lines.specs.Texts.{lines_of}
use Rattle.lines.specs.Reading.{longest_text, text_fault}
use Rattle.lines.proofs.Cuts.{lines_few}
use Rattle.frames.specs.declared.fault.FrameFault.TheVariants.{Text}
use Rattle.faults.specs.declared.BookFault.{BookFault}
use Rattle.faults.specs.declared.BookFault.TheVariants.{Frame}
use Rattle.entries.specs.declared.memory.Memory.{Memory}
use Rattle.books.specs.declared.state.Draft.{Draft}
use Rattle.books.specs.declared.state.Book.{Book}
use Rattle.books.specs.Held.{Drafted, Closed, empty, draft_of, book_of}
use Rattle.books.specs.Taking.{Taken, Shut}
use Rattle.books.specs.TextBook.{Stopped, after_line, or_stopped, through, shut, text_book, Answered}
use Rattle.books.specs.Says.{SaysYet, HoldsLines, HoldsFirst, Faithful}
use Rattle.books.proofs.Whole.{Took, took, stopped, begun, reached}

-- a book is of a draft that came to the end of the text, and a fault leaves the draft that the reading reached
shut_ok : (r : Result Drafted Stopped) (b : Closed) → shut r ≡ Ok b → (r ≡ Ok (reached r)) × ((reached r).closing ≡ Some b.closing) × ((reached r).entries ≡ b.entries) × ((reached r).lines ≡ b.lines)
shut_ok r b e = grind (arith, nat_tests)

shut_err : (r : Result Drafted Stopped) (s : Stopped) → shut r ≡ Err s → reached r ≡ s.held
shut_err r s e = grind arith

-- a text that is too long is read as no line
abbrev long_stop : Stopped
long_stop = record { held = empty; fault = Frame (Text (text_fault TooLong 0 0)) }

abbrev reading : List ℕ → Result Drafted Stopped
reading text = cond (leb (length text) longest_text) (through (Ok empty) (lines_of text)) (Err long_stop)

as_reading : (fits : Bool) (r : Result Drafted Stopped) (s : Stopped) → cond fits (shut r) (Err s) ≡ shut (cond fits r (Err s))
as_reading fits r s = grind arith

if_short : (P : Result Drafted Stopped → Type 0) (n m : ℕ) (x y : Result Drafted Stopped) → (n ≤ m → P x) → P y → P (cond (leb n m) x y)
if_short P n m x y short long = grind (arith, nat_tests)

reads : (text : List ℕ) → Took [] (lines_of text) (reading text)
reads text =
    if_short (Took [] (lines_of text)) (length text) longest_text _ _
    (λ short. took (lines_of text) [] empty begun (omega (arith, lines_few text)))
    (record { contents = []; read = tt; after = begun; whole = λ h e. absurd cc })

says_yet : (ls : List (List ℕ)) (r : Result Drafted Stopped) → (t : Took [] ls r) → SaysYet t.contents (reached r)
says_yet ls r t = record { gives = t.after.entries.gives; closes = t.after.closes; counts = t.after.counts }

book_says : (text : List ℕ) (r : Result Drafted Stopped) (b : Closed) → Took [] (lines_of text) r → shut r ≡ Ok b → HoldsLines text b
book_says text r b t e =
    let held = shut_ok r b e in
    let yet = says_yet (lines_of text) r t in
    let all : length (lines_of text) ≤ length t.contents = omega (arith, t.whole (reached r) held.0) in
    record {
      contents = t.contents;
      read = rw take_all at t.read;
      says = record { gives = rw held.2 at yet.gives; closes = rw held.1 at yet.closes; counts = rw held.3 at yet.counts };
    }

stop_says : (text : List ℕ) (r : Result Drafted Stopped) (s : Stopped) → Took [] (lines_of text) r → shut r ≡ Err s → HoldsFirst text s.held
stop_says text r s t e = rw (← shut_err r s e) (record { contents = t.contents; read = t.read; says = says_yet (lines_of text) r t })

pub faithful : (text : List ℕ) (r : Result Book (Draft × BookFault)) (m : Memory) → Answered text r m → Faithful text r m
faithful text (Ok b) m e = book_says text (reading text) (book_of b m) (reads text) (rw as_reading at e)
faithful text (Err f) m e = stop_says text (reading text) (record { held = draft_of f.0 m; fault = f.1 }) (reads text) (rw as_reading at e)

-- how the call that reads a text comes to its answer: the text is too long; or it is read line by line, to a stop or to
-- the end
pub too_long : (text : List ℕ) (h : Drafted) (f : TextFault) (g : BookFault) → longest_text < length text → f ≡ text_fault TooLong 0 0 → h ≡ empty → g ≡ Frame (Text f) → text_book text ≡ Err (record { held = h; fault = g })
too_long text h f g long found begins whole = rw (whole, found, begins) (cond-false _ _ _ (lt-leb (length text) longest_text long))

pub text_read : (text : List ℕ) → length text ≤ longest_text → text_book text ≡ shut (through (Ok empty) (lines_of text))
text_read text short = grind (arith, nat_tests)

pub reads_on : (h : Drafted) (line : List ℕ) (rest lines : List (List ℕ)) → lines ≡ line ∷ rest → (r : Result Drafted BookFault) → after_line h line ≡ r → through (Ok h) lines ≡ through (or_stopped h r) rest
reads_on h line rest lines is r e = rw (is, e) refl

pub stops_at : (text : List ℕ) (d : Draft) (m m' : Memory) (e : Draft × BookFault) (line : List ℕ) (rest lines : List (List ℕ)) → text_book text ≡ shut (through (Ok (draft_of d m)) lines) → lines ≡ line ∷ rest → Taken (after_line (draft_of d m) line) d m (Err e) m' → Answered text (Err e) m'
stops_at text d m m' e line rest lines before is t = rw (t.1, t.2) (before ∙ ap shut (reads_on (draft_of d m) line rest lines is (Err e.1) t.0 ∙ stopped _ rest))

pub ends_at : (text : List ℕ) (d : Draft) (m : Memory) (r : Result Book (Draft × BookFault)) (lines : List (List ℕ)) → text_book text ≡ shut (through (Ok (draft_of d m)) lines) → lines ≡ [] → Shut d m r → Answered text r m
ends_at text d m (Ok b) lines before is s = before ∙ rw (is, s) refl
ends_at text d m (Err e) lines before is s = before ∙ rw (is, s.0, s.1) refl
