-- When a draft takes a line, and which stop refuses it. Assumes nothing.
use Rattle.std.specs.Prelude.{◌≡◌, ℕ, ◌+◌, ◌-◌, ◌≤◌, Bool, cond, not, ◌&&◌, ◌||◌, List, [], ◌++◌, length, take, is_some, Some, None, Ok, Err, Option, Result, ◌==◌, nat_le, nat_lt}
use Rattle.stops.specs.declared.Stop.TheVariants.{WrongLength, OutOfSequence, OutOfRange, GivenBefore, NoSuchMovement, Full, Unfinished}
use Rattle.stops.specs.declared.Fault.{Fault}
use Rattle.stops.specs.Stops.{fault}
use Rattle.traces.specs.Clashes.{within}
use Rattle.frames.specs.Kinds.{closing_kind}
use Rattle.frames.specs.Frames.{Content, movement, pair, opening, order_a, order_b, closing, kind_of}
use Rattle.faults.specs.declared.BookFault.{BookFault}
use Rattle.faults.specs.declared.BookFault.TheVariants.{Found}
use Rattle.entries.specs.declared.memory.Step.{Step}
use Rattle.entries.specs.declared.memory.Closing.{Closing}
use Rattle.entries.specs.declared.memory.Memory.{Memory}
use Rattle.entries.specs.declared.memory.Run.{Run}
use Rattle.entries.specs.Entries.{listed, opened}
use Rattle.entries.specs.Giving.{steps_of, runs_of}
use Rattle.entries.specs.Checks.{most_movements, most_runs, Check, passed, stop_if, steps_check, runs_check, part_fits, part_place}
use Rattle.books.specs.declared.state.Draft.{Draft}
use Rattle.books.specs.declared.state.Book.{Book}
use Rattle.books.specs.Held.{Drafted, Closed, draft_of, book_of}
use Rattle.books.specs.Adding.{next_line, with_fields, added}

-- a priority becomes a weight; both are 0 to 9
abbrev pub highest_weight : ℕ
highest_weight = 9

-- a window is 1 to 86,400 seconds
abbrev pub longest_window : ℕ
longest_window = 86400

-- a movement: there is room for it, its number is the next, its priority is in bounds, then its steps
abbrev pub movement_check : ℕ → ℕ → ℕ → ℕ → ℕ → List Step → Check
movement_check line n m p place steps =
    stop_if (nat_le most_movements n) (fault Full line 2)
    (stop_if (not (m == n + 1)) (fault OutOfSequence line 2)
    (stop_if (nat_lt highest_weight p) (fault OutOfRange line 3)
    (steps_check line place [] steps)))

-- a closing: its movement is there, and its window is in bounds
abbrev pub closing_check : ℕ → ℕ → ℕ → ℕ → Check
closing_check line n m w =
    stop_if (not (within n m)) (fault NoSuchMovement line 2)
    (stop_if (not (within longest_window w)) (fault OutOfRange line 3)
    passed)

-- the tests of each kind, in their order
abbrev pub fields_check : ℕ → ℕ → Drafted → Content → Check
fields_check line n h (movement m p place s) = movement_check line n m p place (steps_of s)
fields_check line n h (pair a b g w) =
    stop_if (not (within n a)) (fault NoSuchMovement line 2)
    (stop_if (not (within n b)) (fault NoSuchMovement line 3)
    (stop_if (is_some (listed h.entries a b)) (fault GivenBefore line 3)
    (stop_if (nat_lt highest_weight w) (fault OutOfRange line 6)
    passed)))
fields_check line n h (opening m s) =
    stop_if (not (within n m)) (fault NoSuchMovement line 2)
    (stop_if (is_some (opened h.entries m)) (fault GivenBefore line 2)
    passed)
fields_check line n h (order_a place r) = runs_check line n (length h.entries.order_a) place r
fields_check line n h (order_b place r) = runs_check line n (length h.entries.order_b) place r
fields_check line n h (closing m w) = closing_check line n m w

-- the kind is below that of the last line taken, or it is a second closing
abbrev pub not_in_sequence : ℕ → ℕ → Bool
not_in_sequence last kind = nat_lt kind last || (kind == closing_kind && last == closing_kind)

-- the tests of a line before its fields: its length, then its kind
abbrev pub kind_check : ℕ → ℕ → Content → Check
kind_check line last c =
    stop_if (not (part_fits c)) (fault WrongLength line (part_place c))
    (stop_if (not_in_sequence last (kind_of c)) (fault OutOfSequence line 1)
    passed)

-- what a test makes of a draft: the draft with the line added, or the fault
abbrev pub judged : Check → Drafted → Result Drafted BookFault
judged (Ok u) h = Ok h
judged (Err f) h = Err (Found f)

-- a draft after a line whose kind is in sequence
abbrev pub after_fields : Drafted → Content → Result Drafted BookFault
after_fields h c = judged (fields_check (next_line h.lines) (length h.entries.movements) h c) (added h c)

-- the tests of the fields come after those of length and kind
abbrev pub after_kind : Check → Drafted → Content → Result Drafted BookFault
after_kind (Ok u) h c = after_fields h c
after_kind (Err f) h c = Err (Found f)

-- a draft after one frame more
abbrev pub after_frame : Drafted → Content → Result Drafted BookFault
after_frame h c = after_kind (kind_check (next_line h.lines) h.last c) h c

-- the index of movement m among n, or the fault of a line that names m at a place
abbrev pub index_check : ℕ → ℕ → ℕ → ℕ → Result ℕ Fault
index_check line n m place = cond (within n m) (Ok (m - 1)) (Err (fault NoSuchMovement line place))

-- a call that takes a line's runs behind those that a row holds: they stand there and are counted where their tests pass;
-- else the row is as it was
abbrev pub RunsTaken : Draft → ℕ → ℕ → List ℕ → List Run → Result ℕ Fault → List Run → Type 0
RunsTaken d held place runs row (Ok n) row' =
    (runs_check (next_line d.counts.lines) d.counts.movements held place runs ≡ passed)
    × (n ≡ held + length runs)
    × (n ≤ most_runs)
    × (take n row' ≡ take held row ++ runs_of runs)
RunsTaken d held place runs row (Err f) row' =
    (runs_check (next_line d.counts.lines) d.counts.movements held place runs ≡ Err f) × (row' ≡ row)

-- a call that takes a line's fields: what they give is added where their tests pass; else draft and memory are as they were
abbrev pub FieldsTaken : Content → Draft → Memory → Result (Unit {0}) Fault → Draft → Memory → Type 0
FieldsTaken c d m (Ok u) d' m' =
    (fields_check (next_line d.counts.lines) d.counts.movements (draft_of d m) c ≡ passed) × (draft_of d' m' ≡ with_fields (draft_of d m) c)
FieldsTaken c d m (Err f) d' m' =
    (fields_check (next_line d.counts.lines) d.counts.movements (draft_of d m) c ≡ Err f) × (d' ≡ d) × (m' ≡ m)

-- a call that takes a whole line, likewise
abbrev pub FrameTaken : Content → Draft → Memory → Result (Unit {0}) Fault → Draft → Memory → Type 0
FrameTaken c d m (Ok u) d' m' = after_frame (draft_of d m) c ≡ Ok (draft_of d' m')
FrameTaken c d m (Err f) d' m' = (after_frame (draft_of d m) c ≡ Err (Found f)) × (d' ≡ d) × (m' ≡ m)

-- a call that takes a line: the draft and the memory mean what `s` says, or they are given back as they were
abbrev pub Taken : Result Drafted BookFault → Draft → Memory → Result Draft (Draft × BookFault) → Memory → Type 0
Taken s d m (Ok d') m' = s ≡ Ok (draft_of d' m')
Taken s d m (Err e) m' = (s ≡ Err e.1) × (e.0 ≡ d) × (m' ≡ m)

-- a draft with no closing line does not close; line and place of the fault are the lines taken and 0
abbrev pub with_closing : Drafted → Option Closing → Result Closed BookFault
with_closing h (Some c) = Ok (record { lines = h.lines; entries = h.entries; closing = c })
with_closing h None = Err (Found (fault Unfinished h.lines 0))

-- a draft with no movement does not close either
abbrev pub closed : Drafted → Result Closed BookFault
closed h = cond (length h.entries.movements == 0) (Err (Found (fault Unfinished h.lines 0))) (with_closing h h.closing)

-- a call that closes: the book means what the draft did, or the draft is given back
abbrev pub Shut : Draft → Memory → Result Book (Draft × BookFault) → Type 0
Shut d m (Ok b) = closed (draft_of d m) ≡ Ok (book_of b m)
Shut d m (Err e) = (closed (draft_of d m) ≡ Err e.1) × (e.0 ≡ d)
