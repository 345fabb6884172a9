-- What the bytes of a line say. Assumes nothing.
use Rattle.std.specs.Prelude.{ℕ, ◌+◌, ◌*◌, Bool, cond, List, [], ◌∷◌, length, drop, Ok, Err, Result, ◌==◌, slice_index}
use Rattle.stops.specs.declared.Stop.{Stop}
use Rattle.stops.specs.declared.Stop.TheVariants.{UnknownKind, WrongLength}
use Rattle.stops.specs.Stops.{fault}
use Rattle.lines.specs.declared.fault.TextFault.{TextFault}
use Rattle.lines.specs.Hex.{line_bytes}
use Rattle.frames.specs.declared.frame.Frame.{Frame}
use Rattle.frames.specs.declared.frame.Frame.TheVariants.{Movement, Pair, Opening, OrderA, OrderB, Closing}
use Rattle.frames.specs.declared.fault.FrameFault.{FrameFault}
use Rattle.frames.specs.declared.fault.FrameFault.TheVariants.{Text, Found}
use Rattle.frames.specs.declared.kind.Kind.{Kind}
use Rattle.frames.specs.declared.kind.Kind.TheVariants as kinds
use Rattle.frames.specs.Kinds.{kind_number, movement_kind, pair_kind, opening_kind, order_a_kind, order_b_kind, closing_kind, movement_length, pair_length, opening_length, order_length, closing_length}

-- what a line says, with lists in the place of slices; steps and runs are still bytes, with the place where they begin
pub data Content : Type 0 where
  -- number, priority, place of the steps, steps
  movement : ℕ → ℕ → ℕ → List ℕ → Content
  -- first, second, gap in seconds, weight
  pair : ℕ → ℕ → ℕ → ℕ → Content
  -- movement, seconds
  opening : ℕ → ℕ → Content
  -- place of the runs, runs
  order_a : ℕ → List ℕ → Content
  order_b : ℕ → List ℕ → Content
  -- movement, window in seconds
  closing : ℕ → ℕ → Content

-- what a frame says
abbrev pub content : Frame → Content
content (Movement n p s) = movement n p s.place s.bytes.now
content (Pair a b g w) = pair a b g w
content (Opening m s) = opening m s
content (OrderA r) = order_a r.place r.bytes.now
content (OrderB r) = order_b r.place r.bytes.now
content (Closing m w) = closing m w

-- the kind of line that says so
abbrev pub kind_in : Content → Kind
kind_in (movement n p l s) = kinds.Movement
kind_in (pair a b g w) = kinds.Pair
kind_in (opening m s) = kinds.Opening
kind_in (order_a l r) = kinds.OrderA
kind_in (order_b l r) = kinds.OrderB
kind_in (closing m w) = kinds.Closing

-- the number of that kind
abbrev pub kind_of : Content → ℕ
kind_of c = kind_number (kind_in c)

-- what was read, with what a frame says in the place of the frame
abbrev pub meant : Result Frame FrameFault → Result Content FrameFault
meant (Ok f) = Ok (content f)
meant (Err e) = Err e

-- two and three bytes as a number, the most significant first
abbrev pub big2 : ℕ → ℕ → ℕ
big2 h l = h * 256 + l

abbrev pub big3 : ℕ → ℕ → ℕ → ℕ
big3 h m l = h * 65536 + m * 256 + l

-- the byte that stands at an index
abbrev pub byte : List ℕ → ℕ → ℕ
byte bs i = slice_index bs i

-- a fault of the frame layer
abbrev pub frame_fault : Stop → ℕ → ℕ → FrameFault
frame_fault s l p = Found (fault s l p)

-- a line of no kind; the place is that of its kind
abbrev pub unknown_fault : ℕ → FrameFault
unknown_fault line = frame_fault UnknownKind line 1

-- the place of a wrong length is the last byte
abbrev pub length_fault : ℕ → List ℕ → FrameFault
length_fault line bs = frame_fault WrongLength line (length bs)

-- what a line of a known kind says, where its length is one of the kind
abbrev pub sized : ℕ → List ℕ → (ℕ → Bool) → Content → Result Content FrameFault
sized line bs fits c = cond (fits (length bs)) (Ok c) (Err (length_fault line bs))

-- the table of kinds: for each, its lengths and its fields
abbrev pub by_kind : ℕ → List ℕ → ℕ → Result Content FrameFault
by_kind line bs k =
    cond (k == movement_kind) (sized line bs movement_length (movement (byte bs 1) (byte bs 2) 4 (drop 3 bs)))
    (cond (k == pair_kind) (sized line bs pair_length (pair (byte bs 1) (byte bs 2) (big2 (byte bs 3) (byte bs 4)) (byte bs 5)))
    (cond (k == opening_kind) (sized line bs opening_length (opening (byte bs 1) (big3 (byte bs 2) (byte bs 3) (byte bs 4))))
    (cond (k == order_a_kind) (sized line bs order_length (order_a 2 (drop 1 bs)))
    (cond (k == order_b_kind) (sized line bs order_length (order_b 2 (drop 1 bs)))
    (cond (k == closing_kind) (sized line bs closing_length (closing (byte bs 1) (big3 (byte bs 2) (byte bs 3) (byte bs 4))))
    (Err (unknown_fault line)))))))

-- the first byte names the kind
abbrev pub frame_of : ℕ → List ℕ → Result Content FrameFault
frame_of line [] = Err (unknown_fault line)
frame_of line (k ∷ bs) = by_kind line (k ∷ bs) k

-- a fault of the text is passed on whole
abbrev pub after_bytes : ℕ → Result (List ℕ) TextFault → Result Content FrameFault
after_bytes line (Ok bs) = frame_of line bs
after_bytes line (Err e) = Err (Text e)

-- what a line of the text says
abbrev pub line_frame : ℕ → List ℕ → Result Content FrameFault
line_frame number chars = after_bytes number (line_bytes number chars)
