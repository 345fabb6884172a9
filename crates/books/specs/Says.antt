-- A book holds exactly what its lines say. Assumes nothing.
use Rattle.std.specs.Prelude.{◌≡◌, ℕ, ◌+◌, ◌≤◌, ◌⊎◌, List, [], ◌∷◌, length, take, Some, Ok, Err, Result}
use Rattle.std.specs.List.{flat_map}
use Rattle.std.specs.Option.{option_to_list}
use Rattle.lines.specs.Texts.{lines_of}
use Rattle.frames.specs.Frames.{Content, movement, pair, opening, order_a, order_b, closing, line_frame}
use Rattle.faults.specs.declared.BookFault.{BookFault}
use Rattle.entries.specs.declared.memory.Listed.{Listed}
use Rattle.entries.specs.declared.memory.Run.{Run}
use Rattle.entries.specs.declared.memory.Closing.{Closing}
use Rattle.entries.specs.declared.memory.Memory.{Memory}
use Rattle.books.specs.declared.state.Draft.{Draft}
use Rattle.books.specs.declared.state.Book.{Book}
use Rattle.entries.specs.Entries.{Movement, Entries, listed, opened}
use Rattle.books.specs.Held.{Drafted, Closed, draft_of, book_of}
use Rattle.entries.specs.Giving.{steps_of, runs_of, listed_of, closing_of}

-- the line is one of these
abbrev pub Among : Content → List Content → Type 0
Among x [] = ⊥
Among x (c ∷ cs) = (x ≡ c) ⊎ Among x cs

-- the number and the movement of a movement line
abbrev pub number_in : Content → List ℕ
number_in (movement m p l s) = m ∷ []
number_in (pair a b g w) = []
number_in (opening m s) = []
number_in (order_a l r) = []
number_in (order_b l r) = []
number_in (closing m w) = []

abbrev pub movement_in : Content → List Movement
movement_in (movement m p l s) = record { priority = p; steps = steps_of s } ∷ []
movement_in (pair a b g w) = []
movement_in (opening m s) = []
movement_in (order_a l r) = []
movement_in (order_b l r) = []
movement_in (closing m w) = []

-- the runs of a line of order A, and of a line of order B
abbrev pub runs_a_in : Content → List Run
runs_a_in (movement m p l s) = []
runs_a_in (pair a b g w) = []
runs_a_in (opening m s) = []
runs_a_in (order_a l r) = runs_of r
runs_a_in (order_b l r) = []
runs_a_in (closing m w) = []

abbrev pub runs_b_in : Content → List Run
runs_b_in (movement m p l s) = []
runs_b_in (pair a b g w) = []
runs_b_in (opening m s) = []
runs_b_in (order_a l r) = []
runs_b_in (order_b l r) = runs_of r
runs_b_in (closing m w) = []

-- what a closing line says
abbrev pub closing_in : Content → List Closing
closing_in (movement m p l s) = []
closing_in (pair a b g w) = []
closing_in (opening m s) = []
closing_in (order_a l r) = []
closing_in (order_b l r) = []
closing_in (closing m w) = closing_of m w ∷ []

-- k, k + 1 and so on, as many as the list has elements
abbrev pub count_up : {X : Type 0} → ℕ → List X → List ℕ
count_up k [] = []
count_up k (x ∷ xs) = k ∷ count_up (k + 1) xs

-- the entries hold what the lines gave, and nothing else: the movements in their order, numbered from 1; the runs of
-- each order, joined; for each pair and each opening what the line of that pair or opening says, and none where no line
-- names it
pub record Gives (cs : List Content) (e : Entries) : Type 0 where
  pub movements : e.movements ≡ flat_map movement_in cs
  pub numbers : flat_map number_in cs ≡ count_up 1 e.movements
  pub runs_a : e.order_a ≡ flat_map runs_a_in cs
  pub runs_b : e.order_b ≡ flat_map runs_b_in cs
  pub pairs : (a b g w : ℕ) → Among (pair a b g w) cs → listed e a b ≡ Some (listed_of g w)
  pub no_other_pairs : (a b : ℕ) (l : Listed) → 1 ≤ a → 1 ≤ b → listed e a b ≡ Some l → Among (pair a b l.gap l.weight) cs
  pub openings : (m s : ℕ) → Among (opening m s) cs → opened e m ≡ Some s
  pub no_other_openings : (m s : ℕ) → 1 ≤ m → opened e m ≡ Some s → Among (opening m s) cs

-- the book of these lines: it holds what they gave, its closing is that of the one closing line, and it counts them
pub record Says (cs : List Content) (b : Closed) : Type 0 where
  pub gives : Gives cs b.entries
  pub closes : flat_map closing_in cs ≡ b.closing ∷ []
  pub counts : b.lines ≡ length cs

-- the draft of these lines, likewise
pub record SaysYet (cs : List Content) (h : Drafted) : Type 0 where
  pub gives : Gives cs h.entries
  pub closes : flat_map closing_in cs ≡ option_to_list h.closing
  pub counts : h.lines ≡ length cs

-- each line, numbered from k, is read as its content
abbrev pub ReadAs : ℕ → List (List ℕ) → List Content → Type 0
ReadAs k [] [] = Unit {0}
ReadAs k [] (c ∷ cs) = ⊥
ReadAs k (l ∷ ls) [] = ⊥
ReadAs k (l ∷ ls) (c ∷ cs) = (line_frame k l ≡ Ok c) × ReadAs (k + 1) ls cs

-- the lines of the text are read, and the book holds exactly what they say
pub record HoldsLines (text : List ℕ) (b : Closed) : Type 0 where
  pub contents : List Content
  pub read : ReadAs 1 (lines_of text) contents
  pub says : Says contents b

-- the draft holds exactly what the text's first lines say, those before the stop
pub record HoldsFirst (text : List ℕ) (h : Drafted) : Type 0 where
  pub contents : List Content
  pub read : ReadAs 1 (take (length contents) (lines_of text)) contents
  pub says : SaysYet contents h

-- a call that reads a text into a book
abbrev pub Faithful : List ℕ → Result Book (Draft × BookFault) → Memory → Type 0
Faithful text (Ok b) m = HoldsLines text (book_of b m)
Faithful text (Err e) m = HoldsFirst text (draft_of e.0 m)
