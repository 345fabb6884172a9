-- What a book means as a rule, with the memory that is lent to it. Assumes nothing.
use Rattle.std.specs.Prelude.{◌≡◌, ℕ, ◌<◌, Bool, true, ◌&&◌, ◌⊎◌, ◌↔◌, List, length, is_some, Some, None, Option}
use Rattle.std.specs.List.{AllByRecursion}
use Rattle.traces.specs.Clashes.{Lawful, within, clash_by, either_way, meet}
use Rattle.frames.specs.Frames.{Content, pair}
use Rattle.entries.specs.declared.memory.Listed.{Listed}
use Rattle.entries.specs.declared.memory.Memory.{Memory}
use Rattle.entries.specs.Entries.{Movement, Entries, movement_at, pair_at}
use Rattle.entries.specs.Giving.{listed_of}
use Rattle.books.specs.declared.state.Book.{Book}
use Rattle.books.specs.Held.{Closed, book_of}
use Rattle.books.specs.Says.{Among, HoldsLines}
use Rattle.headways.specs.Sections.{sections_of, section_gap}

-- two movements of a book share a section
abbrev pub sharing : Entries → ℕ → ℕ → Bool
sharing e a b = meet (sections_of (movement_at e a).steps) (sections_of (movement_at e b).steps)

-- a pair is listed in a book's table
abbrev pub listing : Entries → ℕ → ℕ → Bool
listing e a b = is_some (pair_at e a b)

-- how many movements a book has
abbrev pub count_of : Book → ℕ
count_of book = book.counts.movements

-- what a book holds with its memory
abbrev pub held : Book → Memory → Entries
held book memory = (book_of book memory).entries

-- by sections: two movements clash if they share a section, and each clashes with itself
abbrev pub sections_rule : Book → Memory → ℕ → ℕ → Bool
sections_rule book memory = clash_by (count_of book) (sharing (held book memory))

-- by table: two movements clash if they are listed one way or the other, and each clashes with itself
abbrev pub table_rule : Book → Memory → ℕ → ℕ → Bool
table_rule book memory = clash_by (count_of book) (either_way (listing (held book memory)))

-- by sections, the gap from a to b is made of the seconds that their steps ask for, and of the priority of a as its weight
abbrev pub sections_gap : {T : Type 0} → (ℕ → ℕ → T) → Entries → ℕ → ℕ → T
sections_gap made e a b = made (section_gap (movement_at e a).steps (movement_at e b).steps) (movement_at e a).priority

-- the same gap, as its seconds with its weight
abbrev pub sections_listed : Entries → ℕ → ℕ → Option Listed
sections_listed e a b = Some (record { gap = section_gap (movement_at e a).steps (movement_at e b).steps; weight = (movement_at e a).priority })

-- by table, the gap from a to b is the one listed for that ordered pair, and zero where none is
abbrev pub listed_gap : {T : Type 0} → T → (ℕ → ℕ → T) → Option Listed → T
listed_gap origin made (Some l) = made l.gap l.weight
listed_gap origin made None = origin

abbrev pub table_gap : {T : Type 0} → T → (ℕ → ℕ → T) → Entries → ℕ → ℕ → T
table_gap origin made e a b = listed_gap origin made (pair_at e a b)

-- whatever the memory holds, both keep the laws
abbrev pub SectionsRuleIsLawful : Type 0
SectionsRuleIsLawful = (book : Book) (memory : Memory) → Lawful (count_of book) (sections_rule book memory)

abbrev pub TableRuleIsLawful : Type 0
TableRuleIsLawful = (book : Book) (memory : Memory) → Lawful (count_of book) (table_rule book memory)

-- a line lists the ordered pair (a, b)
abbrev pub Lists : List Content → ℕ → ℕ → Type 0
Lists cs a b = (g : ℕ) × (w : ℕ) × Among (pair a b g w) cs

-- the table of a book of these lines: two of its movements clash exactly when they are one or a line lists them one way
-- or the other; an ordered pair of them has the gap that its line lists, and no gap where no line lists it
pub record TableOfLines (cs : List Content) (book : Book) (memory : Memory) : Type 0 where
  pub clashes : (a b : ℕ) → within (count_of book) a ≡ true → within (count_of book) b ≡ true → (table_rule book memory a b ≡ true) ↔ ((a ≡ b) ⊎ (Lists cs a b ⊎ Lists cs b a))
  pub gap : (a b g w : ℕ) → within (count_of book) a ≡ true → within (count_of book) b ≡ true → Among (pair a b g w) cs → pair_at (held book memory) a b ≡ Some (listed_of g w)
  pub no_gap : (a b : ℕ) → (Lists cs a b → ⊥) → pair_at (held book memory) a b ≡ None

-- the table of a book that was read from lines is the table of those lines
abbrev pub TableIsOfItsLines : Type 0
TableIsOfItsLines = (text : List ℕ) (book : Book) (memory : Memory) (h : HoldsLines text (book_of book memory)) → TableOfLines h.contents book memory

-- a movement has a step, and every movement has one
abbrev pub HasStep : Movement → Type 0
HasStep m = 0 < length m.steps

abbrev pub HasSteps : Entries → Type 0
HasSteps e = AllByRecursion HasStep e.movements

-- each movement is listed with itself
abbrev pub ListsThemselves : Entries → Type 0
ListsThemselves e = (a : ℕ) → within (length e.movements) a ≡ true → listing e a a ≡ true

-- in a book that was read from lines, every movement has a step
abbrev pub ReadMovementsHaveSteps : Type 0
ReadMovementsHaveSteps = (text : List ℕ) (b : Closed) → HoldsLines text b → HasSteps b.entries

-- two of the book's movements share a section, and that is all
abbrev pub shared_rule : Book → Memory → ℕ → ℕ → Bool
shared_rule book memory a b = within (count_of book) a && (within (count_of book) b && sharing (held book memory) a b)

-- where every movement has a step, two movements clash by sections exactly when they share a section
abbrev pub SharingIsClashing : Type 0
SharingIsClashing = (book : Book) (memory : Memory) → HasSteps (held book memory) → (a b : ℕ) → sections_rule book memory a b ≡ shared_rule book memory a b
