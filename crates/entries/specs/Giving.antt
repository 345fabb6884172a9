-- What a line gives: its steps, its runs, and the entries with the line added. Assumes nothing.
use Rattle.std.specs.Prelude.{ℕ, ◌-◌, List, [], ◌∷◌, ◌++◌, map, Some, Option, slice_index_or, slice_set}
use Rattle.frames.specs.Frames.{Content, movement, pair, opening, order_a, order_b, closing, big2}
use Rattle.entries.specs.declared.memory.Step.{Step}
use Rattle.entries.specs.declared.memory.Listed.{Listed}
use Rattle.entries.specs.declared.memory.Run.{Run}
use Rattle.entries.specs.declared.memory.Closing.{Closing}
use Rattle.entries.specs.Entries.{Entries}

-- five bytes make a step: its section, two bytes of set, two of release
abbrev pub step_of : ℕ → ℕ → ℕ → ℕ → ℕ → Step
step_of s a b c d = record { section = s; set = big2 a b; release = big2 c d }

-- the steps of a list of bytes; bytes at its end that make no whole step are left out
abbrev pub steps_of : List ℕ → List Step
steps_of [] = []
steps_of (s ∷ []) = []
steps_of (s ∷ a ∷ []) = []
steps_of (s ∷ a ∷ b ∷ []) = []
steps_of (s ∷ a ∷ b ∷ c ∷ []) = []
steps_of (s ∷ a ∷ b ∷ c ∷ d ∷ rest) = step_of s a b c d ∷ steps_of rest

-- one byte makes a run: its movement
abbrev pub run_of : ℕ → Run
run_of m = record { movement = m }

-- the runs of a list of bytes
abbrev pub runs_of : List ℕ → List Run
runs_of = map run_of

-- a listed gap: its seconds and its weight
abbrev pub listed_of : ℕ → ℕ → Listed
listed_of g w = record { gap = g; weight = w }

-- a closing: its movement and its window
abbrev pub closing_of : ℕ → ℕ → Closing
closing_of m w = record { movement = m; window = w }

-- the entries with what a line gives: a movement at the end, a pair or an opening at its place, runs at the end
abbrev pub given : Entries → Content → Entries
given e (movement n p l s) = record { movements = e.movements ++ record { priority = p; steps = steps_of s } ∷ []; table = e.table; openings = e.openings; order_a = e.order_a; order_b = e.order_b }
given e (pair a b g w) = record { movements = e.movements; table = slice_set e.table (a - 1) (slice_set (slice_index_or e.table (a - 1) []) (b - 1) (Some (listed_of g w))); openings = e.openings; order_a = e.order_a; order_b = e.order_b }
given e (opening m s) = record { movements = e.movements; table = e.table; openings = slice_set e.openings (m - 1) (Some s); order_a = e.order_a; order_b = e.order_b }
given e (order_a l r) = record { movements = e.movements; table = e.table; openings = e.openings; order_a = e.order_a ++ runs_of r; order_b = e.order_b }
given e (order_b l r) = record { movements = e.movements; table = e.table; openings = e.openings; order_a = e.order_a; order_b = e.order_b ++ runs_of r }
given e (closing m w) = e

-- a closing line gives the closing, and no other line does
abbrev pub closing_after : Option Closing → Content → Option Closing
closing_after old (movement n p l s) = old
closing_after old (pair a b g w) = old
closing_after old (opening m s) = old
closing_after old (order_a l r) = old
closing_after old (order_b l r) = old
closing_after old (closing m w) = Some (closing_of m w)
