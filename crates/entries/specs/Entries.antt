-- What the lines of a book gave, and how memory holds it. Assumes nothing.
use Rattle.std.specs.Prelude.{◌≡◌, ℕ, ◌-◌, cond, ◌&&◌, List, [], map, length, take, replicate, None, Option, slice_index_or}
use Rattle.traces.specs.Clashes.{within}
use Rattle.entries.specs.declared.memory.Step.{Step}
use Rattle.entries.specs.declared.memory.Route.{Route}
use Rattle.entries.specs.declared.memory.Listed.{Listed}
use Rattle.entries.specs.declared.memory.Run.{Run}
use Rattle.entries.specs.declared.memory.Memory.{Memory}

-- a movement: its priority, and its steps in the order of its way
pub record Movement : Type 0 where
  pub priority : ℕ
  pub steps : List Step

-- what the lines gave: the movements from 1 up; the table, with a row for each first and a column for each second
-- movement; the openings; the two orders
pub record Entries : Type 0 where
  pub movements : List Movement
  pub table : List (List (Option Listed))
  pub openings : List (Option ℕ)
  pub order_a : List Run
  pub order_b : List Run

-- the movement numbered m; one of no priority and no steps where m is not 1 to the count of movements
abbrev pub movement_at : Entries → ℕ → Movement
movement_at e m = cond (within (length e.movements) m) (slice_index_or e.movements (m - 1) (record { priority = 0; steps = [] })) (record { priority = 0; steps = [] })

-- for a and b from 1 up, what the table lists for the pair (a, b): the gap that a later run of b keeps from a run of a
abbrev pub listed : Entries → ℕ → ℕ → Option Listed
listed e a b = slice_index_or (slice_index_or e.table (a - 1) []) (b - 1) None

-- the same for any two numbers: nothing is listed of one that no movement has
abbrev pub pair_at : Entries → ℕ → ℕ → Option Listed
pair_at e a b = cond (within (length e.movements) a && within (length e.movements) b) (listed e a b) None

-- what was given as the opening of m, for m from 1 up
abbrev pub opened : Entries → ℕ → Option ℕ
opened e m = slice_index_or e.openings (m - 1) None

-- a movement as memory has it
abbrev pub movement_of : Route → Movement
movement_of r = record { priority = r.priority; steps = take r.count r.steps }

-- what memory holds of n movements and so many runs
abbrev pub entries_of : ℕ → ℕ → ℕ → Memory → Entries
entries_of n a b m = record {
  movements = map movement_of (take n m.routes);
  table = m.table;
  openings = m.openings;
  order_a = take a m.order_a;
  order_b = take b m.order_b;
}

-- memory with nothing in it
pub record Blank (m : Memory) : Type 0 where
  pub routes : m.routes ≡ replicate 64 (record { priority = 0; count = 0; steps = replicate 24 (record { section = 0; set = 0; release = 0 }) })
  pub table : m.table ≡ replicate 64 (replicate 64 None)
  pub openings : m.openings ≡ replicate 64 None
  pub order_a : m.order_a ≡ replicate 512 (record { movement = 0 })
  pub order_b : m.order_b ≡ replicate 512 (record { movement = 0 })
