-- Rows of times. Assumes nothing.
use Rattle.std.specs.Prelude.{ℕ, cond, List, length, Option, nat_lt, slice_set}
use Rattle.std.specs.List.{slice_get}

-- the time at an index from 0; none outside of the row
abbrev pub time_at : {T : Type 0} → List T → ℕ → Option T
time_at row i = slice_get row i

-- a row after a write at an index from 0; outside of the row a write does nothing
abbrev pub written : {T : Type 0} → List T → ℕ → T → List T
written row i t = cond (nat_lt i (length row)) (slice_set row i t) row
