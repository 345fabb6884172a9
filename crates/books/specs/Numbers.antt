-- The indices of movements. Assumes nothing.
use Rattle.std.specs.Prelude.{ℕ, ◌-◌, cond, Some, None, Option}
use Rattle.traces.specs.Clashes.{within}

-- the index, from 0, of movement m among n; none where no movement has the number
abbrev pub index_in : ℕ → ℕ → Option ℕ
index_in n m = cond (within n m) (Some (m - 1)) None
