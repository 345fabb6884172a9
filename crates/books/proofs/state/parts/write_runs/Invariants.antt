use Rattle.std.proofs.Common.{◌≡◌, ◌+◌, ◌++◌, take, drop}
use Rattle.entries.specs.Giving.{runs_of}
use Rattle.books.proofs.state.parts.write_runs.Given as goal

abbrev pub invariant-loop-i : goal.invariant-loop-i
invariant-loop-i l = take (l.held + l.i) l.row ++ runs_of (drop l.i l.runs) ≡ take l.held l.initial.row ++ runs_of l.runs
