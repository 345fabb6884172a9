use Rattle.std.proofs.Common.{◌≡◌, ◌+◌, ◌≤◌, drop}
use Rattle.entries.specs.Checks.{runs_check}
use Rattle.books.proofs.state.checks.check_runs.Given as goal

abbrev pub invariant-loop-i : goal.invariant-loop-i
invariant-loop-i l =
    (runs_check l.line l.count (l.held + l.i) (l.runs.place + l.i) (drop l.i l.runs.bytes.now) ≡ runs_check l.line l.count l.held l.runs.place l.runs.bytes.now)
    × (l.held + l.i ≤ 512)
