use Rattle.std.proofs.Common.{◌≡◌, ◌+◌, ◌*◌, [], take, drop}
use Rattle.entries.specs.Checks.{steps_check}
use Rattle.books.proofs.state.checks.check_steps.Given as goal

abbrev pub invariant-loop-i : goal.invariant-loop-i
invariant-loop-i l = steps_check l.line (l.place + 5 * l.i) (take l.i l.steps) (drop l.i l.steps) ≡ steps_check l.line l.place [] l.steps
