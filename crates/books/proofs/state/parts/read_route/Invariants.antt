use Rattle.std.proofs.Common.{◌≡◌, length, map, take}
use Rattle.books.proofs.Loops.{step_in}
use Rattle.books.proofs.state.parts.read_route.Given as goal

abbrev pub invariant-loop-i : goal.invariant-loop-i
invariant-loop-i l = (take l.i l.steps ≡ map step_in (take l.i l.given)) × (length l.steps ≡ 24)
