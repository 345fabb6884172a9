use Rattle.std.proofs.Common.{◌≡◌, length, take, map, sym, ap, ◌∙◌, arith}
use Rattle.std.proofs.lemmas.List.{take_all}
use Rattle.books.proofs.Loops.{step_in, steps_by_fives}
use Rattle.books.proofs.state.parts.read_route.Goals as goal

pub returns-clause-steps : goal.returns-clause-steps
returns-clause-steps c =
    let given = c.as_chunks.result.0.now in
    let end : length given ≡ c.loop-i.i = omega arith in
    let all =
    ap (λ k. take k c.loop-i.steps) end ∙ c.loop-i.invariant.0 ∙ ap (map step_in) (take_all c.loop-i.i given (omega arith)) ∙ ap (map step_in) c.as_chunks.ensures.front ∙ sym (steps_by_fives c.args.bytes.now) in
    (λ j. record { priority = c.args.priority; steps = all j })
