use Rattle.std.proofs.Common.{◌+◌, Err, sym, ap, ◌∙◌}
use Rattle.stops.specs.declared.Stop.TheVariants.{Full}
use Rattle.stops.specs.Stops.{fault}
use Rattle.books.proofs.Loops.{runs_full}
use Rattle.books.proofs.state.checks.check_runs.Goals as goal

pub returns-then-held-i-ge-MOST_RUNS-clause-value : goal.returns-then-held-i-ge-MOST_RUNS-clause-value
returns-then-held-i-ge-MOST_RUNS-clause-value c =
    ap Err c.at.ensures
    ∙ (λ j. Err (fault Full c.args.line (c.from.ensures j + c.loop-i.i)))
    ∙ sym (runs_full _ _ _ _ _ _ c.loop-i-test.true c.if-held-i-ge-MOST_RUNS.true) ∙ c.loop-i.invariant.0
