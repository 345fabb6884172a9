use Rattle.std.proofs.Common.{ℕ, refl, arith}
use Rattle.std.proofs.lemmas.Grind.{common_steps}
use Rattle.std.proofs.lemmas.List.{at_drop_more, at_drop_all}
use Rattle.headways.specs.Sections.{released_on}
use Rattle.headways.proofs.Passes.{all_alike}
use Rattle.headways.proofs.steps.latest_releases.Goals as goal

pub loop-step-init : goal.loop-step-init
loop-step-init c = record { whole = refl; releases = λ s. grind (arith, all_alike {X = ℕ} 256 s 0) }

pub loop-step-preserved : goal.loop-step-preserved
loop-step-preserved c = record {
  whole = grind (arith, common_steps);
  releases = λ s.
      let next = at_drop_more (λ p. released_on p s) c.args.steps.now c.loop-step.step-index (record { section = 0; set = 0; release = 0 }) c.loop-step-test.true in
      grind (arith, common_steps, next, c.loop-step.invariant.releases s);
}

pub returns : goal.returns
returns c = λ s.
    let none = at_drop_all (λ p. released_on p s) c.args.steps.now c.loop-step.step-index c.loop-step-test.false in
    grind (arith, none, c.loop-step.invariant.releases s)
