use Rattle.std.proofs.Common.{refl, false, arith}
use Rattle.std.proofs.lemmas.Grind.{common_steps}
use Rattle.std.proofs.lemmas.List.{at_drop_more, at_drop_all}
use Rattle.traces.specs.Clashes.{holds}
use Rattle.headways.specs.Sections.{sections_of}
use Rattle.headways.proofs.Passes.{all_alike}
use Rattle.headways.proofs.steps.marked_sections.Goals as goal

pub loop-step-init : goal.loop-step-init
loop-step-init c = record { whole = refl; marks = λ s. grind (arith, all_alike 256 s false) }

pub loop-step-preserved : goal.loop-step-preserved
loop-step-preserved c = record {
  whole = grind (arith, common_steps);
  marks = λ s.
      let next = at_drop_more (λ p. holds (sections_of p) s) c.args.steps.now c.loop-step.step-index (record { section = 0; set = 0; release = 0 }) c.loop-step-test.true in
      grind (arith, common_steps, next, c.loop-step.invariant.marks s);
}

pub returns : goal.returns
returns c = λ s.
    let none = at_drop_all (λ p. holds (sections_of p) s) c.args.steps.now c.loop-step.step-index c.loop-step-test.false in
    grind (arith, none, c.loop-step.invariant.marks s)
