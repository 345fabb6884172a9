use Rattle.std.proofs.Common.{◌≡◌, false, get_or, take}
use Rattle.std.specs.List.{list_any}
use Rattle.entries.specs.declared.memory.Step.{Step}
use Rattle.headways.proofs.steps.share_section.Given as goal

abbrev pub invariant-loop-step : goal.invariant-loop-step
invariant-loop-step l = list_any (λ (x : Step). get_or l.marked x.section false) (take l.step-index l.second) ≡ false
