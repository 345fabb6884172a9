use Rattle.std.proofs.Common.{◌≡◌, ℕ, false, ◌||◌, length, get_or, drop}
use Rattle.traces.specs.Clashes.{holds}
use Rattle.headways.specs.Sections.{sections_of}
use Rattle.headways.proofs.steps.marked_sections.Given as goal

abbrev pub invariant-loop-step : goal.invariant-loop-step
invariant-loop-step l = record {
  whole : length l.marked ≡ 256;
  marks : (s : ℕ) → (get_or l.marked s false || holds (sections_of (drop l.step-index l.steps)) s) ≡ holds (sections_of l.steps) s;
}
