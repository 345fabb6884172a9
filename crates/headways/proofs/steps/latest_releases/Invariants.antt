use Rattle.std.proofs.Common.{◌≡◌, ℕ, max, length, get_or, drop}
use Rattle.headways.specs.Sections.{released_on}
use Rattle.headways.proofs.steps.latest_releases.Given as goal

abbrev pub invariant-loop-step : goal.invariant-loop-step
invariant-loop-step l = record {
  whole : length l.released ≡ 256;
  releases : (s : ℕ) → max (get_or l.released s 0) (released_on (drop l.step-index l.steps) s) ≡ released_on l.steps s;
}
