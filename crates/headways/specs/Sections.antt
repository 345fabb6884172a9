-- Headways by blocking sections, over the steps of two movements. Assumes nothing.
use Rattle.std.specs.Prelude.{◌≡◌, ℕ, ◌+◌, ◌-◌, ◌≤◌, max, cond, ◌⊎◌, List, [], ◌∷◌, map, ◌==◌}
use Rattle.traces.specs.Clashes.{In}
use Rattle.entries.specs.declared.memory.Step.{Step}

-- the sections of a movement's steps
abbrev pub sections_of : List Step → List ℕ
sections_of p = map (λ (x : Step). x.section) p

-- from a run's start, the seconds until a step is released
abbrev pub release_of : Step → ℕ
release_of x = x.release

-- the latest release of the steps over a section, 0 where there is none
abbrev pub released_on : List Step → ℕ → ℕ
released_on [] s = 0
released_on (x ∷ p) s = max (cond (x.section == s) (release_of x) 0) (released_on p s)

-- the greatest, over the steps of the second movement, of the first's release of that section less the step's set, and 0
-- where that is negative. A section that is not shared gives 0
abbrev pub section_gap : List Step → List Step → ℕ
section_gap p [] = 0
section_gap p (y ∷ q) = max (released_on p y.section - y.set) (section_gap p q)

-- g is the greatest, over all sections that p and q share, of p's release less q's set: it is not below any such
-- difference (bound), and it is one of them, or 0 (reached)
pub record Greatest (p q : List Step) (g : ℕ) : Type 0 where
  pub bound : (x y : Step) → In x p → In y q → x.section ≡ y.section → release_of x ≤ g + y.set
  pub reached : (g ≡ 0) ⊎ ((x : Step) × (y : Step) × In x p × In y q × (x.section ≡ y.section) × (g + y.set ≡ release_of x))

-- the gap by sections is that greatest difference
abbrev pub SectionGapIsGreatest : Type 0
SectionGapIsGreatest = (p q : List Step) → Greatest p q (section_gap p q)
