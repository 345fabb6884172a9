-- The gap by sections is the greatest difference over the shared sections. Assumes nothing.
use Rattle.std.proofs.Common.{◌≡◌, ℕ, ◌+◌, ◌-◌, ◌≤◌, max, cond, eqb, ◌⊎◌, List, [], ◌∷◌, refl, inl, inr, ⊎_elim, arith}
use Rattle.std.proofs.lemmas.Bool.{cases_lt}
use Rattle.std.proofs.lemmas.Bool.Decides.{nat_tests}
use Rattle.traces.specs.Clashes.{In}
use Rattle.entries.specs.declared.memory.Step.{Step}
use Rattle.headways.specs.Sections.{release_of, released_on, section_gap, SectionGapIsGreatest}

-- no step over the section is released later
released_least : (p : List Step) (s : ℕ) (x : Step) → In x p → x.section ≡ s → release_of x ≤ released_on p s
released_least [] s x i e = absurd i
released_least (y ∷ p) s x i e = grind (arith, nat_tests, released_least p s x)

-- the greater of two numbers is reached where each is reached or 0
greater_reached : (R : ℕ → Type 0) (v g : ℕ) → (v ≡ 0) ⊎ R v → (g ≡ 0) ⊎ R g → (max v g ≡ 0) ⊎ R (max v g)
greater_reached R v g first second = grind arith

-- a release is that of some step over the section
abbrev Released : List Step → ℕ → ℕ → Type 0
Released p s k = (x : Step) × In x p × (x.section ≡ s) × (k ≡ release_of x)

-- some step is released at the latest release, or there is none over the section
released_reached : (p : List Step) (s : ℕ) → (released_on p s ≡ 0) ⊎ Released p s (released_on p s)
released_reached [] s = inl refl
released_reached (y ∷ p) s =
    let here : (y.section ≡ s) ⊎ (cond (eqb y.section s) (release_of y) 0 ≡ 0) = grind (arith, nat_tests) in
    greater_reached (Released (y ∷ p) s) _ _
    (⊎_elim (λ same. inr (y, inl refl, same, grind (arith, nat_tests))) inl here)
    (⊎_elim inl (λ r. inr (r.0, inr r.1, r.2, r.3)) (released_reached p s))

gap_least : (p q : List Step) (x y : Step) → In x p → In y q → x.section ≡ y.section → release_of x ≤ section_gap p q + y.set
gap_least p [] x y i k e = absurd k
gap_least p (z ∷ q) x y i k e = grind (arith, released_least, gap_least p q x y)

-- a difference is that of two steps on one section
abbrev Reached : List Step → List Step → ℕ → Type 0
Reached p q g = (x : Step) × (y : Step) × In x p × In y q × (x.section ≡ y.section) × (g + y.set ≡ release_of x)

gap_reached : (p q : List Step) → (section_gap p q ≡ 0) ⊎ Reached p q (section_gap p q)
gap_reached p [] = inl refl
gap_reached p (z ∷ q) =
    greater_reached (Reached p (z ∷ q)) (released_on p z.section - z.set) (section_gap p q)
    (⊎_elim
    (λ later. ⊎_elim (λ none. inl (omega arith)) (λ r. inr (r.0, z, r.1, inl refl, r.2, omega (arith, r.3))) (released_reached p z.section))
    (λ sooner. inl (omega arith))
    (cases_lt z.set (released_on p z.section)))
    (⊎_elim inl (λ r. inr (r.0, r.1, r.2, inr r.3, r.4, r.5)) (gap_reached p q))

pub section_gap_is_greatest : SectionGapIsGreatest
section_gap_is_greatest p q = record { bound = gap_least p q; reached = gap_reached p q }
