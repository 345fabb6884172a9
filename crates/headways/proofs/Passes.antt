-- A row of what the steps over each section come to, and the passes that read it. Assumes nothing.
use Rattle.std.proofs.Common.{◌≡◌, ℕ, ◌-◌, max, Bool, false, List, [], ◌∷◌, get_or, replicate, refl, ◌∙◌, arith}
use Rattle.std.specs.List.{list_any, fold}
use Rattle.std.proofs.lemmas.Grind.{common_steps}
use Rattle.traces.specs.Clashes.{holds, meet}
use Rattle.entries.specs.declared.memory.Step.{Step}
use Rattle.headways.specs.Sections.{sections_of, released_on, section_gap}

-- a row of one value has that value at every index, and past its end
pub all_alike : {X : Type 0} (n i : ℕ) (x : X) → get_or (replicate n x) i x ≡ x
all_alike n i x = grind (arith, common_steps)

-- a row that has the marks of p tells whether q meets it
pub meet_by_marks : (p : List ℕ) (marked : List Bool) → ((s : ℕ) → get_or marked s false ≡ holds p s) → (q : List Step) → list_any (λ (x : Step). get_or marked x.section false) q ≡ meet p (sections_of q)
meet_by_marks p marked h [] = refl
meet_by_marks p marked h (x ∷ q) = rw (h x.section, meet_by_marks p marked h q) refl

-- a row that has the latest releases of p tells the gap to q
module _ (p : List Step) (released : List ℕ) (h : (s : ℕ) → get_or released s 0 ≡ released_on p s) where
  abbrev pub gaps : List Step → ℕ → ℕ
  gaps q k = fold (λ g (x : Step). max g (get_or released x.section 0 - x.set)) k q

  gaps_from : (q : List Step) (k : ℕ) → gaps q k ≡ max k (section_gap p q)
  gaps_from [] k = omega arith
  gaps_from (x ∷ q) k = rw (h x.section) (gaps_from q (max k (released_on p x.section - x.set)) ∙ omega arith)

  pub gap_by_releases : (q : List Step) → gaps q 0 ≡ section_gap p q
  gap_by_releases q = gaps_from q 0 ∙ omega arith
