-- What the passes over runs and over the bytes of steps find. Assumes nothing.
use Rattle.std.proofs.Common.{◌≡◌, ℕ, suc, ◌/◌, ◌<◌, ◌≤◌, List, [], ◌∷◌, map, length, get_or, drop, Err, sym, refl, ap, ◌∙◌, arith}
use Rattle.std.proofs.lemmas.List.{at_drop_more}
use Rattle.std.specs.Simd.{first_chunks}
use Rattle.std.proofs.lemmas.Bool.Decides.{nat_tests}
use Rattle.stops.specs.declared.Stop.TheVariants.{Full}
use Rattle.entries.specs.declared.memory.Step.{Step}
use Rattle.stops.specs.Stops.{fault}
use Rattle.entries.specs.Giving.{step_of, steps_of}
use Rattle.entries.specs.Checks.{runs_check}

-- where as many runs are held as there is room for, the next one is refused
pub runs_full : (line n held place : ℕ) (xs : List ℕ) (i : ℕ) → i < length xs → 512 ≤ held → runs_check line n held place (drop i xs) ≡ Err (fault Full line place)
runs_full line n held place xs i inside h = at_drop_more (runs_check line n held place) xs i 0 inside ∙ grind (arith, nat_tests)

-- the step that five bytes make
abbrev pub step_in : List ℕ → Step
step_in bs = step_of (get_or bs 0 0) (get_or bs 1 0) (get_or bs 2 0) (get_or bs 3 0) (get_or bs 4 0)

-- the steps of a list of bytes, five by five
pub steps_by_fives : (xs : List ℕ) → steps_of xs ≡ map step_in (first_chunks 5 (length xs / 5) xs)
steps_by_fives [] = refl
steps_by_fives (s ∷ []) = refl
steps_by_fives (s ∷ a ∷ []) = refl
steps_by_fives (s ∷ a ∷ b ∷ []) = refl
steps_by_fives (s ∷ a ∷ b ∷ c ∷ []) = refl
steps_by_fives (s ∷ a ∷ b ∷ c ∷ d ∷ rest) =
    let more : length (s ∷ a ∷ b ∷ c ∷ d ∷ rest) / 5 ≡ suc (length rest / 5) = omega arith in
    ap (λ t. step_of s a b c d ∷ t) (steps_by_fives rest) ∙ ap (λ k. map step_in (first_chunks 5 k (s ∷ a ∷ b ∷ c ∷ d ∷ rest))) (sym more)
