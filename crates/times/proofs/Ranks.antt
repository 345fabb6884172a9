-- The order of seconds with a weight, over all numbers, cut or not, and what a weight can be. Assumes nothing.
use Rattle.std.proofs.Common.{◌≡◌, ℕ, ◌+◌, ◌<◌, ◌≤◌, min, Bool, true, ◌&&◌, ◌||◌, ◌==◌, ltb, leb, ◌⊎◌, arith}
use Rattle.std.proofs.lemmas.Bool.Decides.{nat_tests}
use Rattle.times.specs.Ranked.{ranked}

-- seconds with a weight are not after others that have more seconds, or as many and no less weight
abbrev pub ranks : ℕ → ℕ → ℕ → ℕ → Bool
ranks a u b v = ltb a b || (a == b && leb u v)

pub ranks_itself : (a u : ℕ) → ranks a u a u ≡ true
ranks_itself a u = grind (arith, nat_tests)

pub ranks_onward : (a u b v c w : ℕ) → ranks a u b v ≡ true → ranks b v c w ≡ true → ranks a u c w ≡ true
ranks_onward a u b v c w h k = grind (arith, nat_tests)

pub ranks_compared : (a u b v : ℕ) → (ranks a u b v ≡ true) ⊎ (ranks b v a u ≡ true)
ranks_compared a u b v = grind (arith, nat_tests)

pub ranks_same : (a u b v : ℕ) → ranks a u b v ≡ true → ranks b v a u ≡ true → (a ≡ b) × (u ≡ v)
ranks_same a u b v h k = (grind (arith, nat_tests), grind (arith, nat_tests))

pub ranks_first : (b v : ℕ) → ranks 0 0 b v ≡ true
ranks_first b v = grind (arith, nat_tests)

-- what the weight of a time can be
pub weigh_tells : (s w : ℕ) → ((s < 99_999_999) × ((ranked s w).weight ≡ min w 9_999)) ⊎ ((99_999_999 ≤ s) × ((ranked s w).weight ≡ 0))
weigh_tells s w = grind (arith, nat_tests)

-- more seconds, or the same and no less weight: so it is with the same added to both
pub ranks_shifted : (a u b v c w : ℕ) → ranks a u b v ≡ true → ranks (ranked (a + c) (u + w)).time.seconds (ranked (a + c) (u + w)).weight (ranked (b + c) (v + w)).time.seconds (ranked (b + c) (v + w)).weight ≡ true
ranks_shifted a u b v c w h = grind (arith, nat_tests, weigh_tells)
