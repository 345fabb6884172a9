-- What a book holds of one movement, of a pair, and how many movements. Assumes nothing.
use Rattle.std.proofs.Common.{◌≡◌, ℕ, ◌-◌, ◌≤◌, true, [], length, take, ◌∙◌, arith}
use Rattle.std.specs.List.{AllByRecursion}
use Rattle.std.proofs.ByRecursion.{All-get_or}
use Rattle.std.proofs.lemmas.Bool.Decides.{nat_tests}
use Rattle.std.proofs.lemmas.List.{length-map, length-take-le}
use Rattle.traces.specs.Clashes.{within}
use Rattle.entries.specs.declared.memory.Memory.{Memory}
use Rattle.entries.specs.Entries.{Movement, Entries, movement_of, entries_of, movement_at, pair_at, listed}

-- what all movements have, the one of a number has
pub movement_has : (P : Movement → Type 0) (e : Entries) → AllByRecursion P e.movements → (m : ℕ) → within (length e.movements) m ≡ true → P (movement_at e m)
movement_has P e all m known = rw known (All-get_or P e.movements (m - 1) (record { priority = 0; steps = [] }) (grind (arith, nat_tests)) all)

module _ (n a b : ℕ) (memory : Memory) (few : n ≤ length memory.routes) where
  -- as many movements as are counted
  pub length_movements : length (entries_of n a b memory).movements ≡ n
  length_movements = length-map (take n memory.routes) movement_of ∙ length-take-le n memory.routes few

  -- what is found of a pair of the movements counted is what the table lists
  pub pair_found : (m k : ℕ) → within n m ≡ true → within n k ≡ true → pair_at (entries_of n a b memory) m k ≡ listed (entries_of n a b memory) m k
  pair_found m k first second = grind (arith, length_movements)
