-- The table and the openings after a line more. Assumes nothing.
use Rattle.std.proofs.Common.{◌≡◌, ℕ, ◌<◌, ◌≤◌, [], length, get_or, Some, arith}
use Rattle.std.proofs.lemmas.List.{get_or-set_other}
use Rattle.std.proofs.lemmas.Grind.{common_steps}
use Rattle.frames.specs.Frames.{Content, pair, opening}
use Rattle.entries.specs.Entries.{Entries, listed, opened}
use Rattle.entries.specs.Giving.{given, listed_of}

-- the table has 64 rows of 64, and there are 64 openings
pub record Shaped (e : Entries) : Type 0 where
  pub long : length e.table ≡ 64
  pub rows : (k : ℕ) → k < 64 → length (get_or e.table k []) ≡ 64
  pub opens : length e.openings ≡ 64

pub given_shaped : (e : Entries) (c : Content) → Shaped e → Shaped (given e c)
given_shaped e c shaped =
    record {
      long = grind (arith, common_steps);
      rows = λ k inside. grind (arith, common_steps, get_or-set_other, shaped.rows);
      opens = grind (arith, common_steps);
    }

module _ (e : Entries) (shaped : Shaped e) (a b g w : ℕ) (a_low : 1 ≤ a) (a_high : a ≤ 64) (b_low : 1 ≤ b) (b_high : b ≤ 64) where
  pub pair_here : listed (given e (pair a b g w)) a b ≡ Some (listed_of g w)
  pair_here = grind (arith, common_steps, shaped.rows)

  pub pair_other : (c d : ℕ) → 1 ≤ c → 1 ≤ d → ((c ≡ a) × (d ≡ b) → ⊥) → listed (given e (pair a b g w)) c d ≡ listed e c d
  pair_other c d c_low d_low apart = grind (arith, common_steps, get_or-set_other)

module _ (e : Entries) (shaped : Shaped e) (m s : ℕ) (low : 1 ≤ m) (high : m ≤ 64) where
  pub opening_here : opened (given e (opening m s)) m ≡ Some s
  opening_here = grind (arith, common_steps)

  pub opening_other : (k : ℕ) → 1 ≤ k → (k ≡ m → ⊥) → opened (given e (opening m s)) k ≡ opened e k
  opening_other k k_low apart = grind (arith, common_steps, get_or-set_other)
