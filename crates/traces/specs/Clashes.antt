-- What every clash relation keeps, and ways to make relations that keep it. Assumes nothing.
use Rattle.std.specs.Prelude.{◌≡◌, ℕ, ◌≤◌, max, Bool, true, false, ◌&&◌, ◌||◌, ◌⊎◌, ◌↔◌, List, [], ◌∷◌, ◌==◌, nat_le}

-- A clash relation covers the movements 1 to n, of which there are 1 to 64. Only they clash (inside says it of the first
-- of a pair, and with both it holds of the second), each of them clashes with itself (self), and clashing is mutual
-- (both).
pub record Lawful (n : ℕ) (clash : ℕ → ℕ → Bool) : Type 0 where
  pub some : 1 ≤ n
  pub few : n ≤ 64
  pub inside : (a b : ℕ) → clash a b ≡ true → (1 ≤ a) × (a ≤ n)
  pub self : (a : ℕ) → 1 ≤ a → a ≤ n → clash a a ≡ true
  pub both : (a b : ℕ) → clash a b ≡ clash b a

-- m is 1 to n
abbrev pub within : ℕ → ℕ → Bool
within n m = nat_le 1 m && nat_le m n

-- two of the movements 1 to n clash if they are one, or if a test says so
abbrev pub clash_by : ℕ → (ℕ → ℕ → Bool) → ℕ → ℕ → Bool
clash_by n test a b = within n a && (within n b && (a == b || test a b))

-- a test that does not depend on the order of the pair makes a lawful relation
abbrev pub MutualTestIsLawful : Type 0
MutualTestIsLawful = (n : ℕ) (test : ℕ → ℕ → Bool) → 1 ≤ n → n ≤ 64 → ((a b : ℕ) → test a b ≡ test b a) → Lawful n (clash_by n test)

-- a pair is listed, in one direction or the other
abbrev pub either_way : (ℕ → ℕ → Bool) → ℕ → ℕ → Bool
either_way listed a b = listed a b || listed b a

-- that does not depend on the order of the pair
abbrev pub EitherWayIsMutual : Type 0
EitherWayIsMutual = (listed : ℕ → ℕ → Bool) (a b : ℕ) → either_way listed a b ≡ either_way listed b a

-- a number stands in a list
abbrev pub holds : List ℕ → ℕ → Bool
holds [] s = false
holds (x ∷ p) s = x == s || holds p s

-- two lists have a number in common
abbrev pub meet : List ℕ → List ℕ → Bool
meet p [] = false
meet p (s ∷ q) = holds p s || meet p q

-- s is one of the elements of a list
abbrev pub In : {X : Type 0} → X → List X → Type 0
In s [] = ⊥
In s (x ∷ p) = (s ≡ x) ⊎ In s p

-- in words: they meet exactly when some number stands in both
abbrev pub MeetingInWords : Type 0
MeetingInWords = (p q : List ℕ) → (meet p q ≡ true) ↔ ((s : ℕ) × In s p × In s q)

-- whether they meet does not depend on their order
abbrev pub MeetingIsMutual : Type 0
MeetingIsMutual = (p q : List ℕ) → meet p q ≡ meet q p

-- a pair clashes in one of two relations, or in both
abbrev pub either : (ℕ → ℕ → Bool) → (ℕ → ℕ → Bool) → ℕ → ℕ → Bool
either c d a b = c a b || d a b

-- the union of two lawful relations is lawful, and covers the greater of their counts
abbrev pub UnionIsLawful : Type 0
UnionIsLawful = (m n : ℕ) (c d : ℕ → ℕ → Bool) → Lawful m c → Lawful n d → Lawful (max m n) (either c d)
