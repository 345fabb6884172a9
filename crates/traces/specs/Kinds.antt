-- What every kind of time keeps. Assumes nothing.
use Rattle.std.specs.Prelude.{◌≡◌, ℕ, Bool, true, cond, ◌⊎◌}

-- the later of two times, and the second where they are one
unfoldable pub later_of : {T : Type 0} → (T → T → Bool) → T → T → T
later_of not_after x y = cond (not_after x y) y x

-- A kind of time is a type T of values. Each value means a time, and `meaning` gives the value that time is written by;
-- `origin` is zero; `made s w` is the time of s seconds and the weight w; `sum` adds; `not_after x y` says that x is not
-- after y.
--
-- The order is total (itself, onward, compared, same): any two times compare, and two times each not after the other are
-- one time. Zero is not after any time (first). Adding a time to both sides keeps the order (shifted), and a sum is never
-- before its first part (grows). What the operations answer depends on the meaning of a value alone (order_means,
-- sum_means), and zero, makings and sums are values that mean themselves (origin_means, made_means, sum_settles, settled).
pub record TimeLaws {T : Type 0} (meaning : T → T) (origin : T) (made : ℕ → ℕ → T) (sum : T → T → T) (not_after : T → T → Bool) : Type 0 where
  pub itself : (x : T) → not_after x x ≡ true
  pub onward : (x y z : T) → not_after x y ≡ true → not_after y z ≡ true → not_after x z ≡ true
  pub compared : (x y : T) → (not_after x y ≡ true) ⊎ (not_after y x ≡ true)
  pub same : (x y : T) → not_after x y ≡ true → not_after y x ≡ true → meaning x ≡ meaning y
  pub first : (x : T) → not_after origin x ≡ true
  pub shifted : (x y z : T) → not_after x y ≡ true → not_after (sum x z) (sum y z) ≡ true
  pub grows : (x y : T) → not_after x (sum x y) ≡ true
  pub settled : (x : T) → meaning (meaning x) ≡ meaning x
  pub origin_means : meaning origin ≡ origin
  pub made_means : (s w : ℕ) → meaning (made s w) ≡ made s w
  pub sum_settles : (x y : T) → meaning (sum x y) ≡ sum x y
  pub sum_means : (x y : T) → sum (meaning x) (meaning y) ≡ sum x y
  pub order_means : (x y : T) → not_after (meaning x) (meaning y) ≡ not_after x y

-- the later of two times is one of them, and neither is after it
pub record Latest {T : Type 0} (not_after : T → T → Bool) (x y z : T) : Type 0 where
  pub either : (z ≡ x) ⊎ (z ≡ y)
  pub not_before_first : not_after x z ≡ true
  pub not_before_second : not_after y z ≡ true

-- so it is in every kind of time
abbrev pub LaterIsLatest : Type 0 → Type 0
LaterIsLatest T =
    (meaning : T → T) (origin : T) (made : ℕ → ℕ → T) (sum : T → T → T) (not_after : T → T → Bool) → TimeLaws meaning origin made sum not_after →
    (x y : T) → Latest not_after x y (later_of not_after x y)
