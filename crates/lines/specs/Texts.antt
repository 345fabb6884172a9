-- The lines of a text. Assumes nothing.
use Rattle.std.specs.Prelude.{◌≡◌, ℕ, cond, List, [], ◌∷◌, ◌++◌, ◌==◌, ◌≢◌}
use Rattle.std.specs.List.{flat_map, before_first, after_first, AllByRecursion}

-- the character that ends a line
abbrev pub line_end : ℕ
line_end = 10

-- the characters before the first line end
abbrev pub front : List ℕ → List ℕ
front xs = before_first (λ c. c == line_end) xs

-- the characters after the first line end
abbrev pub after : List ℕ → List ℕ
after xs = after_first (λ c. c == line_end) xs

-- a character at the front of the first line
abbrev pub with_first : ℕ → List (List ℕ) → List (List ℕ)
with_first c [] = (c ∷ []) ∷ []
with_first c (l ∷ ls) = (c ∷ l) ∷ ls

-- the lines of a text: a line ends at its line end or with the text
abbrev pub lines_of : List ℕ → List (List ℕ)
lines_of [] = []
lines_of (c ∷ cs) = cond (c == line_end) ([] ∷ lines_of cs) (with_first c (lines_of cs))

-- a line with its line end
abbrev pub ended : List ℕ → List ℕ
ended l = l ++ line_end ∷ []

-- a text whose last line lacks its line end, with that added
abbrev pub with_last_end : List ℕ → List ℕ
with_last_end [] = []
with_last_end (c ∷ []) = cond (c == line_end) (c ∷ []) (c ∷ line_end ∷ [])
with_last_end (c ∷ d ∷ cs) = c ∷ with_last_end (d ∷ cs)

-- what the lines of a text are, whatever finds them: no line holds a line end, and the lines with their line ends,
-- put together, are the text
pub record Lines (text : List ℕ) (ls : List (List ℕ)) : Type 0 where
  pub whole : flat_map ended ls ≡ with_last_end text
  pub apart : AllByRecursion (λ l. AllByRecursion (λ c. c ≢ line_end) l) ls
