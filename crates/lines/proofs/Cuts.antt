-- The first line and the others, and that the lines put together are the text. Assumes nothing.
use Rattle.std.proofs.Common.{◌≡◌, ℕ, ◌<◌, ◌≤◌, List, [], ◌∷◌, length, refl, arith}
use Rattle.std.specs.List.{flat_map, AllByRecursion}
use Rattle.std.proofs.lemmas.Bool.Decides.{nat_tests}
use Rattle.lines.specs.Texts.{front, after, with_first, lines_of, ended, with_last_end, line_end, Lines}

-- a text that is not empty has a first line
pub first_line : (xs : List ℕ) → 0 < length xs → lines_of xs ≡ front xs ∷ lines_of (after xs)
first_line [] h = absurd (omega arith)
first_line (x ∷ []) h = grind (arith, nat_tests)
first_line (x ∷ y ∷ xs) h = grind (arith, nat_tests, first_line (y ∷ xs))

some_line : (xs : List ℕ) → 0 < length xs → 0 < length (lines_of xs)
some_line xs h = grind (arith, first_line)

joined_first : (x : ℕ) (ls : List (List ℕ)) → 0 < length ls → flat_map ended (with_first x ls) ≡ x ∷ flat_map ended ls
joined_first x ls h = grind arith

length_first : (x : ℕ) (ls : List (List ℕ)) → 0 < length ls → length (with_first x ls) ≡ length ls
length_first x ls h = grind arith

lines_whole : (xs : List ℕ) → flat_map ended (lines_of xs) ≡ with_last_end xs
lines_whole [] = refl
lines_whole (x ∷ []) = grind (arith, nat_tests)
lines_whole (x ∷ y ∷ xs) = grind (arith, nat_tests, joined_first, some_line (y ∷ xs), lines_whole (y ∷ xs))

-- no line of these holds a line end
abbrev Apart : List (List ℕ) → Type 0
Apart ls = AllByRecursion (λ l. AllByRecursion (λ c. c ≡ line_end → ⊥) l) ls

apart_first : (x : ℕ) (ls : List (List ℕ)) → (x ≡ line_end → ⊥) → Apart ls → Apart (with_first x ls)
apart_first x ls h a = grind arith

lines_apart : (xs : List ℕ) → Apart (lines_of xs)
lines_apart [] = tt
lines_apart (x ∷ xs) = grind (arith, nat_tests, apart_first, lines_apart xs)

pub lines_cut : (text : List ℕ) → Lines text (lines_of text)
lines_cut text = record { whole = lines_whole text; apart = lines_apart text }

-- each line takes a character of the text at least
pub lines_few : (xs : List ℕ) → length (lines_of xs) ≤ length xs
lines_few [] = omega arith
lines_few (x ∷ []) = grind (arith, nat_tests)
lines_few (x ∷ y ∷ xs) = grind (arith, nat_tests, length_first, some_line (y ∷ xs), lines_few (y ∷ xs))
