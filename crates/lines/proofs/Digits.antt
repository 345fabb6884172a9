-- The digits of a line's bytes are the line. Assumes nothing.
use Rattle.std.proofs.Common.{◌≡◌, ℕ, ◌+◌, ◌*◌, ◌/◌, ◌%◌, ◌<◌, true, not, is_none, List, [], ◌∷◌, length, refl, arith}
use Rattle.std.specs.List.{flat_map, list_all, position_from}
use Rattle.std.proofs.lemmas.Bool.Decides.{nat_tests}
use Rattle.lines.specs.Hex.{is_hex, nibble_of, bytes_of, digit, digits}

pub bytes_half : (xs : List ℕ) → length (bytes_of xs) ≡ length xs / 2
bytes_half [] = refl
bytes_half (h ∷ []) = refl
bytes_half (h ∷ l ∷ cs) = omega (arith, bytes_half cs)

nibble_small : (c : ℕ) → nibble_of c < 16
nibble_small c = grind (arith, nat_tests)

digit_nibble : (c : ℕ) → is_hex c ≡ true → digit (nibble_of c) ≡ c
digit_nibble c h = grind (arith, nat_tests)

pub digits_bytes : (line : List ℕ) → list_all is_hex line ≡ true → length line % 2 ≡ 0 → flat_map digits (bytes_of line) ≡ line
digits_bytes [] e even = refl
digits_bytes (h ∷ []) e even = absurd (omega arith)
digits_bytes (h ∷ l ∷ cs) e even =
    let quotient : (nibble_of h * 16 + nibble_of l) / 16 ≡ nibble_of h = omega (arith, nibble_small l) in
    let remainder : (nibble_of h * 16 + nibble_of l) % 16 ≡ nibble_of l = omega (arith, nibble_small l) in
    rw (quotient, remainder, digit_nibble h (grind arith), digit_nibble l (grind arith), digits_bytes cs (grind arith) (omega arith)) refl

-- all are digits exactly where no place is bad
pub all_or_place : (at : ℕ) (xs : List ℕ) → list_all is_hex xs ≡ is_none (position_from (λ x. not (is_hex x)) at xs)
all_or_place at [] = refl
all_or_place at (x ∷ xs) = grind (arith, all_or_place (at + 1) xs)
