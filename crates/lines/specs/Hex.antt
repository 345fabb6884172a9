-- What the digits of a line spell. Assumes nothing.
use Rattle.std.specs.Prelude.{◌≡◌, ℕ, ◌+◌, ◌-◌, ◌*◌, ◌/◌, ◌%◌, ◌≤◌, Bool, not, cond, ◌&&◌, ◌||◌, List, [], ◌∷◌, length, take, drop, Some, None, Ok, Err, Option, Result, ◌==◌, nat_le}
use Rattle.std.specs.List.{flat_map, position_from}
use Rattle.stops.specs.declared.Stop.TheVariants.{OddDigits, NotADigit, TooLong}
use Rattle.lines.specs.declared.fault.TextFault.{TextFault}
use Rattle.lines.specs.Reading.{text_fault}

-- a line has at most this many characters
abbrev pub longest_line : ℕ
longest_line = 246

-- 0 to 9
abbrev pub is_decimal : ℕ → Bool
is_decimal c = nat_le 48 c && nat_le c 57

-- A to F
abbrev pub is_letter : ℕ → Bool
is_letter c = nat_le 65 c && nat_le c 70

-- a hexadecimal digit
abbrev pub is_hex : ℕ → Bool
is_hex c = is_decimal c || is_letter c

-- what a digit stands for
abbrev pub nibble_of : ℕ → ℕ
nibble_of c = cond (is_decimal c) (c - 48) (cond (is_letter c) (c - 55) 0)

-- the place of the first character that is no digit, where the line's first stands at 1
abbrev pub bad_place : List ℕ → Option ℕ
bad_place line = position_from (λ c. not (is_hex c)) 1 line

-- two digits make a byte, the high one first
abbrev pub bytes_of : List ℕ → List ℕ
bytes_of [] = []
bytes_of (h ∷ []) = []
bytes_of (h ∷ l ∷ cs) = (nibble_of h * 16 + nibble_of l) ∷ bytes_of cs

-- the bytes of a line that is not too long, by the place of its first bad character
abbrev pub even_bytes : ℕ → List ℕ → Option ℕ → Result (List ℕ) TextFault
even_bytes number line (Some place) = Err (text_fault NotADigit number place)
even_bytes number line None = cond (length line % 2 == 0) (Ok (bytes_of line)) (Err (text_fault OddDigits number (length line)))

-- the bytes of a line: first its length is tested, then its characters, then that they pair off
abbrev pub line_bytes : ℕ → List ℕ → Result (List ℕ) TextFault
line_bytes number line = cond (nat_le (length line) longest_line) (even_bytes number line (bad_place line)) (Err (text_fault TooLong number (longest_line + 1)))

-- the digit of a number below 16
abbrev pub digit : ℕ → ℕ
digit n = cond (nat_le n 9) (48 + n) (55 + n)

-- a byte as two digits
abbrev pub digits : ℕ → List ℕ
digits b = digit (b / 16) ∷ digit (b % 16) ∷ []

-- the bytes of the line stand at the front, and the rest is as it was
pub record Spelt (line old new : List ℕ) : Type 0 where
  pub front : take (length (bytes_of line)) new ≡ bytes_of line
  pub rest : drop (length (bytes_of line)) new ≡ drop (length (bytes_of line)) old

-- n bytes were written: they are the line's, their digits are the line again, and the rest of the buffer is as it was
pub record Written (number : ℕ) (line old : List ℕ) (n : ℕ) (new : List ℕ) : Type 0 where
  pub bytes : line_bytes number line ≡ Ok (take n new)
  pub within : n ≤ length new
  pub rest : drop n new ≡ drop n old
  pub again : flat_map digits (take n new) ≡ line

-- a refusal leaves the buffer as it was
abbrev pub Decoded : ℕ → List ℕ → List ℕ → Result ℕ TextFault → List ℕ → Type 0
Decoded number line old (Ok n) new = Written number line old n new
Decoded number line old (Err f) new = (line_bytes number line ≡ Err f) × (new ≡ old)
