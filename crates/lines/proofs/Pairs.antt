-- A line as pairs of digits. Assumes nothing.
use Rattle.std.proofs.Common.{◌≡◌, ℕ, suc, ◌+◌, ◌*◌, ◌/◌, List, [], ◌∷◌, length, map, get_or, refl, ap, arith}
use Rattle.std.specs.Simd.{first_chunks}
use Rattle.lines.specs.Hex.{nibble_of, bytes_of}

abbrev pub pairs_of : List ℕ → List (List ℕ)
pairs_of xs = first_chunks 2 (length xs / 2) xs

-- two characters more make one pair more
pair_more : (x y : ℕ) (xs : List ℕ) → pairs_of (x ∷ y ∷ xs) ≡ (x ∷ y ∷ []) ∷ pairs_of xs
pair_more x y xs =
    let half : length (x ∷ y ∷ xs) / 2 ≡ suc (length xs / 2) = omega arith in
    ap (λ k. first_chunks 2 k (x ∷ y ∷ xs)) half

-- the byte that a pair of digits makes
abbrev pub byte_of : List ℕ → ℕ
byte_of pair = nibble_of (get_or pair 0 0) * 16 + nibble_of (get_or pair 1 0)

pub bytes_of_pairs : (xs : List ℕ) → bytes_of xs ≡ map byte_of (pairs_of xs)
bytes_of_pairs [] = refl
bytes_of_pairs (x ∷ []) = refl
bytes_of_pairs (x ∷ y ∷ xs) = rw (pair_more x y xs, bytes_of_pairs xs) refl
