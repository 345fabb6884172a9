-- Two lists with a number in common. Assumes nothing.
use Rattle.std.proofs.Common.{◌≡◌, ℕ, true, List, [], ◌∷◌, arith}
use Rattle.std.proofs.lemmas.Bool.Decides.{nat_tests}
use Rattle.traces.specs.Clashes.{holds, meet, In, MeetingInWords, MeetingIsMutual}

holds_in : (p : List ℕ) (s : ℕ) → holds p s ≡ true → In s p
holds_in [] s h = grind arith
holds_in (x ∷ p) s h = grind (arith, nat_tests, holds_in p s)

in_holds : (p : List ℕ) (s : ℕ) → In s p → holds p s ≡ true
in_holds [] s i = grind arith
in_holds (x ∷ p) s i = grind (arith, nat_tests, in_holds p s)

meets_in : (p q : List ℕ) → meet p q ≡ true → (s : ℕ) × In s p × In s q
meets_in p [] h = grind arith
meets_in p (x ∷ q) h = grind (arith, nat_tests, holds_in p x, meets_in p q)

in_meets : (p q : List ℕ) (s : ℕ) → In s p → In s q → meet p q ≡ true
in_meets p [] s i k = grind arith
in_meets p (x ∷ q) s i k = grind (arith, nat_tests, in_holds p s, in_meets p q s)

pub meeting_in_words : MeetingInWords
meeting_in_words p q = (meets_in p q, λ w. in_meets p q w.0 w.1 w.2)

-- both ways round a meeting says that some number stands in both lists
pub meeting_is_mutual : MeetingIsMutual
meeting_is_mutual p q = grind (arith, nat_tests, meets_in, in_meets)
