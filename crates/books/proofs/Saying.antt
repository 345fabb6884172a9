-- A line is added behind others: what the lines say, and the draft's entries. Assumes nothing.
use Rattle.std.proofs.Common.{◌≡◌, ℕ, ◌+◌, ◌≤◌, ◌⊎◌, List, [], ◌∷◌, ◌++◌, length, append-nil, arith}
use Rattle.std.specs.List.{flat_map}
use Rattle.std.proofs.lemmas.Bool.Decides.{nat_tests}
use Rattle.std.proofs.lemmas.Grind.{common_steps}
use Rattle.frames.specs.Frames.{Content, pair, opening}
use Rattle.entries.specs.Entries.{Entries}
use Rattle.entries.specs.Giving.{given}
use Rattle.entries.specs.Checks.{passed}
use Rattle.books.specs.Held.{Drafted}
use Rattle.books.specs.Taking.{fields_check}
use Rattle.books.specs.Says.{Among, count_up, Gives}
use Rattle.entries.proofs.Tables.{Shaped, given_shaped, pair_here, pair_other, opening_here, opening_other}

among_more : (x c : Content) (cs : List Content) → Among x cs ⊎ (x ≡ c) → Among x (cs ++ c ∷ [])
among_more x c [] a = grind arith
among_more x c (d ∷ cs) a = grind (arith, among_more x c cs)

among_split : (x c : Content) (cs : List Content) → Among x (cs ++ c ∷ []) → Among x cs ⊎ (x ≡ c)
among_split x c [] a = grind arith
among_split x c (d ∷ cs) a = grind (arith, among_split x c cs)

pub joined_push : {X : Type 0} (f : Content → List X) (cs : List Content) (c : Content) → flat_map f (cs ++ c ∷ []) ≡ flat_map f cs ++ f c
joined_push f cs c = grind (arith, common_steps)

count_up_push : {X : Type 0} (k : ℕ) (xs : List X) (x : X) → count_up k (xs ++ x ∷ []) ≡ count_up k xs ++ (k + length xs) ∷ []
count_up_push k [] x = grind arith
count_up_push k (y ∷ ys) x = grind (arith, count_up_push (k + 1) ys x)

-- the entries after the lines cs, with what the next line's tests rest on
pub record Sofar (cs : List Content) (e : Entries) : Type 0 where
  pub gives : Gives cs e
  pub shaped : Shaped e
  pub few : length e.movements ≤ 64
  pub pair_lows : (a b g w : ℕ) → Among (pair a b g w) cs → (1 ≤ a) × (1 ≤ b)
  pub opening_lows : (m s : ℕ) → Among (opening m s) cs → 1 ≤ m

-- a line whose fields passed their tests
pub sofar_more : (line : ℕ) (cs : List Content) (h : Drafted) (c : Content) → Sofar cs h.entries → fields_check line (length h.entries.movements) h c ≡ passed → Sofar (cs ++ c ∷ []) (given h.entries c)
sofar_more line cs h c sofar ok =
    record {
      gives = record {
        movements = grind (arith, joined_push, append-nil);
        numbers = grind (arith, nat_tests, joined_push, count_up_push, append-nil);
        runs_a = grind (arith, joined_push, append-nil);
        runs_b = grind (arith, joined_push, append-nil);
        pairs = λ a b g w there. grind (arith, nat_tests, among_split (pair a b g w) c cs there, pair_here, pair_other, sofar.pair_lows, sofar.gives.pairs);
        no_other_pairs = λ a b l a_low b_low is. grind (arith, nat_tests, among_more (pair a b l.gap l.weight) c cs, pair_here, pair_other, sofar.gives.no_other_pairs);
        openings = λ m s there. grind (arith, nat_tests, among_split (opening m s) c cs there, opening_here, opening_other, sofar.opening_lows, sofar.gives.openings);
        no_other_openings = λ m s low is. grind (arith, nat_tests, among_more (opening m s) c cs, opening_here, opening_other, sofar.gives.no_other_openings);
      };
      shaped = given_shaped h.entries c sofar.shaped;
      few = grind (arith, nat_tests, common_steps);
      pair_lows = λ a b g w there. grind (arith, nat_tests, among_split, sofar.pair_lows);
      opening_lows = λ m s there. grind (arith, nat_tests, among_split, sofar.opening_lows);
    }
