-- The table of a book is the table of its lines. Assumes nothing.
use Rattle.std.proofs.Common.{◌≡◌, ℕ, true, ◌⊎◌, ◌↔◌, List, length, Some, None, arith}
use Rattle.std.proofs.lemmas.Bool.Decides.{nat_tests}
use Rattle.traces.specs.Clashes.{within, clash_by, either_way}
use Rattle.frames.specs.Frames.{pair}
use Rattle.entries.specs.declared.memory.Listed.{Listed}
use Rattle.entries.specs.Entries.{Entries, pair_at}
use Rattle.entries.specs.Giving.{listed_of}
use Rattle.entries.specs.declared.memory.Memory.{Memory}
use Rattle.entries.proofs.Numbered.{length_movements}
use Rattle.books.specs.declared.state.Book.{Book}
use Rattle.books.specs.Says.{Among, Gives}
use Rattle.frames.specs.Frames.{Content}
use Rattle.headways.specs.Rules.{count_of, held, listing, Lists, TableIsOfItsLines}

-- n movements' entries hold what these lines gave: what is found of a pair is what a line lists, and what a line lists of
-- two of the movements is found
module _ (cs : List Content) (e : Entries) (n : ℕ) (count : length e.movements ≡ n) (gives : Gives cs e) where
  found_lists : (a b : ℕ) (l : Listed) → pair_at e a b ≡ Some l → Lists cs a b
  found_lists a b l is = (l.gap, l.weight, grind (arith, nat_tests, gives.no_other_pairs a b l))

  lists_found : (a b g w : ℕ) → within n a ≡ true → within n b ≡ true → Among (pair a b g w) cs → pair_at e a b ≡ Some (listed_of g w)
  lists_found a b g w first second there = grind (arith, gives.pairs a b g w there)

  not_listed : (a b : ℕ) → (Lists cs a b → ⊥) → pair_at e a b ≡ None
  not_listed a b none = grind (arith, found_lists a b)

  listing_lists : (a b : ℕ) → listing e a b ≡ true → Lists cs a b
  listing_lists a b is = grind (arith, found_lists a b)

  lists_listing : (a b : ℕ) → within n a ≡ true → within n b ≡ true → Lists cs a b → listing e a b ≡ true
  lists_listing a b first second l = grind (arith, lists_found a b l.0 l.1 first second l.2)

  clashes : (a b : ℕ) → within n a ≡ true → within n b ≡ true → (clash_by n (either_way (listing e)) a b ≡ true) ↔ ((a ≡ b) ⊎ (Lists cs a b ⊎ Lists cs b a))
  clashes a b first second = (
    λ clash. grind (arith, nat_tests, listing_lists a b, listing_lists b a),
    λ way. grind (arith, nat_tests, lists_listing a b, lists_listing b a),
  )

-- a book has as many movements as it counts
pub held_count : (book : Book) (memory : Memory) → length (held book memory).movements ≡ count_of book
held_count book memory = length_movements book.counts.movements book.counts.runs_a book.counts.runs_b memory (omega (arith, book.counts.few, memory.long))

pub table_is_of_its_lines : TableIsOfItsLines
table_is_of_its_lines text book memory h =
    let e = held book memory in
    let count = held_count book memory in
    let gives = h.says.gives in
    record {
      clashes = clashes h.contents e (count_of book) count gives;
      gap = lists_found h.contents e (count_of book) count gives;
      no_gap = not_listed h.contents e (count_of book) count gives;
    }
