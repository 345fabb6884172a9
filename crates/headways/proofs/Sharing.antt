-- In a book that was read from lines, two movements clash by sections exactly when they share a section. Assumes nothing.
use Rattle.std.proofs.Common.{◌≡◌, ℕ, ◌+◌, ◌<◌, ◌≤◌, true, List, [], ◌∷◌, length, Ok, Result, ap, ◌∙◌, arith}
use Rattle.std.specs.List.{AllByRecursion, flat_map}
use Rattle.std.proofs.lemmas.Bool.Decides.{nat_tests}
use Rattle.std.proofs.ByRecursion.{All-append}
use Rattle.std.proofs.lemmas.List.{length-drop}
use Rattle.traces.specs.Clashes.{within}
use Rattle.lines.specs.declared.fault.TextFault.{TextFault}
use Rattle.lines.specs.Hex.{line_bytes}
use Rattle.lines.specs.Texts.{lines_of}
use Rattle.frames.specs.Frames.{Content, after_bytes}
use Rattle.entries.specs.Giving.{steps_of}
use Rattle.books.specs.Says.{movement_in, ReadAs}
use Rattle.headways.specs.Rules.{count_of, held, sharing, HasStep, ReadMovementsHaveSteps, SharingIsClashing}
use Rattle.headways.specs.Related.{shares_itself}
use Rattle.headways.proofs.Listing.{held_count}

-- five bytes and more make a step
some_step : (s : List ℕ) → 5 ≤ length s → 0 < length (steps_of s)
some_step s h = grind arith

-- each movement that a line gives has a step
has_steps : (k : ℕ) (r : Result (List ℕ) TextFault) (c : Content) → after_bytes k r ≡ Ok c → AllByRecursion HasStep (movement_in c)
has_steps k r c e = grind (arith, nat_tests, some_step, length-drop)

all_have_steps : (k : ℕ) (ls : List (List ℕ)) (cs : List Content) → ReadAs k ls cs → AllByRecursion HasStep (flat_map movement_in cs)
all_have_steps k [] [] r = tt
all_have_steps k [] (c ∷ cs) r = absurd r
all_have_steps k (l ∷ ls) [] r = absurd r
all_have_steps k (l ∷ ls) (c ∷ cs) r =
    All-append HasStep (movement_in c) (flat_map movement_in cs) (has_steps k (line_bytes k l) c r.0) (all_have_steps (k + 1) ls cs r.1)

pub read_movements_have_steps : ReadMovementsHaveSteps
read_movements_have_steps text b h = rw h.says.gives.movements (all_have_steps 1 (lines_of text) h.contents h.read)

pub sharing_is_clashing : SharingIsClashing
sharing_is_clashing book memory steps a b =
    let count = held_count book memory in
    let itself : within (count_of book) a ≡ true → sharing (held book memory) a a ≡ true = λ inside. shares_itself (held book memory) steps a (ap (λ k. within k a) count ∙ inside) in
    grind (arith, nat_tests, itself)
