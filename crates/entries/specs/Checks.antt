-- The tests of a line's steps, of its runs and of its length, and which stop refuses it. Assumes nothing.
use Rattle.std.specs.Prelude.{ℕ, ◌+◌, Bool, true, cond, not, List, [], ◌∷◌, ◌++◌, length, Ok, Err, Result, ◌==◌, nat_le}
use Rattle.std.specs.List.{list_any}
use Rattle.stops.specs.declared.Stop.TheVariants.{OutOfRange, GivenBefore, NoSuchMovement, Full}
use Rattle.stops.specs.declared.Fault.{Fault}
use Rattle.stops.specs.Stops.{fault}
use Rattle.traces.specs.Clashes.{within}
use Rattle.frames.specs.Kinds.{steps_length, order_length}
use Rattle.frames.specs.Frames.{Content, movement, pair, opening, order_a, order_b, closing}
use Rattle.entries.specs.declared.memory.Step.{Step}

-- a book has at most so many movements, and each of its orders at most so many runs
abbrev pub most_movements : ℕ
most_movements = 64

abbrev pub most_runs : ℕ
most_runs = 512

-- a test of a line: passed, or the first fault
abbrev pub Check : Type 0
Check = Result (Unit {0}) Fault

abbrev pub passed : Check
passed = Ok tt

-- the fault where b holds, else what the next tests say
abbrev pub stop_if : Bool → Fault → Check → Check
stop_if b f next = cond b (Err f) next

-- one of the steps is over section s
abbrev pub uses : List Step → ℕ → Bool
uses ts s = list_any (λ (t : Step). t.section == s) ts

-- step by step, where `before` are the earlier steps of the line: it is set before it is released, and its section is
-- none of theirs; a step's place is its first byte
abbrev pub steps_check : ℕ → ℕ → List Step → List Step → Check
steps_check line place before [] = passed
steps_check line place before (s ∷ ss) =
    stop_if (nat_le s.release s.set) (fault OutOfRange line place)
    (stop_if (uses before s.section) (fault GivenBefore line place)
    (steps_check line (place + 5) (before ++ s ∷ []) ss))

-- run by run: there is room for it, and its movement is one of n
abbrev pub runs_check : ℕ → ℕ → ℕ → ℕ → List ℕ → Check
runs_check line n held place [] = passed
runs_check line n held place (m ∷ ms) =
    stop_if (nat_le most_runs held) (fault Full line place)
    (stop_if (not (within n m)) (fault NoSuchMovement line place)
    (runs_check line n (held + 1) (place + 1) ms))

-- a line's steps are 1 to 24 whole ones, or its runs 1 or more; a frame of the frame layer is always so, one made by hand
-- may not be
abbrev pub part_fits : Content → Bool
part_fits (movement m p l s) = steps_length (length s)
part_fits (pair a b g w) = true
part_fits (opening m s) = true
part_fits (order_a l r) = order_length (1 + length r)
part_fits (order_b l r) = order_length (1 + length r)
part_fits (closing m w) = true

-- the place where steps or runs begin, else that of the kind
abbrev pub part_place : Content → ℕ
part_place (movement m p l s) = l
part_place (pair a b g w) = 1
part_place (opening m s) = 1
part_place (order_a l r) = l
part_place (order_b l r) = l
part_place (closing m w) = 1
