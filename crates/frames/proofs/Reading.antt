-- How a line's first byte and its length decide what it is read as. Assumes nothing.
use Rattle.std.proofs.Common.{◌≡◌, ℕ, ◌≤◌, List, [], ◌∷◌, length, get_or, Ok, Result, refl, arith}
use Rattle.frames.specs.declared.kind.Kind.{Kind}
use Rattle.frames.specs.declared.kind.UnknownKind.{UnknownKind}
use Rattle.frames.specs.Kinds.{kind_number, NamesKind}
use Rattle.frames.specs.Frames.{by_kind, frame_of}

pub first_names : (line : ℕ) (bs : List ℕ) → 1 ≤ length bs → frame_of line bs ≡ by_kind line bs (get_or bs 0 0)
first_names line [] h = absurd (omega arith)
first_names line (k ∷ bs) h = refl

pub named_kind : (b : ℕ) (r : Result Kind UnknownKind) (k : Kind) → NamesKind b r → r ≡ Ok k → kind_number k ≡ b
named_kind b r k n e = rw e at n
