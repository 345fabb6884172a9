-- The union of two rules. Assumes nothing.
use Rattle.std.specs.Prelude.{Bool, true, false, ℕ, max}
use Rattle.traces.specs.Kinds.{later_of}
use Rattle.traces.specs.Clashes.{Lawful, either}
use Rattle.traces.proofs.Lawfuls.{union_is_lawful}

-- the gap of a pair in the union: the later of the gaps g and h from those rules in which the pair clashes. (Where it
-- clashes in neither, a rule of headway answers zero and not this)
abbrev pub union_gap : {T : Type 0} → (T → T → Bool) → Bool → Bool → T → T → T
union_gap not_after true true g h = later_of not_after g h
union_gap not_after true false g h = g
union_gap not_after false c g h = h

-- the union covers the greater count, and keeps the laws
pub union_laws : {m n : ℕ} {c d : ℕ → ℕ → Bool} → Lawful m c → Lawful n d → Lawful (max m n) (either c d)
union_laws f g = union_is_lawful _ _ _ _ f g
