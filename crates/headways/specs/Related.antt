-- Both relations of a book's movements are mutual, and what relates a movement to itself; the proofs need not be read. Assumes nothing.
use Rattle.std.specs.Prelude.{◌≡◌, ℕ, ◌<◌, true, List, [], ◌∷◌, length}
use Rattle.std.proofs.Common.{refl, arith}
use Rattle.std.proofs.lemmas.Bool.{eq-eqb, or_left}
use Rattle.traces.specs.Clashes.{within, either_way, meet}
use Rattle.traces.proofs.Lawfuls.{either_way_is_mutual}
use Rattle.traces.proofs.Meeting.{meeting_is_mutual}
use Rattle.entries.specs.declared.memory.Step.{Step}
use Rattle.entries.specs.Entries.{Entries, movement_at}
use Rattle.entries.proofs.Numbered.{movement_has}
use Rattle.headways.specs.Sections.{sections_of}
use Rattle.headways.specs.Rules.{sharing, listing, HasStep, HasSteps, ListsThemselves}

-- whether two movements share a section, or are listed one way or the other, does not depend on their order
pub sharing_is_mutual : (e : Entries) (a b : ℕ) → sharing e a b ≡ sharing e b a
sharing_is_mutual e a b = meeting_is_mutual (sections_of (movement_at e a).steps) (sections_of (movement_at e b).steps)

pub listing_is_mutual : (e : Entries) (a b : ℕ) → either_way (listing e) a b ≡ either_way (listing e) b a
listing_is_mutual e = either_way_is_mutual (listing e)

-- the sections of a movement that has a step meet themselves
meets_itself : (p : List Step) → 0 < length p → meet (sections_of p) (sections_of p) ≡ true
meets_itself [] h = absurd (omega arith)
meets_itself (x ∷ p) h = rw (eq-eqb x.section x.section refl) refl

-- by sections, a movement that has a step is related to itself
pub shares_itself : (e : Entries) → HasSteps e → (a : ℕ) → within (length e.movements) a ≡ true → sharing e a a ≡ true
shares_itself e steps a known = meets_itself (movement_at e a).steps (omega (arith, movement_has HasStep e steps a known))

-- by table, a movement that is listed with itself is
pub lists_itself : (e : Entries) → ListsThemselves e → (a : ℕ) → within (length e.movements) a ≡ true → either_way (listing e) a a ≡ true
lists_itself e all a known = or_left (listing e a a) (listing e a a) (all a known)
