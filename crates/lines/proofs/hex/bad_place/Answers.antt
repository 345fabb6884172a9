use Rattle.std.proofs.Common.{rules, tests, ◌≡◌, ℕ, ◌+◌, Bool, not, List, [], ◌∷◌, position, refl, ap, ◌∙◌, arith}
use Rattle.std.specs.List.{position_from}
use Rattle.std.specs.Option.{option_map}
use Rattle.std.proofs.lemmas.Iterator.{YieldsList-from_slice}
use Rattle.std.proofs.lemmas.Iterator.Search.{position_from_yields_List}
use Rattle.std.proofs.lemmas.Iterator.Adapters.{position_from-zero}
use Rattle.lines.specs.Hex.{is_hex}
use Rattle.lines.proofs.Digits.{all_or_place}
use Rattle.lines.proofs.hex.bad_place.Goals as goal

-- a count that begins one later finds a place one later
place_on : {X : Type 0} (p : X → Bool) (at : ℕ) (xs : List X) → option_map (λ i. i + 1) (position_from p at xs) ≡ position_from p (at + 1) xs
place_on p at [] = refl
place_on p at (x ∷ xs) = grind (arith, place_on p (at + 1) xs)

pub returns-then-all_hex : goal.returns-then-all_hex
returns-then-all_hex c = grind (arith, all_or_place 1 c.args.line.now)

pub returns : goal.returns
returns c =
    let line = c.args.line.now in
    let found : c.position.result ≡ position (λ x. not (is_hex x)) line =
    position_from_yields_List (λ x. not (is_hex x)) _ _ c.position.result c.position.ensures.ran (YieldsList-from_slice line c.iter.ensures.rest) (λ x b q k. search (rules, tests)) in
    let mapped : c.map.result ≡ option_map (λ i. i + 1) c.position.result = search rules in
    mapped ∙ ap (option_map (λ i. i + 1)) (found ∙ position_from-zero (λ x. not (is_hex x)) line) ∙ place_on (λ x. not (is_hex x)) 0 line
