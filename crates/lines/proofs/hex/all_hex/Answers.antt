use Rattle.std.proofs.Common.{rules, tests, ◌≡◌, Bool, true, ◌&&◌, List, [], ◌∷◌, ◌∙◌, arith}
use Rattle.std.specs.List.{fold, list_all}
use Rattle.std.proofs.lemmas.Iterator.{YieldsList-from_slice}
use Rattle.std.proofs.lemmas.Iterator.Consumers.{fold_from_yields_List}
use Rattle.lines.specs.Hex.{is_hex}
use Rattle.lines.proofs.hex.all_hex.Goals as goal

folded_all : {X : Type 0} (p : X → Bool) (all : Bool) (xs : List X) → fold (λ a x. a && p x) all xs ≡ (all && list_all p xs)
folded_all p all [] = grind arith
folded_all p all (x ∷ xs) = grind (arith, folded_all p (all && p x) xs)

pub returns : goal.returns
returns c =
    let line = c.args.line.now in
    fold_from_yields_List _ (λ all x. all && is_hex x) true c.fold.result c.fold.ensures.ran (YieldsList-from_slice line c.iter.ensures.rest) (λ a x b q k. search (rules, tests))
    ∙ folded_all is_hex true line
