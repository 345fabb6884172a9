use Rattle.std.proofs.Common.{rules, tests, ◌≡◌, ◌≤◌, ◌==◌, Bool, List, length, position, unwrap_or, arith}
use Rattle.std.specs.List.{position_or_len}
use Rattle.std.proofs.lemmas.Iterator.{YieldsList-from_slice}
use Rattle.std.proofs.lemmas.Iterator.Search.{position_from_yields_List}
use Rattle.std.proofs.lemmas.List.Sums.{prefix_len-le-length}
use Rattle.std.proofs.lemmas.Bool.Decides.{nat_tests}
use Rattle.lines.specs.Texts.{line_end}
use Rattle.lines.proofs.reader.calls.line_len.Goals as goal

-- where an element passes, its index; else the length
found_or_long : {X : Type 0} (p : X → Bool) (xs : List X) → unwrap_or (position p xs) (length xs) ≡ position_or_len p xs
found_or_long p xs = let within : position_or_len p xs ≤ length xs = prefix_len-le-length _ xs in grind (arith, nat_tests)

pub returns-clause-value : goal.returns-clause-value
returns-clause-value c =
    let text = c.args.text.now in
    let found : c.position.result ≡ position (λ x. x == line_end) text =
    position_from_yields_List (λ x. x == line_end) _ _ c.position.result c.position.ensures.ran (YieldsList-from_slice text c.iter.ensures.rest) (λ x b q k. search (rules, tests)) in
    let all = found_or_long (λ x. x == line_end) text in
    grind (arith, rules)
