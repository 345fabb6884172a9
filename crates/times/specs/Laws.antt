-- Plain and ranked time keep the laws of time; the proofs need not be read. Assumes nothing.
use Rattle.std.specs.Prelude.{refl}
use Rattle.std.proofs.Common.{arith, rules}
use Rattle.std.proofs.lemmas.Bool.Decides.{nat_tests}
use Rattle.traces.specs.Kinds.{TimeLaws}
use Rattle.times.specs.Plain.{plain, plain_meaning, plain_sum, plain_not_after}
use Rattle.times.specs.Ranked.{ranked, ranked_meaning, ranked_sum, ranked_not_after}

pub plain_laws : TimeLaws plain_meaning (plain 0) (λ s _. plain s) plain_sum plain_not_after
plain_laws = search rules

pub ranked_laws : TimeLaws ranked_meaning (ranked 0 0) ranked ranked_sum ranked_not_after
ranked_laws = record {
  itself = grind (arith, nat_tests);
  onward = grind (arith, nat_tests);
  compared = grind (arith, nat_tests);
  same = grind (arith, nat_tests);
  first = grind (arith, nat_tests);
  shifted = grind (arith, nat_tests);
  grows = grind (arith, nat_tests);
  settled = grind (arith, nat_tests);
  origin_means = refl;
  made_means = grind (arith, nat_tests);
  sum_settles = grind (arith, nat_tests);
  sum_means = grind (arith, nat_tests);
  order_means = grind (arith, nat_tests);
}
