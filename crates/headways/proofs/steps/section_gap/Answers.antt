use Rattle.std.proofs.Common.{◌-◌, max, get_or, ◌∙◌, rules}
use Rattle.std.proofs.lemmas.Iterator.{YieldsList-from_slice}
use Rattle.std.proofs.lemmas.Iterator.Consumers.{fold_from_yields_List}
use Rattle.entries.specs.declared.memory.Step.{Step}
use Rattle.headways.proofs.Passes.{gap_by_releases}
use Rattle.headways.proofs.steps.section_gap.Goals as goal

pub returns : goal.returns
returns c =
    fold_from_yields_List _ (λ k (x : Step). max k (get_or c.latest_releases-released.result x.section 0 - x.set)) _ _ c.fold.ensures.ran (YieldsList-from_slice c.args.second.now cc) (λ a x b q k. search rules)
    ∙ gap_by_releases _ c.latest_releases-released.result c.latest_releases-released.ensures c.args.second.now
