use Rattle.headways.proofs.Gaps.{section_gap_is_greatest}
use Rattle.headways.proofs.theorems.section_gap_is_greatest.Goals as goal

pub returns : goal.returns
returns c = section_gap_is_greatest
