use Rattle.std.proofs.Common.{arith}
use Rattle.std.proofs.lemmas.Grind.{common_steps}
use Rattle.headways.proofs.Passes.{meet_by_marks}
use Rattle.headways.proofs.steps.share_section.Goals as goal

pub returns-then-marked-from : goal.returns-then-marked-from
returns-then-marked-from c =
    let by_marks = meet_by_marks _ c.marked_sections-marked.result c.marked_sections-marked.ensures c.args.second.now in grind (arith, common_steps, by_marks)

pub returns : goal.returns
returns c =
    let by_marks = meet_by_marks _ c.marked_sections-marked.result c.marked_sections-marked.ensures c.args.second.now in grind (arith, common_steps, by_marks)
