use Rattle.headways.proofs.Sharing.{read_movements_have_steps}
use Rattle.headways.proofs.theorems.read_movements_have_steps.Goals as goal

pub returns : goal.returns
returns c = read_movements_have_steps
