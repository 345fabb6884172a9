use Rattle.headways.proofs.Sharing.{sharing_is_clashing}
use Rattle.headways.proofs.theorems.sharing_is_clashing.Goals as goal

pub returns : goal.returns
returns c = sharing_is_clashing
