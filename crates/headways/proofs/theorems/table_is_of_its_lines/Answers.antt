use Rattle.headways.proofs.Listing.{table_is_of_its_lines}
use Rattle.headways.proofs.theorems.table_is_of_its_lines.Goals as goal

pub returns : goal.returns
returns c = table_is_of_its_lines
