use Rattle.headways.proofs.Laws.{sections_laws, table_laws}
use Rattle.headways.proofs.theorems.book_rules_are_lawful.Goals as goal

pub returns : goal.returns
returns c = record { sections = sections_laws; table = table_laws }
