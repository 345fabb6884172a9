-- Whatever the memory holds, the rules of a book keep the laws. Assumes nothing.
use Rattle.traces.specs.Clashes.{either_way}
use Rattle.traces.proofs.Lawfuls.{mutual_test_is_lawful}
use Rattle.headways.specs.Rules.{count_of, held, sharing, listing, SectionsRuleIsLawful, TableRuleIsLawful}
use Rattle.headways.specs.Related.{sharing_is_mutual, listing_is_mutual}

pub sections_laws : SectionsRuleIsLawful
sections_laws book memory = mutual_test_is_lawful (count_of book) (sharing (held book memory)) book.some book.counts.few (sharing_is_mutual (held book memory))

pub table_laws : TableRuleIsLawful
table_laws book memory = mutual_test_is_lawful (count_of book) (either_way (listing (held book memory))) book.some book.counts.few (listing_is_mutual (held book memory))
