-- Ways to make a lawful clash relation. Assumes nothing.
use Rattle.std.proofs.Common.{rules}
use Rattle.traces.specs.Clashes.{MutualTestIsLawful, EitherWayIsMutual, UnionIsLawful}

pub mutual_test_is_lawful : MutualTestIsLawful
mutual_test_is_lawful n test some few alike = search rules

pub either_way_is_mutual : EitherWayIsMutual
either_way_is_mutual listed a b = search rules

pub union_is_lawful : UnionIsLawful
union_is_lawful m n c d f g = search rules
