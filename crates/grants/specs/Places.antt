-- How a pair of a set stands beside another; no public clause cites this.
use Rattle.std.specs.declared.cmp.Ordering.{Ordering}
use Rattle.grants.specs.Pairs.{Pair, pair_cmp}

-- how the pair q stands beside p
abbrev pub beside : Pair → Pair → Ordering
beside p q = pair_cmp q p
