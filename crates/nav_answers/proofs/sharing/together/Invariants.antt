use Rattle.std.proofs.Common.{◌≡◌, ◌++◌, length}
use Rattle.nav_answers.specs.Asking.{AreTabled, IsInShares}
use Rattle.nav_answers.specs.Sources.{graphs_seen}
use Rattle.nav_answers.proofs.sharing.together.Given as goal

-- so many shares came, and behind these stand the others; and what they tell
abbrev pub invariant-loop-share : goal.invariant-loop-share
invariant-loop-share l = record {
  place : l.place ≡ length l.yielded;
  rest : l.yielded ++ l.share-iterator.rest.items ≡ l.fn.shares.items;
  found : AreTabled l.query.bounds (graphs_seen l.query.view.now) l.query.definitions.now (IsInShares l.all l.count l.place) l.parts;
}
