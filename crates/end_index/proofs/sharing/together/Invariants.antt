use Rattle.std.proofs.Common.{◌≡◌, ◌++◌, length}
use Rattle.end_index.specs.Shares.{IsIndexOfFirst, first_of}
use Rattle.end_index.proofs.sharing.together.Given as goal

-- so many shares came, and behind these stand the others; and the index of the files of those
abbrev pub invariant-loop-share : goal.invariant-loop-share
invariant-loop-share l = record {
  place : l.place ≡ length l.yielded;
  rest : l.yielded ++ l.share-iterator.rest.items ≡ l.fn.shares.items;
  first : IsIndexOfFirst l._view (first_of l._view l._step l.place) l.all;
}
