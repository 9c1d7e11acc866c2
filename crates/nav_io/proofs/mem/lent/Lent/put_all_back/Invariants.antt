use Rattle.std.proofs.Common.{◌≡◌, ◌+◌, ◌≤◌, ◌++◌, length}
use Rattle.std.specs.Vec.Iter.{into_iter_items}
use Rattle.nav_io.proofs.mem.lent.Lent.put_all_back.Given as goal

-- Those that came back so far stand behind the others, and there is room for the rest.
abbrev pub invariant-loop-thing : goal.invariant-loop-thing
invariant-loop-thing g l = record {
  back : l.self ≡ record l.fn.self { back = l.fn.self.back ++ l.yielded };
  room : length l.self.back + length (into_iter_items l.thing-iterator) ≤ length l.fn.self.gave;
}
