-- Bytes that come behind make no line shorter.
use Rattle.std.proofs.Common.{◌≡◌, ℕ, ◌≤◌, List, ◌++◌, drop, Result, Ok, Err, OnOk, OnErr}
use Rattle.nav_io.specs.Lines.{line_len}
use Rattle.nav_io.proofs.Cuts.{searched-grows}
use Rattle.nav_io.proofs.lines.LineReader.push.Goals as goal

searched_still : {T E : Type 0} (searched : ℕ) (old more new : List ℕ) (r : Result T E) → searched ≤ line_len old →
    OnOk r (new ≡ old ++ more) → OnErr r (new ≡ old) → searched ≤ line_len new
searched_still searched old more new (Ok _) h ok err = searched-grows searched old more new h ok
searched_still searched old more new (Err _) h ok err = rw err h

pub invariant_of-self : goal.invariant_of-self
invariant_of-self c = (
  c.put_behind.ensures.within,
  searched_still c.self.inside.searched (drop c.self.inside.start c.self.inside.held.items) c.args.bytes.now _
      c.put_behind.result c.self.invariant.1 c.put_behind.ensures.ok c.put_behind.ensures.err,
  c.self.invariant.2,
)
