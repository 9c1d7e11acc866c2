use Rattle.std.proofs.Common.{◌≡◌, string_bytes}
use Rattle.json.specs.Print.{quoted}
use Rattle.nav_proto.proofs.faults.numbered.Goals as goal

pub returns-in-First : goal.returns-in-First
returns-in-First c =
    let path : string_bytes c.in_ok-path.path ≡ quoted c.args.path.now = c.in_ok-path.ensures in
    rw c.in-First.is (rw path at c.format.ensures.ok)
