-- What is seen of the ports and yards in memory.
use Rattle.std.specs.Prelude.{ℕ, Bool, ◌&&◌, not, List, [], ◌∷◌, Option, None, Some}
use Rattle.nav_io.specs.Faults.{counted}
use Rattle.nav_io.specs.Lending.{Lending, lend}
use Rattle.nav_io.specs.Mem.{fails_now}
use Rattle.nav_poll.specs.MemLinks.{Wire}

-- a port in memory: its links, which of its calls wait and fail, how many calls there were, and its counts
pub record PortState : Type 0 where
  pub links : Lending Wire
  pub accepts_not_yet : List ℕ
  pub accepts_failing : List ℕ
  pub settles_failing : List ℕ
  pub accepts : ℕ
  pub settles : ℕ
  pub faults : ℕ
  pub waits : ℕ

-- whether the next call to accept is told to fail, and whether it is told to wait; one that is told both fails
abbrev pub is_to_fail : PortState → Bool
is_to_fail port = fails_now port.accepts_failing port.accepts

abbrev pub is_to_wait : PortState → Bool
is_to_wait port = not (is_to_fail port) && fails_now port.accepts_not_yet port.accepts

-- whether the next call to settle is told to fail
abbrev pub is_to_fail_settling : PortState → Bool
is_to_fail_settling port = fails_now port.settles_failing port.settles

-- a port in memory after a call to accept that failed, that waited, and that gave its next link
abbrev pub after_fault : PortState → PortState
after_fault port = record port { accepts = counted port.accepts; faults = counted port.faults }

abbrev pub after_wait : PortState → PortState
after_wait port = record port { accepts = counted port.accepts; waits = counted port.waits }

abbrev pub after_link : PortState → PortState
after_link port = record port { accepts = counted port.accepts; links = lend 1 port.links }

-- after a call to settle, and after one that failed
abbrev pub after_settling : PortState → PortState
after_settling port = record port { settles = counted port.settles }

abbrev pub after_settle_fault : PortState → PortState
after_settle_fault port = record port { settles = counted port.settles; faults = counted port.faults }

-- a yard in memory: the port that it holds, those that it gave out and got back, whether it fails, and its faults
pub record YardState : Type 0 where
  pub held : Option PortState
  pub gave : List PortState
  pub back : List PortState
  pub fails : Bool
  pub faults : ℕ

-- as a list: what is there, or nothing
abbrev pub held_list : {X : Type 0} → Option X → List X
held_list None = []
held_list (Some x) = x ∷ []
