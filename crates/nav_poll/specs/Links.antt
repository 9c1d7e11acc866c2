-- What a call of a link moved, and what it tells of the link's counts.
use Rattle.std.specs.Prelude.{ℕ, ◌≤◌, Result, Ok, Err}
use Rattle.nav_poll.specs.declared.link.Counts.{Counts}
use Rattle.nav_poll.specs.declared.link.LinkFault.{LinkFault}
use Rattle.nav_poll.specs.declared.link.Moved.{Moved}
use Rattle.nav_poll.specs.declared.link.Moved.TheVariants.{Bytes, NotYet}

-- how many bytes moved: none where the call has to wait, and none after a fault
abbrev pub moved : Result Moved LinkFault → ℕ
moved (Ok (Bytes n)) = n
moved (Ok NotYet) = 0
moved (Err fault) = 0

-- none of the four counts fell
pub record NoneFell (old new : Counts) : Type 0 where
  pub read_faults : old.read_faults ≤ new.read_faults
  pub write_faults : old.write_faults ≤ new.write_faults
  pub read_waits : old.read_waits ≤ new.read_waits
  pub write_waits : old.write_waits ≤ new.write_waits
