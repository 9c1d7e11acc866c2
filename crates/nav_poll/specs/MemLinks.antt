-- What is seen of a link in memory, and what a call makes of it.
use Rattle.std.specs.Prelude.{ℕ, Bool, ◌&&◌, not, List, ◌++◌, take, drop, Result, Ok, Err}
use Rattle.nav_io.specs.Faults.{counted}
use Rattle.nav_io.specs.Mem.{fails_now}
use Rattle.nav_poll.specs.declared.link.Counts.{Counts}
use Rattle.nav_poll.specs.declared.link.LinkFault.{LinkFault}
use Rattle.nav_poll.specs.declared.link.LinkFault.TheVariants.{Failed, NoMemory}
use Rattle.nav_poll.specs.declared.link.Moved.{Moved}
use Rattle.nav_poll.specs.declared.link.Moved.TheVariants.{Bytes, NotYet}

-- the calls of one direction: the numbers of those that have to wait and of those that fail, and how many there were
pub record Calling : Type 0 where
  pub not_yet : List ℕ
  pub failing : List ℕ
  pub made : ℕ

-- a link in memory: the bytes still to come and those held, how many move at a call, its calls, and its counts
pub record Wire : Type 0 where
  pub left : List ℕ
  pub held : List ℕ
  pub piece : ℕ
  pub pulls : Calling
  pub pushes : Calling
  pub counts : Counts

-- the next call fails, and it has to wait; one that is to do both fails
abbrev pub fails_next : Calling → Bool
fails_next calls = fails_now calls.failing calls.made

abbrev pub waits_next : Calling → Bool
waits_next calls = not (fails_next calls) && fails_now calls.not_yet calls.made

-- after one call more
abbrev pub called : Calling → Calling
called calls = record calls { made = counted calls.made }

-- the link after a pull with that result
abbrev pub after_pull : Result Moved LinkFault → Wire → Wire
after_pull (Ok (Bytes n)) link = record link { left = drop n link.left; pulls = called link.pulls }
after_pull (Ok NotYet) link =
    record link { pulls = called link.pulls; counts = record link.counts { read_waits = counted link.counts.read_waits } }
after_pull (Err Failed) link =
    record link { pulls = called link.pulls; counts = record link.counts { read_faults = counted link.counts.read_faults } }
after_pull (Err NoMemory) link = record link { pulls = called link.pulls }

-- the link after a push of these bytes with that result
abbrev pub after_push : List ℕ → Result Moved LinkFault → Wire → Wire
after_push bytes (Ok (Bytes n)) link = record link { held = link.held ++ take n bytes; pushes = called link.pushes }
after_push bytes (Ok NotYet) link =
    record link { pushes = called link.pushes; counts = record link.counts { write_waits = counted link.counts.write_waits } }
after_push bytes (Err Failed) link =
    record link { pushes = called link.pushes; counts = record link.counts { write_faults = counted link.counts.write_faults } }
after_push bytes (Err NoMemory) link = record link { pushes = called link.pushes }
