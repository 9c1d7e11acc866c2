-- What the lock of a board keeps; no public clause cites this.
use Rattle.std.specs.Prelude.{◌≡◌, ◌≤◌, Bool, List, ◌++◌, length}
use Rattle.version_tree.specs.declared.entry.Entry.{Entry}

-- the newest log, and whether seats find it
pub record Newest : Type 0 where
  pub log : List Entry
  pub shown : Bool

-- seats find the log, or all of it but its last entry
pub record IsNearlyShown (is_shown : List Entry → Type 0) (log : List Entry) : Type 0 where
  pub found : List Entry
  pub there : is_shown found
  pub rest : List Entry
  pub whole : found ++ rest ≡ log
  pub few : length rest ≤ 1
