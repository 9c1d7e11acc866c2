-- How the blocks of an index stand in groups; no public clause cites this.
use Rattle.std.specs.Prelude.{◌≤◌, List, length}
use Rattle.root_index.specs.Roots.{RootPath}

-- a group has a path
abbrev pub IsGroup : List RootPath → Type 0
IsGroup group = 1 ≤ length group
