-- Parts of an index: what files that follow one another tell, as threads list it.
use Rattle.std.specs.Prelude.{◌≡◌, ℕ, ◌*◌, ◌-◌, List, length, min, take, drop, Bool}
use Rattle.partial_path.specs.declared.end_table.EndMark.{EndMark}
use Rattle.version_tree.specs.Contents.{FileRow}
use Rattle.root_index.specs.Offers.{files_of}
use Rattle.partial_path.specs.Rules.{Rule}
use Rattle.partial_path.specs.Ends.{ends_at_root, ends_by_stack}
use Rattle.end_index.specs.Ends.{Ends, IsPartAt, PartView, SideView, marks_of}

-- the first file of the share with that number, where each but the last has so many: all of them are dealt out
abbrev pub first_of : List FileRow → ℕ → ℕ → ℕ
first_of view step share = min (share * step) (length view)

-- the marks of the files from that number on and before the other
abbrev pub marks_between : (Rule → Bool) → List FileRow → ℕ → ℕ → List (List EndMark)
marks_between passes view from to = take (to - from) (drop from (marks_of passes (files_of view)))

-- the part of these files
pub record IsPartOf (passes : Rule → Bool) (view : List FileRow) (from to : ℕ) (part : PartView) : Type 0 where
  pub marks : part.marks ≡ marks_between passes view from to
  pub at : IsPartAt from part

-- both parts of these files: a share
abbrev pub IsShareOf : List FileRow → ℕ → ℕ → PartView × PartView → Type 0
IsShareOf view from to share = IsPartOf ends_at_root view from to share.0 × IsPartOf ends_by_stack view from to share.1

-- the marks of the first files, so many
abbrev pub AreFirst : (Rule → Bool) → List FileRow → ℕ → SideView → Type 0
AreFirst passes view to side = side.marks ≡ take to (marks_of passes (files_of view))

-- the index of the first files, so many
abbrev pub IsIndexOfFirst : List FileRow → ℕ → Ends → Type 0
IsIndexOfFirst view to ends = AreFirst ends_at_root view to ends.root × AreFirst ends_by_stack view to ends.stack

-- of a side of as many files as are seen the first ones, so many, have their marks
pub record HasFirst (passes : Rule → Bool) (view : List FileRow) (to : ℕ) (side : SideView) : Type 0 where
  pub count : length side.marks ≡ length view
  pub first : take to side.marks ≡ take to (marks_of passes (files_of view))
