-- How a path of an index stands to a key; no public clause cites this.
use Rattle.std.specs.Prelude.{◌≡◌, ℕ, List, Bool, Some, slice_get}
use Rattle.std.specs.Ordering.{is_lt}
use Rattle.std.specs.declared.cmp.Ordering.{Ordering}
use Rattle.partial_path.specs.Keys.{key_cmp}
use Rattle.root_index.specs.Roots.{RootPath, root_key}

-- before it, there, or behind it
abbrev pub key_order : List (List ℕ) → RootPath → Ordering
key_order asked p = key_cmp (root_key p) asked

-- whether the path stands before the key
abbrev pub is_before_key : List (List ℕ) → RootPath → Bool
is_before_key asked p = is_lt (key_order asked p)

-- a key has a text at a place at which the other one doesn't have it: the other doesn't begin with it
pub record IsOtherwise (key other : List (List ℕ)) : Type 0 where
  pub place : ℕ
  pub text : List ℕ
  pub there : slice_get key place ≡ Some text
  pub other_there : slice_get other place ≡ Some text → ⊥
