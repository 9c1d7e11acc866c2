-- How the paths of an index stand in blocks; no public clause cites this.
use Rattle.std.specs.Prelude.{◌≡◌, ℕ, ◌+◌, ◌<◌, ◌≤◌, List, [], ◌∷◌, length, take, Bool, false, Some, slice_get, slice_index_or, nat_le}
use Rattle.std.specs.List.{flat_map, prefix_len, AllByRecursion}
use Rattle.std.specs.Ordering.{is_le, is_eq}
use Rattle.std.specs.declared.cmp.Ordering.TheVariants.{Less}
use Rattle.root_index.specs.Roots.{RootPath, rank, rank_cmp}

-- a block has 1 to 64 paths
pub record IsBlock (block : List RootPath) : Type 0 where
  pub some : 1 ≤ length block
  pub few : length block ≤ 64

-- the paths of the blocks, one block after the other
abbrev pub all_paths : List (List RootPath) → List RootPath
all_paths blocks = flat_map (λ (block : List RootPath). block) blocks

-- whether the first path of a block passes
abbrev pub first_passes : (RootPath → Bool) → List RootPath → Bool
first_passes p [] = false
first_passes p (x ∷ xs) = p x

-- whether a path stands no higher than another, or at the same rank
abbrev pub is_up_to : RootPath → RootPath → Bool
is_up_to p q = is_le (rank_cmp (rank q) (rank p))

abbrev pub is_tied : RootPath → RootPath → Bool
is_tied p q = is_eq (rank_cmp (rank q) (rank p))

-- the place behind those that pass, as a block and a place in it
pub record IsEndOf (p : RootPath → Bool) (blocks : List (List RootPath)) (block place : ℕ) : Type 0 where
  pub in_range : block < length blocks
  pub inside : (d : List RootPath) → place ≤ length (slice_index_or blocks block d)
  pub here : prefix_len p (all_paths blocks) ≡ length (all_paths (take block blocks)) + place

-- each before all that follow
abbrev pub IsStrict : List RootPath → Type 0
IsStrict [] = Unit {0}
IsStrict (p ∷ ps) = AllByRecursion (λ (q : RootPath). rank_cmp (rank p) (rank q) ≡ Less) ps × IsStrict ps

-- at which place among all paths each block begins
pub record AreStarts (starts : List ℕ) (blocks : List (List RootPath)) : Type 0 where
  pub count : length starts ≡ length blocks
  pub each : (k : ℕ) (d : ℕ) → k < length blocks → slice_index_or starts k d ≡ length (all_paths (take k blocks))

-- the place is one among all paths of blocks that begin there
pub record IsAmong (starts : List ℕ) (place : ℕ) : Type 0 where
  pub blocks : List (List RootPath)
  pub begin : AreStarts starts blocks
  pub inside : place < length (all_paths blocks)

-- the path at a place among all paths is the one at a place of a block
pub record IsPlaceIn (blocks : List (List RootPath)) (place block inside : ℕ) : Type 0 where
  pub in_range : block < length blocks
  pub there : (m : List RootPath) → m ≡ slice_index_or blocks block m → inside < length m
  pub path : (m : List RootPath) (p : RootPath) → m ≡ slice_index_or blocks block m → p ≡ slice_index_or m inside p → slice_get (all_paths blocks) place ≡ Some p

-- whether a block begins no later than at the place
abbrev pub begins_by : ℕ → ℕ → Bool
begins_by place start = nat_le start place
