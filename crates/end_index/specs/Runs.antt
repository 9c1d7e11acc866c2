-- The order in which paths of an index stand, and which of them, by their keys, may make what is asked for.
use Rattle.std.specs.Prelude.{ℕ, ◌+◌, List, [], ◌∷◌, ◌++◌, take, drop, filter, Bool, IsSortedByKey}
use Rattle.std.specs.List.{prefix_len, flat_map}
use Rattle.std.specs.Ordering.{nat_cmp, ordering_then, is_lt, is_eq}
use Rattle.std.specs.declared.cmp.Ordering.{Ordering}
use Rattle.partial_path.specs.Marks.{with_text, end_key}
use Rattle.end_index.specs.declared.place.EndPlace.{EndPlace}
use Rattle.end_index.specs.declared.runs.EndRuns.{EndRuns}

-- they stand by the key of what they make, those of one key by file and then by place
abbrev pub rank : EndPlace → ℕ × (ℕ × ℕ)
rank p = (p.key, (p.file, p.place))

abbrev pub rank_cmp : ℕ × (ℕ × ℕ) → ℕ × (ℕ × ℕ) → Ordering
rank_cmp a b = ordering_then (nat_cmp a.0 b.0) (ordering_then (nat_cmp a.1.0 b.1.0) (nat_cmp a.1.1 b.1.1))

abbrev pub AreByRank : List EndPlace → Type 0
AreByRank = IsSortedByKey rank rank_cmp

-- how a path stands to those of a key
abbrev pub side : ℕ → EndPlace → Ordering
side key p = nat_cmp p.key key

abbrev pub is_before_run : ℕ → EndPlace → Bool
is_before_run key p = is_lt (side key p)

abbrev pub is_in_run : ℕ → EndPlace → Bool
is_in_run key p = is_eq (side key p)

-- a run: those of the paths
abbrev pub run : ℕ → List EndPlace → List EndPlace
run key places = filter (is_in_run key) places

-- the runs of those texts whose mark and number are these with one text more, with two, and so on
abbrev pub runs_behind : ℕ → ℕ → List (List ℕ) → List EndPlace → List EndPlace
runs_behind mark count [] places = []
runs_behind mark count (text ∷ texts) places =
    run (end_key (with_text mark text) (count + 1)) places ++ runs_behind (with_text mark text) (count + 1) texts places

-- the runs of none of the texts that are asked for, of the first one, of the first two, and so on
abbrev pub runs : List (List ℕ) → List EndPlace → List EndPlace
runs asked places = run (end_key 0 0) places ++ runs_behind 0 0 asked places

-- the first of the paths, as far as they stand in the run
abbrev pub first_in : ℕ → List EndPlace → List EndPlace
first_in key places = take (prefix_len (is_in_run key) places) places

-- what is left of the present run of a look-up
abbrev pub here : EndRuns → List EndPlace → List EndPlace
here at places = first_in at.key (drop at.place places)

-- a look-up that stands before all paths of the share with that number: those that make no symbol come first, and their
-- key is 0
abbrev pub first_at : ℕ → EndRuns
first_at share = record { share = share; asked = 0; mark = 0; key = 0; place = 0 }

-- the paths of its share that a look-up of these texts which stands there still meets
abbrev pub runs_left : List (List ℕ) → EndRuns → List EndPlace → List EndPlace
runs_left asked at places = here at places ++ runs_behind at.mark at.asked (drop at.asked asked) places

-- the same of the first of some shares, with the runs of the others
abbrev pub left_of : List (List ℕ) → EndRuns → List (List EndPlace) → List EndPlace
left_of asked at [] = []
left_of asked at (places ∷ shares) = runs_left asked at places ++ flat_map (runs asked) shares

-- the paths of all shares that it still meets
abbrev pub shares_left : List (List ℕ) → EndRuns → List (List EndPlace) → List EndPlace
shares_left asked at shares = left_of asked at (drop at.share shares)
