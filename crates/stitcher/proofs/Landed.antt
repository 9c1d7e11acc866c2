-- The paths that are joined at the moment: which configurations they landed at.
use Rattle.std.proofs.Common.{◌≡◌, ℕ, ◌<◌, Bool, true, List, map, length, get_or, sym, ap, ◌∙◌, arith}
use Rattle.std.specs.List.{list_any}
use Rattle.std.proofs.lemmas.List.{length-map, get_or-map}
use Rattle.std.proofs.lemmas.List.Folds.{list_any_at}
use Rattle.partial_path.specs.declared.config.Config.{Config}
use Rattle.stitcher.specs.declared.trail.Level.{Level}
use Rattle.stitcher.specs.Trail.{landed_at}

pub any_landed : (p : Config → Bool) (levels : List Level) (i : ℕ) (l : Level) → i < length levels → l ≡ get_or levels i l → p l.at ≡ true → list_any p (map landed_at levels) ≡ true
any_landed p levels i l lt is t =
    list_any_at p (map landed_at levels) i (landed_at l)
    (let same = length-map levels landed_at in omega arith)
    (ap p (get_or-map landed_at levels i l (landed_at l) lt ∙ ap landed_at (sym is)) ∙ t)
