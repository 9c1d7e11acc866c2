-- The trail up to where the open run left it, with its last path, is where the next paths are joined.
use Rattle.std.proofs.Common.{◌≡◌, ◌∙◌, ◌∷◌, [], ◌++◌, List, ap, refl, sym}
use Rattle.partial_path.specs.declared.rule.Start.TheVariants.{After}
use Rattle.stitcher.specs.declared.trail.Level.{Level}
use Rattle.stitcher.specs.Opens.{levels_of}
use Rattle.stitcher.specs.Trail.{landed_at}
use Rattle.stitcher.proofs.Opening.{last_level, stands_open}
use Rattle.stitcher.proofs.stitching.advance.Goals as goal

pub extend-requires : goal.extend-requires
extend-requires g c =
    let levels : c.deref.result.now ≡ levels_of c.args.trail.now.items c.args.from =
    c.deref.ensures.value ∙ (c.push_reserved.ensures.items ∙ ap (λ (ls : List Level). ls ++ c.args.from.level ∷ []) (c.in_ok-reserve.ensures.items ∙ c.cut_back.ensures)) in
    let last = last_level c.args.trail.now.items c.args.from c.index.result.now c.push_reserved.new.self.items c.requires.open.depth (sym c.deref.ensures.value ∙ levels) c.index.ensures in
    record { here = stands_open c.args.search.now c.requires.asked _ c.args.trail.now.items c.args.from c.requires.open levels (ap landed_at last) (ap After c.spot.ensures) refl }
