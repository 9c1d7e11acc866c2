use Rattle.std.proofs.Common.{sym, ◌∙◌, ap, subst, ◌∷◌, [], ◌++◌, List}
use Rattle.std.specs.Prelude.{All}
use Rattle.std.proofs.lemmas.List.Elements.{All-push}
use Rattle.root_index.specs.Roots.{RootPath}
use Rattle.root_index.specs.Blocks.{all_paths}
use Rattle.root_index.specs.Groups.{IsGroup}
use Rattle.root_index.proofs.Grouped.{cut_group}
use Rattle.root_index.proofs.groups.in_groups.Goals as goal

-- the last blocks go into a group of their own
pub loop-blocks-preserved : goal.loop-blocks-preserved
loop-blocks-preserved c =
    let added = c.in_ok-push.ensures.items ∙ ap (λ (g : List RootPath). c.loop-blocks.groups.items ++ g ∷ []) c.in_ok-of.ensures in
    record {
      paths = cut_group (all_paths c.args.blocks) (all_paths c.loop-blocks.blocks) (all_paths c.in_ok-rest.rest) (all_paths c.in_ok-rest.last) c.loop-blocks.groups.items c.push.new.self.items
          c.in_ok-rest.ensures.paths added c.loop-blocks.invariant.paths;
      sizes = subst (All IsGroup) (sym added) (All-push IsGroup c.loop-blocks.groups.items (all_paths c.in_ok-rest.last) c.loop-blocks.invariant.sizes c.in_ok-rest.ensures.some);
    }
