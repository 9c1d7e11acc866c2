use Rattle.std.proofs.Common.{sym, subst, drop, take}
use Rattle.std.specs.Prelude.{All, ◌++◌}
use Rattle.std.proofs.lemmas.List.Elements.{All-append, All-drop, All-take}
use Rattle.root_index.specs.Groups.{IsGroup}
use Rattle.root_index.proofs.groups.Groups.joined.Goals as goal

pub invariant_of-result : goal.invariant_of-result
invariant_of-result c =
    subst (All IsGroup) (sym c.in_ok-put.ensures)
    (All-append IsGroup (take c.args.i c.self.inside.groups.items) (c.in_ok-parts.parts.items ++ drop c.args.i c.self.inside.groups.items)
    (All-take IsGroup c.args.i c.self.inside.groups.items c.self.invariant)
    (All-append IsGroup c.in_ok-parts.parts.items (drop c.args.i c.self.inside.groups.items) c.in_ok-parts.ensures.sizes (All-drop IsGroup c.args.i c.self.inside.groups.items c.self.invariant)))
