use Rattle.std.proofs.Common.{sym, ◌∙◌, ap, slice_get, [], ◌∷◌, ◌++◌}
use Rattle.std.specs.List.{flat_map}
use Rattle.partial_path.specs.Rules.{bad_place, tail_of}
use Rattle.partial_path.proofs.Firsts.{first_given}
use Rattle.partial_path.proofs.path.first_bad.Goals as goal

-- the places before gave nothing, and this one is the first of its symbol
pub returns-in-Some : goal.returns-in-Some
returns-in-Some c =
    sym (ap (λ outs. slice_get (flat_map (bad_place c.args.asked.now) (flat_map tail_of outs ++ c.args.post.now.scopes.tail ∷ [])) 0) (sym c.items-out-items.ensures)
    ∙ first_given tail_of (bad_place c.args.asked.now) c.items-out-items.result.now c.loop-out.out-index c.out-item.result
    (c.args.post.now.scopes.tail ∷ []) c.in-Some.place c.loop-out.invariant c.loop-out-test.true c.out-item.is (sym c.bad_symbol.ensures ∙ c.in-Some.is))
