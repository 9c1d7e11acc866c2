use Rattle.std.proofs.Common.{◌++◌, [], ◌∷◌, sym, ◌∙◌, subst, List}
use Rattle.partial_path.specs.declared.path_row.PathRow.{PathRow}
use Rattle.partial_path.proofs.Pooling.{AreKept, kept_none, kept_more, one_came, all_came}
use Rattle.partial_path.proofs.stored_paths.KeptPaths.of.Goals as goal

pub loop-path-init : goal.loop-path-init
loop-path-init c = (kept_none c.in_ok-pools.pools c.in_ok-rows.rows.items c.in_ok-rows.ensures.items, c.into_iter-path-iterator.ensures.into_iter_gives.0)

pub loop-path-preserved : goal.loop-path-preserved
loop-path-preserved c = (
  subst (λ (rows : List PathRow). AreKept c.put_path.new.pools rows (c.loop-path.yielded ++ c.in-Some.path ∷ [])) (sym c.in_ok-push.ensures.items)
      (kept_more c.loop-path.pools c.put_path.new.pools c.loop-path.rows.items c.in_ok-row.row c.loop-path.yielded c.in-Some.path
      c.loop-path.invariant.0 c.in_ok-row.ensures.added c.in_ok-row.ensures.kept),
  one_came c.loop-path.yielded c.loop-path.path-iterator.rest.items c.next.new.self.rest.items c.args.paths.items c.in-Some.path c.in-Some.ensures.steps.0 c.loop-path.invariant.1,
)

pub invariant_of-result : goal.invariant_of-result
invariant_of-result c = c.loop-path.invariant.0.within

pub returns : goal.returns
returns c =
    c.loop-path.invariant.0.rules
    ∙ all_came c.loop-path.yielded c.loop-path.path-iterator.rest.items c.args.paths.items (sym c.loop-path.path-iterator.rest.ok.0 ∙ c.in-None.ensures.steps.0) c.loop-path.invariant.1
