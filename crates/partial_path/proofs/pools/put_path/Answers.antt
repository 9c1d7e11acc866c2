-- Each part stands in its pool, where the row says it.
use Rattle.std.proofs.Common.{◌≡◌, sym, ◌∙◌, subst, All}
use Rattle.partial_path.specs.Rules.{rule_of}
use Rattle.partial_path.specs.FileNumbers.{IsOfFileZero, EdgeIn}
use Rattle.partial_path.specs.Pooled.{pre_of, post_of}
use Rattle.partial_path.proofs.Pooling.{row_kept}
use Rattle.partial_path.proofs.pools.put_path.Goals as goal

pub row_start-requires : goal.row_start-requires
row_start-requires c = (subst IsOfFileZero (sym c.into_parts-start.ensures.value) c.requires).start

pub row_end-requires : goal.row_end-requires
row_end-requires c = (subst IsOfFileZero (sym c.into_parts-start.ensures.value) c.requires).end

pub put_edges-requires : goal.put_edges-requires
put_edges-requires c =
    subst (All (EdgeIn (λ file. file ≡ 0))) (sym c.as_slice.ensures.value) (subst IsOfFileZero (sym c.into_parts-start.ensures.value) c.requires).edges

pub returns-clause-added : goal.returns-clause-added
returns-clause-added c = record {
  asked = (_, c.in_ok-asked.ensures.items);
  made = (_, c.in_ok-made.ensures.items);
  nodes = c.in_ok-nodes.ensures.added;
  edges = (_, c.in_ok-edges.ensures.items);
}

pub returns-clause-kept : goal.returns-clause-kept
returns-clause-kept c =
    let asked = c.in_ok-asked.ensures.value ∙ c.into_items.ensures in
    let made = c.in_ok-made.ensures.value ∙ c.into_items-2.ensures in
    let fixed = c.in_ok-nodes.ensures.fixed.value ∙ c.into_items-fixed.ensures in
    let scopes = c.in_ok-nodes.ensures.scopes.value ∙ c.into_items-3.ensures in
    let same =
    (λ i. rule_of (c.in_ok-start.ensures i) (c.in_ok-end.ensures i) (pre_of (asked i) (fixed i)) (post_of (made i) (scopes i) (c.in_ok-tail.ensures i)) (c.in_ok-peak.ensures i) ((c.in_ok-edges.ensures.value ∙ c.as_slice.ensures.value) i))
    ∙ c.into_parts-start.ensures.value in
    row_kept _ _ _ c.in_ok-asked.ensures.within c.in_ok-nodes.ensures.fixed.within c.in_ok-made.ensures.within c.in_ok-nodes.ensures.scopes.within c.in_ok-edges.ensures.within same c.into_parts-start.ensures.rule
