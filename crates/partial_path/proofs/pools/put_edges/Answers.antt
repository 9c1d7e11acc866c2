use Rattle.std.proofs.Common.{sym, ◌∙◌, ap, subst, ◌++◌, ℕ, List, map, arith}
use Rattle.std.proofs.lemmas.List.{take_all}
use Rattle.partial_path.specs.FileNumbers.{edge_number, own_edge}
use Rattle.partial_path.specs.Pooled.{IsPartOf, part_of}
use Rattle.partial_path.proofs.Pooling.{edges_put, edges_within}
use Rattle.partial_path.proofs.pools.put_edges.Goals as goal

pub returns-clause-items : goal.returns-clause-items
returns-clause-items c =
    c.loop-edge.invariant
    ∙ ap (λ es. c.args.pool.now.items ++ map edge_number es) (take_all c.loop-edge.edge-index c.args.edges.now (omega (arith, c.loop-edge-test.false)))

pub returns-clause-within : goal.returns-clause-within
returns-clause-within c =
    let all = c.loop-edge.invariant
    ∙ ap (λ es. c.args.pool.now.items ++ map edge_number es) (take_all c.loop-edge.edge-index c.args.edges.now (omega (arith, c.loop-edge-test.false))) in
    subst (IsPartOf c.in_ok-part.part.from c.in_ok-part.part.len) (sym all) (edges_within c.in_ok-part.part.from c.in_ok-part.part.len c.args.pool.now.items c.args.edges.now (omega (arith, c.in_ok-part.ensures.0, c.len.ensures)) c.in_ok-part.ensures.1)

pub returns-clause-value : goal.returns-clause-value
returns-clause-value c =
    let all = c.loop-edge.invariant
    ∙ ap (λ es. c.args.pool.now.items ++ map edge_number es) (take_all c.loop-edge.edge-index c.args.edges.now (omega (arith, c.loop-edge-test.false))) in
    ap (λ (ns : List ℕ). map own_edge (part_of c.in_ok-part.part.from c.in_ok-part.part.len ns)) all
    ∙ edges_put c.in_ok-part.part.from c.in_ok-part.part.len c.args.pool.now.items c.args.edges.now (omega (arith, c.in_ok-part.ensures.0, c.len.ensures)) c.in_ok-part.ensures.1 c.requires
