use Rattle.std.proofs.Common.{◌≡◌, ◌+◌, ◌++◌, [], ◌∷◌, Some, not, map, take, ap, sym, ◌∙◌, arith}
use Rattle.std.specs.Str.{bytes_eq}
use Rattle.indexmap.specs.IndexMap.{get_by}
use Rattle.serde_json.specs.View.{view}
use Rattle.graph_json.specs.Named.{names_of, first_called}
use Rattle.graph_json.proofs.Numbers.{names_of-more, length-names_of, Numbering-again, Numbering-new}
use Rattle.graph_json.proofs.names.number_all.Goals as goal
use Rattle.graph_json.proofs.names.number_all.Goals.{then-is_none+in_ok-insert, else-is_none}

pub loop-i-preserved : goal.loop-i-preserved
loop-i-preserved c =
    let names = names_of (map view (take c.loop-i.i c.args.nodes.now)) in
    let more : names_of (map view (take (c.loop-i.i + 1) c.args.nodes.now)) ≡ names ++ Some c.in-Some.own.now ∷ [] =
    names_of-more c.args.nodes.now c.loop-i.i c.index-nodes-i.result c.loop-i-test.true c.index-nodes-i.is ∙ ap (λ o. names ++ o ∷ []) (sym c.in-Some.ensures) in
    let count = length-names_of c.args.nodes.now c.loop-i.i (omega arith) in
    elim c.if-is_none.branch [
      | then-is_none+in_ok-insert w ↦ λ q. ap (get_by (λ k. bytes_eq q k.now)) w.firsts-is
          ∙ Numbering-new names c.in-Some.own.now c.loop-i.firsts w.insert.new.self c.loop-i.invariant c.get.result c.get.ensures.value (c.is_none.ensures ∙ ap not w.if-is_none.true)
          (rw count (w.in_ok-insert.ensures).updates) q
          ∙ ap (λ l. first_called l q) (sym more)
      | else-is_none w ↦ λ q. ap (get_by (λ k. bytes_eq q k.now)) w.firsts-is
          ∙ Numbering-again names c.in-Some.own.now c.loop-i.firsts c.loop-i.firsts c.loop-i.invariant c.get.result c.get.ensures.value (c.is_none.ensures ∙ ap not w.if-is_none.false) q
          ∙ ap (λ l. first_called l q) (sym more)
    ]
