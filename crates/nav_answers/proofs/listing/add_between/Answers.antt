use Rattle.std.proofs.Common.{sym, ◌∙◌, ◌<◌, length, arith}
use Rattle.std.proofs.lemmas.List.{length-set}
use Rattle.partial_path.specs.Spots.{node_at}
use Rattle.nav_answers.proofs.Asked.{counts_one, put_down}
use Rattle.nav_answers.proofs.listing.add_between.Goals as goal

pub loop-node-preserved : goal.loop-node-preserved
loop-node-preserved c =
    let inside : c.loop-node.node < length c.args.file.now.graph.nodes = omega (arith, c.loop-node-test.true, c.requires.inside) in
    let room : c.loop-node.count < length c.loop-node.found = omega (arith, c.loop-node.invariant.room, c.loop-node.invariant.few, c.loop-node-test.true, c.requires.room) in
    record {
      room = length-set c.loop-node.found c.loop-node.count (node_at c.args.number c.loop-node.node) ∙ c.loop-node.invariant.room;
      few = omega (arith, c.loop-node.invariant.few, c.from-count.ensures, counts_one c.is_reference.result);
      found =
          put_down c.args.number c.loop-node.node c.args.file.now.graph.nodes c.loop-node.found c.loop-node.count c.from-count.result c.is_reference.result inside room (sym c.is_reference.ensures)
          c.from-count.ensures
          ∙ c.loop-node.invariant.found;
    }
