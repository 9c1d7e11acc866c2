-- The last begun path is taken and followed; in the end there is none left.
use Rattle.std.proofs.Common.{◌+◌, arith}
use Rattle.std.specs.Vec.{vec_len}
use Rattle.file_paths.specs.declared.fault.TheConstants.{MAX_WEIGHT}
use Rattle.file_paths.proofs.CountingLaws.{counting_begins, counting_few, counting_within, takes, counted_set, counted_weight, counted_steps, short_last, none_left, least, one_above}
use Rattle.file_paths.proofs.enumerating.find.Goals as goal

pub loop-path-init : goal.loop-path-init
loop-path-init c = record {
  finding = counting_begins c.args.graph.now c.in_ok-paths.paths.items c.in_ok-begun.begun.items c.args.steps.now c.node_count.ensures.checked c.in_ok-begun.ensures.first
      c.in_ok-paths.ensures.items c.requires;
  short = c.in_ok-begun.ensures.short;
  light = least MAX_WEIGHT;
}

pub follow-requires-clause-finding : goal.follow-requires-clause-finding
follow-requires-clause-finding c =
    takes c.args.graph.now c.loop-path.found.paths.items c.loop-path.found.begun.items c.pop.new.self.items c.in-Some.path c.loop-path.found.weight c.loop-path.steps c.loop-path.invariant.finding c.in-Some.ensures.items

pub follow-requires-clause-short : goal.follow-requires-clause-short
follow-requires-clause-short c = (short_last (MAX_WEIGHT + 1) c.loop-path.found.begun.items c.pop.new.self.items c.in-Some.path c.in-Some.ensures.items c.loop-path.invariant.short).1

pub follow-requires-clause-begun : goal.follow-requires-clause-begun
follow-requires-clause-begun c = (short_last (MAX_WEIGHT + 1) c.loop-path.found.begun.items c.pop.new.self.items c.in-Some.path c.in-Some.ensures.items c.loop-path.invariant.short).0

pub returns-in_err-follow-clause-few : goal.returns-in_err-follow-clause-few
returns-in_err-follow-clause-few c = omega (arith, c.follow.ensures.few)

pub returns-in_err-follow-clause-fewer : goal.returns-in_err-follow-clause-fewer
returns-in_err-follow-clause-fewer c = λ whole weighs. let few = c.follow.ensures.fewer whole weighs in omega (arith, few)

pub loop-path-smaller : goal.loop-path-smaller
loop-path-smaller c =
    omega (arith, c.loop-path.invariant.light, c.in_ok-follow.ensures.heavier)

pub returns-clause-paths : goal.returns-clause-paths
returns-clause-paths c =
    counted_set c.args.graph.now c.loop-path.found.paths.items c.loop-path.found.begun.items c.loop-path.found.weight c.loop-path.steps
    (none_left (vec_len c.loop-path.found.begun) c.loop-path.found.begun.items c.pop.new.self.items c.in_default.ensures.cases.0 c.in_default.ensures.items c.in_default.ensures.rest) c.loop-path.invariant.finding

pub returns-clause-weight : goal.returns-clause-weight
returns-clause-weight c =
    counted_weight c.args.graph.now c.loop-path.found.paths.items c.loop-path.found.begun.items c.loop-path.found.weight c.loop-path.steps
    (none_left (vec_len c.loop-path.found.begun) c.loop-path.found.begun.items c.pop.new.self.items c.in_default.ensures.cases.0 c.in_default.ensures.items c.in_default.ensures.rest) c.loop-path.invariant.finding

pub returns-clause-steps : goal.returns-clause-steps
returns-clause-steps c =
    counted_steps c.args.graph.now c.loop-path.found.paths.items c.loop-path.found.begun.items c.loop-path.found.weight c.loop-path.steps
    (none_left (vec_len c.loop-path.found.begun) c.loop-path.found.begun.items c.pop.new.self.items c.in_default.ensures.cases.0 c.in_default.ensures.items c.in_default.ensures.rest) c.loop-path.invariant.finding c.args.steps.now c.requires

pub returns-clause-few : goal.returns-clause-few
returns-clause-few c =
    one_above c.loop-path.steps c.args.steps.now MAX_WEIGHT
    (counting_few c.args.graph.now c.loop-path.found.paths.items c.loop-path.found.begun.items c.loop-path.found.weight c.args.steps.now c.loop-path.steps MAX_WEIGHT c.loop-path.invariant.finding c.loop-path.invariant.light)

pub returns-clause-fewer : goal.returns-clause-fewer
returns-clause-fewer c =
    λ whole weighs. counting_within c.args.graph.now c.loop-path.found.paths.items c.loop-path.found.begun.items c.loop-path.found.weight c.args.steps.now c.loop-path.steps whole c.loop-path.invariant.finding weighs
