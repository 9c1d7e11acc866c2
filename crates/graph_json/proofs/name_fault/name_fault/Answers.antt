use Rattle.std.proofs.Common.{Some, None, refl}
use Rattle.graph_json.proofs.Places.{fault_is}
use Rattle.graph_json.proofs.name_fault.name_fault.Goals as goal

pub returns-in-Some : goal.returns-in-Some
returns-in-Some c = fault_is c.args.names.now c.args.nodes.now c.args.edges.now c.requires.names (Some c.in-Some.n) _ _ c.in-Some.ensures.value refl refl

pub returns-in-Some-first_unknown_scope : goal.returns-in-Some-first_unknown_scope
returns-in-Some-first_unknown_scope c =
    fault_is c.args.names.now c.args.nodes.now c.args.edges.now c.requires.names None (Some c.in-Some-first_unknown_scope.n) _ c.in_default.ensures.value c.in-Some-first_unknown_scope.ensures.value refl

pub returns-in-Some-first_unknown_end : goal.returns-in-Some-first_unknown_end
returns-in-Some-first_unknown_end c =
    fault_is c.args.names.now c.args.nodes.now c.args.edges.now c.requires.names None None (Some c.in-Some-first_unknown_end.e) c.in_default.ensures.value c.in_default-first_unknown_scope.ensures.value c.in-Some-first_unknown_end.ensures.value

pub returns : goal.returns
returns c =
    fault_is c.args.names.now c.args.nodes.now c.args.edges.now c.requires.names None None None c.in_default.ensures.value c.in_default-first_unknown_scope.ensures.value c.in_default-first_unknown_end.ensures.value
