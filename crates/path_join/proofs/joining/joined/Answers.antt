-- The parts are those of the joined path, which is a rule.
use Rattle.std.proofs.Common.{rules, ◌≡◌, Some}
use Rattle.partial_path.specs.Rules.{rule_of}
use Rattle.path_join.specs.Tables.{joined_of}
use Rattle.path_join.proofs.joining.joined.Goals as goal

pub of-requires : goal.of-requires
of-requires c =
    let e : joined_of c.args.joint.now ≡ Some (rule_of c.start.result c.end-2.result c.in_ok-pre.pre (record { symbols = c.in_ok-symbols.symbols; scopes = c.in_ok-scopes.scopes }) c.joined_peak-peak.result c.in_ok-edges.edges.items) = search rules in
    c.requires.rule _ e
