use Rattle.std.proofs.Common.{◌≡◌, drop}
use Rattle.std.specs.Option.{option_map}
use Rattle.version_tree.specs.Verdict.{first_of, grant_absent, deny_absent, no_deny}
use Rattle.version_tree.specs.Passes.{ruled_all}
use Rattle.version_tree.proofs.passes.ruled_copy.Given as goal

abbrev pub invariant-loop-edit : goal.invariant-loop-edit
invariant-loop-edit l = record {
  rules : ruled_all l.edits l.rules ≡ ruled_all (drop l.edit-index l.edits) l.after;
  grants : grant_absent l.rules l.edits ≡ grant_absent l.after (drop l.edit-index l.edits);
  denies : option_map no_deny (deny_absent l.rules l.edits) ≡ first_of l.noted (option_map no_deny (deny_absent l.after (drop l.edit-index l.edits)));
}
