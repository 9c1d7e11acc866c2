use Rattle.std.proofs.Common.{◌≡◌, ◌++◌}
use Rattle.nav_session.specs.Inside.{filled}
use Rattle.nav_session.proofs.drafts.edits_from.Given as goal

abbrev pub invariant-loop-draft : goal.invariant-loop-draft
invariant-loop-draft l = l.edits.items ++ filled l.draft-iterator.rest.items l.files.rest.items ≡ filled l.fn.drafts.items l.fn.files.items
