use Rattle.std.proofs.Common.{◌≡◌, ◌++◌, map}
use Rattle.nav_session.specs.Requests.{docs_in}
use Rattle.nav_session.specs.Inside.{draft_of}
use Rattle.nav_session.proofs.drafts.drafts_of.Given as goal

abbrev pub invariant-loop-edit : goal.invariant-loop-edit
invariant-loop-edit l =
    (l.docs.items ++ docs_in l.edit-iterator.rest.items ≡ docs_in l.fn.edits)
    × (l.drafts.items ++ map draft_of l.edit-iterator.rest.items ≡ map draft_of l.fn.edits)
