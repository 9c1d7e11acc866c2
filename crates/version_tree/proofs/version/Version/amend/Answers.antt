use Rattle.std.proofs.lemmas.Result.{err_from_is_err_and}
use Rattle.version_tree.specs.Contents.{content}
use Rattle.version_tree.proofs.Amend as amend
use Rattle.version_tree.proofs.version.Version.amend.Goals as goal

pub returns-in_err-few_enough-clause-refused : goal.returns-in_err-few_enough-clause-refused
returns-in_err-few_enough-clause-refused c =
    let p = err_from_is_err_and c.from_residual-in_err-few_enough.result c.from_residual-in_err-few_enough.ensures.1 in
    rw (p.1, p.2, ← c.self.view_is) (amend.size-told c.self.inside.number (content c.self.inside.rows c.self.inside.grants) c.args.edits.now c.in_ok-rows.rows
    c.in_ok-no_path_twice.ensures c.in_ok-no_absent_path.ensures c.in_ok-grants.ensures.fault c.in_ok-rows.ensures _ c.in_err-few_enough.ensures.fault)

pub returns-then-self-ge-MAX_NUMBER-clause-refused :
    goal.returns-then-self-ge-MAX_NUMBER-clause-refused
returns-then-self-ge-MAX_NUMBER-clause-refused c =
    rw (← c.self.view_is) (λ ne. amend.spent-told c.self.inside.number (content c.self.inside.rows c.self.inside.grants) c.args.edits.now c.in_ok-rows.rows
    c.in_ok-no_path_twice.ensures c.in_ok-no_absent_path.ensures c.in_ok-grants.ensures.fault c.in_ok-rows.ensures c.in_ok-few_enough.ensures.fault c.if-self-ge-MAX_NUMBER.true)

pub returns-clause-fit : goal.returns-clause-fit
returns-clause-fit c =
    rw (← c.self.view_is) (amend.fits c.self.inside.number (content c.self.inside.rows c.self.inside.grants) c.args.edits.now c.in_ok-rows.rows
    c.in_ok-no_path_twice.ensures c.in_ok-no_absent_path.ensures c.in_ok-grants.ensures.fault c.in_ok-rows.ensures c.in_ok-few_enough.ensures.fault c.if-self-ge-MAX_NUMBER.false)

pub returns-clause-content : goal.returns-clause-content
returns-clause-content c =
    rw (← c.self.view_is) (amend.holds (content c.self.inside.rows c.self.inside.grants) c.args.edits.now c.in_ok-rows.rows c.in_ok-grants.grants c.in_ok-rows.ensures c.in_ok-grants.ensures.ok)
