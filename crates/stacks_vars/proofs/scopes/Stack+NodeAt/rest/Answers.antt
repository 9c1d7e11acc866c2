use Rattle.std.proofs.Common.{rules, ◌≡◌, ◌∙◌, ap, sym, drop, reverse}
use Rattle.stacks_vars.proofs.Turned.{behind_stored}
use Rattle.stacks_vars.proofs.scopes.Stack+NodeAt.rest.Goals as goal

-- what is copied is what stands before those that go
pub returns : goal.returns
returns c =
    let stored : c.args.self.now ≡ reverse c.deref.result.now = search rules in
    behind_stored c.deref.result.now c.in_ok-from_slice.field-0.items c.args.but c.saturating_sub-left.result (search rules) c.in_ok-from_slice.ensures.items
    ∙ ap (drop c.args.but) (sym stored)
