use Rattle.std.proofs.Common.{◌≤◌, ap, subst, arith, length, List}
use Rattle.std.proofs.lemmas.Bool.Decides.{nat_tests}
use mathlib.Core.List.{IsPrefix}
use Rattle.version_tree.specs.declared.entry.Entry.{Entry}
use Rattle.shared_board.proofs.Fronts.{begins_shorter}
use Rattle.shared_board.proofs.book.Front.begins.Goals as goal

pub returns-clause-short : goal.returns-clause-short
returns-clause-short g c holds =
    let both = c.learn.new.self.log in
    let this : IsPrefix c.self.inside.seen.log both = subst (λ (l : List Entry). IsPrefix l both) (ap (λ s. s.log) c.again-both.ensures) c.learn.ensures.2 in
    let le : c.self.inside.entries ≤ c.other.inside.entries = grind (arith, nat_tests) in
    let less : length c.self.inside.seen.log ≤ length c.other.inside.seen.log = omega (arith, le, c.self.invariant.0, c.other.invariant.0) in
    rw (← c.self.view_is, ← c.other.view_is) (begins_shorter c.self.inside.seen.log c.other.inside.seen.log both this c.learn.ensures.3 less)

pub returns-clause-long : goal.returns-clause-long
returns-clause-long g c fails =
    let both = c.learn.new.self.log in
    let this : IsPrefix c.self.inside.seen.log both = subst (λ (l : List Entry). IsPrefix l both) (ap (λ s. s.log) c.again-both.ensures) c.learn.ensures.2 in
    let le : c.other.inside.entries ≤ c.self.inside.entries = grind (arith, nat_tests) in
    let less : length c.other.inside.seen.log ≤ length c.self.inside.seen.log = omega (arith, le, c.self.invariant.0, c.other.invariant.0) in
    rw (← c.self.view_is, ← c.other.view_is) (begins_shorter c.other.inside.seen.log c.self.inside.seen.log both c.learn.ensures.3 this less)
