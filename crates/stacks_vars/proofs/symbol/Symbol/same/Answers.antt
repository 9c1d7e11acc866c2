use Rattle.std.proofs.Common.{rules, subst, sym, ◌∙◌, ap}
use Rattle.stacks_vars.specs.Head.{IsHead}
use Rattle.std.specs.Ordering.{nat_cmp, is_eq}
use Rattle.std.specs.Cmp.Lexicographic.{slice_cmp}
use Rattle.std.proofs.lemmas.Map.Text.{is_eq-slice_cmp}
use Rattle.std.proofs.lemmas.Slice.Eq.{bytes_eq-Decides}
use Rattle.stacks_vars.proofs.HeadLaws.{whole_told, whole_equal}
use Rattle.stacks_vars.proofs.symbol.Symbol.same.Goals as goal

pub returns-then-is_whole-clause-eq : goal.returns-then-is_whole-clause-eq
returns-then-is_whole-clause-eq c =
    let left : IsHead c.self.inside.head c.args.self.now = subst (IsHead c.self.inside.head) (search rules) c.self.invariant in
    let right : IsHead c.other.inside.head c.args.other.now = subst (IsHead c.other.inside.head) (search rules) c.other.invariant in
    c.if-is_whole.true
    ∙ sym (whole_equal c.self.inside.head c.other.inside.head c.args.self.now c.args.other.now left right (search rules) (c.is_whole.ensures.0 c.if-is_whole.true))

pub returns-then-is_whole-clause-exact : goal.returns-then-is_whole-clause-exact
returns-then-is_whole-clause-exact c =
    let left : IsHead c.self.inside.head c.args.self.now = subst (IsHead c.self.inside.head) (search rules) c.self.invariant in
    let right : IsHead c.other.inside.head c.args.other.now = subst (IsHead c.other.inside.head) (search rules) c.other.invariant in
    let whole = c.is_whole.ensures.0 c.if-is_whole.true in
    (λ _. whole_told c.self.inside.head c.other.inside.head c.args.self.now c.args.other.now left right (search rules) whole, λ _. c.if-is_whole.true)

pub returns-else-is_whole-clause-eq : goal.returns-else-is_whole-clause-eq
returns-else-is_whole-clause-eq c =
    c.is_eq.ensures ∙ ap is_eq (c.tails_cmp.ensures ∙ (λ i. slice_cmp nat_cmp (c.as_bytes.ensures i) (c.as_bytes-else-is_whole.ensures i)))
    ∙ is_eq-slice_cmp c.args.self.now c.args.other.now

pub returns-else-is_whole-clause-exact : goal.returns-else-is_whole-clause-exact
returns-else-is_whole-clause-exact c =
    let told = c.is_eq.ensures ∙ ap is_eq (c.tails_cmp.ensures ∙ (λ i. slice_cmp nat_cmp (c.as_bytes.ensures i) (c.as_bytes-else-is_whole.ensures i)))
    ∙ is_eq-slice_cmp c.args.self.now c.args.other.now in
    (λ e. (bytes_eq-Decides c.args.self.now c.args.other.now).0 (sym told ∙ e), λ e. told ∙ (bytes_eq-Decides c.args.self.now c.args.other.now).1 e)
