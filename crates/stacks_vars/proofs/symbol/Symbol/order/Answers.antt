use Rattle.std.proofs.Common.{rules, subst}
use Rattle.stacks_vars.specs.Head.{IsHead}
use Rattle.stacks_vars.proofs.HeadLaws.{heads_told, whole_stands}
use Rattle.stacks_vars.proofs.symbol.Symbol.order.Goals as goal

pub returns-then-self-other : goal.returns-then-self-other
returns-then-self-other c =
    let left : IsHead c.self.inside.head c.args.self.now = subst (IsHead c.self.inside.head) (search rules) c.self.invariant in
    let right : IsHead c.other.inside.head c.args.other.now = subst (IsHead c.other.inside.head) (search rules) c.other.invariant in
    heads_told c.self.inside.head c.other.inside.head c.args.self.now c.args.other.now c.cmp.result left right c.if-self-other.true (search rules)

pub returns-then-is_whole : goal.returns-then-is_whole
returns-then-is_whole c =
    let left : IsHead c.self.inside.head c.args.self.now = subst (IsHead c.self.inside.head) (search rules) c.self.invariant in
    let right : IsHead c.other.inside.head c.args.other.now = subst (IsHead c.other.inside.head) (search rules) c.other.invariant in
    whole_stands c.self.inside.head c.other.inside.head c.args.self.now c.args.other.now left right (search rules) (c.is_whole.ensures.0 c.if-is_whole.true)
