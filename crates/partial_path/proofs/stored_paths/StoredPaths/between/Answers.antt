use Rattle.std.proofs.Common.{sym, ◌∙◌, ap, subst, ◌≤◌, ◌-◌, length, List}
use Rattle.partial_path.specs.Rules.{Rule}
use Rattle.partial_path.specs.Pooled.{rules_in}
use Rattle.partial_path.proofs.Pooling.{rules_between, length_between}
use Rattle.partial_path.proofs.stored_paths.StoredPaths.between.Goals as goal

pub returns-clause-value : goal.returns-clause-value
returns-clause-value c =
    rw (← c.self.view_is) (rules_between c.self.inside.pools.now c.self.inside.rows.now c.args.low (c.args.high - c.args.low))

pub returns-clause-len : goal.returns-clause-len
returns-clause-len c =
    let within = subst (λ (rs : List Rule). c.args.high ≤ length rs) (sym c.self.view_is) c.requires.1 in
    ap length (rules_between c.self.inside.pools.now c.self.inside.rows.now c.args.low (c.args.high - c.args.low))
    ∙ length_between (rules_in c.self.inside.pools.now c.self.inside.rows.now) c.args.low c.args.high c.requires.0 within
