use Rattle.std.proofs.Common.{◌≡◌, sym, ◌∙◌, arith}
use Rattle.grants.specs.Covers.{Rules}
use Rattle.grants.proofs.Longest as longest
use Rattle.grants.proofs.access.is_granted.Goals as goal

pub returns-in-Some : goal.returns-in-Some
returns-in-Some c =
    let rules : Rules = record { granted = c.args.granted.now; denied = c.args.denied.now } in
    longest.decided rules c.args.user.now c.args.path.now c.loop-end.end c.in-Some.verdict c.loop-end.invariant.0 c.loop-end.invariant.1 (sym c.in-Some.ensures)

pub returns : goal.returns
returns c =
    let rules : Rules = record { granted = c.args.granted.now; denied = c.args.denied.now } in
    let down : c.loop-end.end ≡ 0 = omega arith in
    c.unwrap_or.ensures ∙ longest.last rules c.args.user.now c.args.path.now c.verdict_at-2.result c.verdict_at-2.ensures (λ k lt le. c.loop-end.invariant.1 k (omega arith) le)
