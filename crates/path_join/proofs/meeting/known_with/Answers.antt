use Rattle.std.proofs.Common.{◌≡◌, ap, sym, ◌∙◌, ◌+◌, ◌-◌, length, None, Some}
use Rattle.path_join.specs.Joining.{meet_scopes}
use Rattle.path_join.specs.Tables.{meet_made, kept_if}
use Rattle.path_join.proofs.CodeMet.{known-unmade, known-met}
use Rattle.path_join.proofs.meeting.known_with.Goals as goal

pub returns-then-not-branch : goal.returns-then-not-branch
returns-then-not-branch c =
    let unmade : meet_made c.in_ok-known.known c.items-pats.result.now c.items-outs.result.now ≡ None =
    c.in_ok-meet_made.ensures ∙ ap (λ met. kept_if met c.meet_made.new.known) c.if-not-branch.true in
    let pats : c.items-pats.result.now ≡ c.args.q.now.pre.symbols = cc in
    let outs : c.items-outs.result.now ≡ c.args.p.now.post.symbols = cc in
    let count : c.len.result + c.saturating_sub-handed.result ≡ length c.args.p.now.pre.symbols + (length c.args.q.now.pre.symbols - length c.args.p.now.post.symbols) = cc in
    sym (known-unmade c.args.p.now c.args.q.now c.args.asked.now _ c.in_ok-known.known _ _ c.in_ok-known.ensures pats outs unmade count)

pub returns-then-not-branch-2 : goal.returns-then-not-branch-2
returns-then-not-branch-2 c =
    let made : meet_made c.in_ok-known.known c.items-pats.result.now c.items-outs.result.now ≡ Some c.meet_made.new.known =
    c.in_ok-meet_made.ensures ∙ ap (λ met. kept_if met c.meet_made.new.known) c.if-not-branch.false in
    let pats : c.items-pats.result.now ≡ c.args.q.now.pre.symbols = cc in
    let outs : c.items-outs.result.now ≡ c.args.p.now.post.symbols = cc in
    let count : c.len.result + c.saturating_sub-handed.result ≡ length c.args.p.now.pre.symbols + (length c.args.q.now.pre.symbols - length c.args.p.now.post.symbols) = cc in
    let met : meet_scopes c.meet_made.new.known c.args.asked.now c.args.p.now.post.scopes ≡ None =
    ap (λ out. meet_scopes c.meet_made.new.known c.args.asked.now out) (ap (λ post. post.scopes) (sym c.post-2.ensures.value))
    ∙ c.in_ok-meet_scopes.ensures ∙ ap (λ met. kept_if met c.meet_scopes.new.self) c.if-not-branch-2.true in
    sym (known-met c.args.p.now c.args.q.now c.args.asked.now _ c.in_ok-known.known _ _ _ c.in_ok-known.ensures pats outs made count ∙ met)

pub returns : goal.returns
returns c =
    let made : meet_made c.in_ok-known.known c.items-pats.result.now c.items-outs.result.now ≡ Some c.meet_made.new.known =
    c.in_ok-meet_made.ensures ∙ ap (λ met. kept_if met c.meet_made.new.known) c.if-not-branch.false in
    let pats : c.items-pats.result.now ≡ c.args.q.now.pre.symbols = cc in
    let outs : c.items-outs.result.now ≡ c.args.p.now.post.symbols = cc in
    let count : c.len.result + c.saturating_sub-handed.result ≡ length c.args.p.now.pre.symbols + (length c.args.q.now.pre.symbols - length c.args.p.now.post.symbols) = cc in
    let met : meet_scopes c.meet_made.new.known c.args.asked.now c.args.p.now.post.scopes ≡ Some c.meet_scopes.new.self =
    ap (λ out. meet_scopes c.meet_made.new.known c.args.asked.now out) (ap (λ post. post.scopes) (sym c.post-2.ensures.value))
    ∙ c.in_ok-meet_scopes.ensures ∙ ap (λ met. kept_if met c.meet_scopes.new.self) c.if-not-branch-2.false in
    sym (known-met c.args.p.now c.args.q.now c.args.asked.now _ c.in_ok-known.known _ _ _ c.in_ok-known.ensures pats outs made count ∙ met)
