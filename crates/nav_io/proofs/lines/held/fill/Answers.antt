use Rattle.std.proofs.Common.{arith, ◌≡◌, ◌∙◌, length, sym}
use Rattle.nav_io.proofs.Cuts.{line_len-behind, line_len-behind_none, prepend_known-moved}
use Rattle.nav_io.proofs.lines.held.fill.Goals as goal

-- The newline stands behind what was held before.
pub returns-in-Some-clause-ok : goal.returns-in-Some-clause-ok
returns-in-Some-clause-ok g c =
    let taken = c.in_ok-taken.ensures.ok in
    let all : c.len-before.result ≡ length c.loop-held.held.items = omega (arith, c.len-before.ensures, c.loop-held.held.ok.0) in
    let place = line_len-behind _ _ _ _ _ all taken.2 c.loop-held.invariant.no_newline c.in-Some.ensures.0 in
    let fits = c.in_ok-within_limit.ensures.ok in
    (place ∙ sym fits.0, fits.1)

pub returns-in_err-within_limit-clause-too_long : goal.returns-in_err-within_limit-clause-too_long
returns-in_err-within_limit-clause-too_long g c long =
    let taken = c.in_ok-taken.ensures.ok in
    let all : c.len-before.result ≡ length c.loop-held.held.items = omega (arith, c.len-before.ensures, c.loop-held.held.ok.0) in
    let place = line_len-behind _ _ _ _ _ all taken.2 c.loop-held.invariant.no_newline c.in-Some.ensures.0 in
    rw place c.in_err-within_limit.ensures.err

pub loop-held-preserved : goal.loop-held-preserved
loop-held-preserved g c =
    let taken = c.in_ok-taken.ensures.ok in
    let all : c.len-before.result ≡ length c.loop-held.held.items = omega (arith, c.len-before.ensures, c.loop-held.held.ok.0) in
    record {
      kept = prepend_known-moved _ _ _ _ _ taken.2 taken.3 ∙ c.loop-held.invariant.kept;
      no_newline = line_len-behind_none _ _ _ _ all taken.2 c.loop-held.invariant.no_newline c.in_default.ensures;
      count = omega (arith, c.loop-held.invariant.count, c.in_ok-taken.ensures.count);
    }
