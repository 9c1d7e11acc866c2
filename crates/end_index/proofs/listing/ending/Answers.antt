-- A path that may not end at the spot is passed over, and each other counts.
use Rattle.std.proofs.Common.{refl, sym, ◌∙◌, ap, Some, arith}
use Rattle.partial_path.specs.Sources.{graphs_of}
use Rattle.partial_path.proofs.Asking.{left_skipped, left_counted, left_found, left_none}
use Rattle.root_index.specs.Offers.{files_of}
use Rattle.end_index.proofs.Listed.{may_in}
use Rattle.end_index.proofs.listing.ending.Goals as goal

pub loop-place-init : goal.loop-place-init
loop-place-init c = record { same = refl; passed = refl }

pub loop-place-preserved-then-not-may_end : goal.loop-place-preserved-then-not-may_end
loop-place-preserved-then-not-may_end c =
    left_skipped (may_in (graphs_of (files_of c.args.view.now)) c.args.spot c.args.file) c.args.paths.now c.args.paths.now c.loop-place.place c.args.left.now c.loop-place.left c.at-path.result (omega (arith, c.loop-place-test.true, c.len-place-end.ensures))
    (ap (may_in (graphs_of (files_of c.args.view.now)) c.args.spot c.args.file) (sym c.at-path.ensures.is) ∙ sym c.may_end.ensures ∙ c.if-not-may_end.true) c.loop-place.invariant

pub returns-then-left-eq0-clause-found : goal.returns-then-left-eq0-clause-found
returns-then-left-eq0-clause-found c =
    ap Some c.at-path.ensures.is
    ∙ left_found (may_in (graphs_of (files_of c.args.view.now)) c.args.spot c.args.file) c.args.paths.now c.args.paths.now c.loop-place.place c.args.left.now c.loop-place.left c.at-path.result (omega (arith, c.loop-place-test.true, c.len-place-end.ensures))
    (ap (may_in (graphs_of (files_of c.args.view.now)) c.args.spot c.args.file) (sym c.at-path.ensures.is) ∙ sym c.may_end.ensures ∙ c.if-not-may_end.false) c.if-left-eq0.true c.loop-place.invariant

pub loop-place-preserved : goal.loop-place-preserved
loop-place-preserved c =
    left_counted (may_in (graphs_of (files_of c.args.view.now)) c.args.spot c.args.file) c.args.paths.now c.args.paths.now c.loop-place.place c.args.left.now c.loop-place.left c.at-path.result (omega (arith, c.loop-place-test.true, c.len-place-end.ensures))
    (ap (may_in (graphs_of (files_of c.args.view.now)) c.args.spot c.args.file) (sym c.at-path.ensures.is) ∙ sym c.may_end.ensures ∙ c.if-not-may_end.false) (omega arith) c.loop-place.invariant

pub returns-clause-found : goal.returns-clause-found
returns-clause-found c =
    (left_none (may_in (graphs_of (files_of c.args.view.now)) c.args.spot c.args.file) c.args.paths.now c.args.paths.now c.loop-place.place c.args.left.now c.loop-place.left (omega (arith, c.loop-place-test.false, c.len-place-end.ensures)) c.loop-place.invariant).0

pub returns-clause-rest : goal.returns-clause-rest
returns-clause-rest c =
    (left_none (may_in (graphs_of (files_of c.args.view.now)) c.args.spot c.args.file) c.args.paths.now c.args.paths.now c.loop-place.place c.args.left.now c.loop-place.left (omega (arith, c.loop-place-test.false, c.len-place-end.ensures)) c.loop-place.invariant).1
