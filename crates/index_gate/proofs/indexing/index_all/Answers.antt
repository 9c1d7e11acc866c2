-- One document after the other, and then the store.
use Rattle.std.specs.Prelude.{◌≤◌, ◌+◌, [], length, take, drop, IfErr}
use Rattle.std.proofs.Common.{rules, arith, sym, subst}
use Rattle.index_gate.specs.Indexed.{HasCause, AddsSome, docs_of}
use Rattle.index_gate.specs.Reading.{Refuses}
use Rattle.index_gate.proofs.UnderWay.{IsUnderWay, begun, few_between, all_added, all_files, all_walks, all_indexed, some_added, some_indexed, none_added}
use Rattle.index_gate.proofs.Places.{err_tells, on_err, after_doc, fault_at, few_at, at_end}
use Rattle.index_gate.proofs.indexing.index_all.Goals as goal

pub loop-doc-init : goal.loop-doc-init
loop-doc-init g c =
    subst (λ files. IsUnderWay (docs_of c.args.store.now) c.args.docs.now [] c.args.docs.now files c.new-fresh.result c.args.steps.now c.args.steps.now) (sym c.new-files.ensures.items)
    (subst (λ fresh. IsUnderWay (docs_of c.args.store.now) c.args.docs.now [] c.args.docs.now [] fresh c.args.steps.now c.args.steps.now) (sym c.new-fresh.ensures)
    (begun (docs_of c.args.store.now) c.args.docs.now c.args.steps.now))

pub paths_for-requires-clause-fresh : goal.paths_for-requires-clause-fresh
paths_for-requires-clause-fresh g c = c.loop-doc.invariant.indexed

pub returns-in_err-paths-clause-fault : goal.returns-in_err-paths-clause-fault
returns-in_err-paths-clause-fault g c =
    let r : IfErr c.from_residual-in_err-paths.result (Refuses c.doc-item.result) = search rules in
    err_tells c.from_residual-in_err-paths.result (Refuses c.doc-item.result) (HasCause c.args.docs.now) r
    (fault_at (docs_of c.args.store.now) c.args.docs.now c.loop-doc.doc-index c.loop-doc.files.items c.loop-doc.fresh c.args.steps.now c.loop-doc.steps c.doc-item.result
    c.loop-doc-test.true c.doc-item.is c.loop-doc.invariant)

pub returns-in_err-paths-clause-some : goal.returns-in_err-paths-clause-some
returns-in_err-paths-clause-some g c =
    on_err c.from_residual-in_err-paths.result (AddsSome c.args.docs.now c.args.store.now c.args.store.now) (none_added c.args.store.now c.args.docs.now)

pub returns-in_err-paths-clause-fewer : goal.returns-in_err-paths-clause-fewer
returns-in_err-paths-clause-fewer g c =
    few_at (docs_of c.args.store.now) c.args.docs.now c.loop-doc.doc-index c.loop-doc.files.items c.loop-doc.fresh c.args.steps.now c.loop-doc.steps c.paths_for.new.steps c.doc-item.result
    c.loop-doc-test.true c.doc-item.is c.loop-doc.invariant c.paths_for.ensures.same c.paths_for.ensures.fewer

pub returns-in_err-push-clause-some : goal.returns-in_err-push-clause-some
returns-in_err-push-clause-some g c =
    on_err c.from_residual-in_err-push.result (AddsSome c.args.docs.now c.args.store.now c.args.store.now) (none_added c.args.store.now c.args.docs.now)

pub returns-in_err-push-clause-fewer : goal.returns-in_err-push-clause-fewer
returns-in_err-push-clause-fewer g c =
    few_at (docs_of c.args.store.now) c.args.docs.now c.loop-doc.doc-index c.loop-doc.files.items c.loop-doc.fresh c.args.steps.now c.loop-doc.steps c.paths_for.new.steps c.doc-item.result
    c.loop-doc-test.true c.doc-item.is c.loop-doc.invariant c.paths_for.ensures.same c.paths_for.ensures.fewer

pub loop-doc-preserved : goal.loop-doc-preserved
loop-doc-preserved g c =
    subst (λ files. IsUnderWay (docs_of c.args.store.now) c.args.docs.now (take (c.loop-doc.doc-index + 1) c.args.docs.now) (drop (c.loop-doc.doc-index + 1) c.args.docs.now) files c.paths_for.new.fresh c.args.steps.now c.paths_for.new.steps)
    (sym c.in_ok-push.ensures.items)
    (after_doc (docs_of c.args.store.now) c.args.docs.now c.loop-doc.doc-index c.loop-doc.files.items c.loop-doc.fresh c.paths_for.new.fresh c.args.steps.now c.loop-doc.steps c.paths_for.new.steps
    c.doc-item.result c.in_ok-paths.paths c.loop-doc-test.true c.doc-item.is c.loop-doc.invariant c.in_ok-paths.ensures.adds c.in_ok-paths.ensures.file c.paths_for.ensures.fewer)

pub returns-in_err-append-clause-indexed : goal.returns-in_err-append-clause-indexed
returns-in_err-append-clause-indexed g c =
    let end : length c.args.docs.now ≤ c.loop-doc.doc-index = omega (arith, c.loop-doc-test.false) in
    some_indexed c.args.store.now c.append.new.self c.args.docs.now (take c.loop-doc.doc-index c.args.docs.now) c.loop-doc.files.items c.loop-doc.fresh c.args.steps.now c.loop-doc.steps
    (at_end (docs_of c.args.store.now) c.args.docs.now c.loop-doc.doc-index c.loop-doc.files.items c.loop-doc.fresh c.args.steps.now c.loop-doc.steps end c.loop-doc.invariant)
    c.requires.indexed c.in_err-append.ensures.err

pub returns-in_err-append-clause-some : goal.returns-in_err-append-clause-some
returns-in_err-append-clause-some g c =
    let end : length c.args.docs.now ≤ c.loop-doc.doc-index = omega (arith, c.loop-doc-test.false) in
    on_err c.from_residual-in_err-append.result (AddsSome c.args.docs.now c.args.store.now c.append.new.self)
    (some_added c.args.store.now c.append.new.self c.args.docs.now (take c.loop-doc.doc-index c.args.docs.now) c.loop-doc.files.items c.loop-doc.fresh c.args.steps.now c.loop-doc.steps
    (at_end (docs_of c.args.store.now) c.args.docs.now c.loop-doc.doc-index c.loop-doc.files.items c.loop-doc.fresh c.args.steps.now c.loop-doc.steps end c.loop-doc.invariant)
    c.in_err-append.ensures.err)

pub returns-in_err-append-clause-fewer : goal.returns-in_err-append-clause-fewer
returns-in_err-append-clause-fewer g c =
    few_between (docs_of c.args.store.now) c.args.docs.now (take c.loop-doc.doc-index c.args.docs.now) (drop c.loop-doc.doc-index c.args.docs.now) c.loop-doc.files.items c.loop-doc.fresh c.args.steps.now c.loop-doc.steps c.loop-doc.invariant

pub returns-clause-files : goal.returns-clause-files
returns-clause-files g c =
    let end : length c.args.docs.now ≤ c.loop-doc.doc-index = omega (arith, c.loop-doc-test.false) in
    all_files (docs_of c.args.store.now) c.args.docs.now (take c.loop-doc.doc-index c.args.docs.now) c.loop-doc.files.items c.loop-doc.fresh c.args.steps.now c.loop-doc.steps
    (at_end (docs_of c.args.store.now) c.args.docs.now c.loop-doc.doc-index c.loop-doc.files.items c.loop-doc.fresh c.args.steps.now c.loop-doc.steps end c.loop-doc.invariant)

pub returns-clause-indexed : goal.returns-clause-indexed
returns-clause-indexed g c =
    let end : length c.args.docs.now ≤ c.loop-doc.doc-index = omega (arith, c.loop-doc-test.false) in
    all_indexed c.args.store.now c.append.new.self c.args.docs.now (take c.loop-doc.doc-index c.args.docs.now) c.loop-doc.files.items c.loop-doc.fresh c.args.steps.now c.loop-doc.steps
    (at_end (docs_of c.args.store.now) c.args.docs.now c.loop-doc.doc-index c.loop-doc.files.items c.loop-doc.fresh c.args.steps.now c.loop-doc.steps end c.loop-doc.invariant)
    c.requires.indexed c.in_ok-append.ensures.ok

pub returns-clause-added : goal.returns-clause-added
returns-clause-added g c =
    let end : length c.args.docs.now ≤ c.loop-doc.doc-index = omega (arith, c.loop-doc-test.false) in
    all_added c.args.store.now c.append.new.self c.args.docs.now (take c.loop-doc.doc-index c.args.docs.now) c.loop-doc.files.items c.loop-doc.fresh c.args.steps.now c.loop-doc.steps
    (at_end (docs_of c.args.store.now) c.args.docs.now c.loop-doc.doc-index c.loop-doc.files.items c.loop-doc.fresh c.args.steps.now c.loop-doc.steps end c.loop-doc.invariant)
    c.in_ok-append.ensures.ok

pub returns-clause-steps : goal.returns-clause-steps
returns-clause-steps g c =
    let end : length c.args.docs.now ≤ c.loop-doc.doc-index = omega (arith, c.loop-doc-test.false) in
    all_walks c.args.store.now c.append.new.self c.args.docs.now (take c.loop-doc.doc-index c.args.docs.now) c.loop-doc.files.items c.loop-doc.fresh c.args.steps.now c.loop-doc.steps
    (at_end (docs_of c.args.store.now) c.args.docs.now c.loop-doc.doc-index c.loop-doc.files.items c.loop-doc.fresh c.args.steps.now c.loop-doc.steps end c.loop-doc.invariant)
    c.in_ok-append.ensures.ok

pub returns-clause-fewer : goal.returns-clause-fewer
returns-clause-fewer g c =
    few_between (docs_of c.args.store.now) c.args.docs.now (take c.loop-doc.doc-index c.args.docs.now) (drop c.loop-doc.doc-index c.args.docs.now) c.loop-doc.files.items c.loop-doc.fresh c.args.steps.now c.loop-doc.steps c.loop-doc.invariant
