use Rattle.std.proofs.Common.{◌≡◌, sym, ◌∙◌, ap, subst, ◌+◌, ◌++◌, ◌∷◌, [], List, drop, slice_get, append-nil, arith}
use Rattle.partial_path.specs.Rules.{Rule}
use Rattle.partial_path.specs.Starts.{IsByStart, begins_at}
use Rattle.partial_path.specs.PathSets.{FileRules}
use Rattle.version_tree.specs.Contents.{FileRow}
use Rattle.root_index.specs.Roots.{RootPath, root, root_path, roots_from}
use Rattle.root_index.proofs.Gathered.{one_added}
use Rattle.root_index.proofs.RootRuns.{behind_first, none_behind}
use Rattle.root_index.proofs.file_roots.add_slots.Goals as goal

-- the paths before the first from the root are passed over
pub loop-place-init : goal.loop-place-init
loop-place-init c =
    let rules_are : c.paths-paths.result ≡ c.args.file.now.file.rules
    = c.paths-paths.ensures.value ∙ ap (λ (f : FileRules). f.rules) (c.get.ensures.value ∙ c.paths.ensures) in
    record {
      added = ap (λ (ps : List RootPath). c.args.slots.now.items ++ ps)
          (ap (λ n. roots_from c.args.file.now.path n (drop n c.paths-paths.result)) c.count_before-place.ensures.value
          ∙ behind_first c.args.file.now.path c.paths-paths.result
          ∙ ap (roots_from c.args.file.now.path 0) rules_are);
      behind = omega (arith, c.count_before-place.ensures.value);
    }

-- behind a path that doesn't begin at the root none does
pub returns-then-not-is_from_root : goal.returns-then-not-is_from_root
returns-then-not-is_from_root c =
    sym (append-nil c.loop-place.slots.items)
    ∙ sym (ap (λ (ps : List RootPath). c.loop-place.slots.items ++ ps)
    (none_behind c.args.file.now.path c.paths-paths.result c.loop-place.place c.at.result
    (subst (λ (rs : List Rule). IsByStart rs) (sym c.paths-paths.ensures.value) c.paths-paths.ensures.order)
    c.loop-place.invariant.behind (omega (arith, c.loop-place-test.true, c.len-place-end.ensures))
    (ap (begins_at root) (sym c.at.ensures.is) ∙ sym c.is_from_root.ensures ∙ c.if-not-is_from_root.true)))
    ∙ c.loop-place.invariant.added

pub loop-place-preserved : goal.loop-place-preserved
loop-place-preserved c =
    let rules_are : c.paths-paths.result ≡ c.args.file.now.file.rules
    = c.paths-paths.ensures.value ∙ ap (λ (f : FileRules). f.rules) (c.get.ensures.value ∙ c.paths.ensures) in
    let slot_is : c.of.result ≡ root_path c.args.file.now.path c.loop-place.place (slice_get c.paths-paths.result c.loop-place.place)
    = c.of.ensures ∙ ap (λ (f : FileRow). root_path f.path c.loop-place.place (slice_get f.file.rules c.loop-place.place)) c.in_ok-share.ensures
    ∙ ap (λ (rs : List Rule). root_path c.args.file.now.path c.loop-place.place (slice_get rs c.loop-place.place)) (sym rules_are) in
    record {
      added = ap (λ (ps : List RootPath). ps ++ roots_from c.args.file.now.path (c.loop-place.place + 1) (drop (c.loop-place.place + 1) c.paths-paths.result))
          (c.in_ok-push.ensures.items ∙ ap (λ (p : RootPath). c.loop-place.slots.items ++ p ∷ []) slot_is)
          ∙ one_added c.args.file.now.path c.loop-place.place c.paths-paths.result c.at.result c.loop-place.slots.items _ (omega (arith, c.loop-place-test.true, c.len-place-end.ensures))
          (ap (begins_at root) (sym c.at.ensures.is) ∙ sym c.is_from_root.ensures ∙ c.if-not-is_from_root.false) c.loop-place.invariant.added;
      behind = omega (arith, c.loop-place.invariant.behind);
    }
