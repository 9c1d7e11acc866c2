use Rattle.std.proofs.Common.{◌≡◌, sym, ◌∙◌, ap, subst, ◌<◌, List, length, get_or, slice_get, not, arith}
use Rattle.std.specs.Prelude.{filter}
use Rattle.partial_path.specs.Rules.{Rule}
use Rattle.partial_path.specs.PathSets.{FileRules}
use Rattle.partial_path.specs.Starts.{begins_at}
use Rattle.version_tree.specs.Contents.{FileRow}
use Rattle.root_index.specs.Roots.{RootPath, AreByRank, root, root_path}
use Rattle.root_index.specs.Blocks.{IsStrict, all_paths, is_tied}
use Rattle.root_index.proofs.WithoutFile.{is_left, order_kept, strict_kept, one_out, none_out, none_yet, all_out}
use Rattle.root_index.proofs.without_files.without_file.Goals as goal
use Rattle.root_index.proofs.without_files.without_file.Goals.{then-is_from_root+in_ok-share+in_ok-rest, else-is_from_root}

pub loop-place-init : goal.loop-place-init
loop-place-init c = sym (none_yet c.args.file.now (all_paths c.args.groups))

pub without-requires-clause-order : goal.without-requires-clause-order
without-requires-clause-order c =
    subst AreByRank (sym c.loop-place.invariant) (order_kept (is_left c.args.file.now c.loop-place.place) (all_paths c.args.groups) c.requires.order)

pub without-requires-clause-strict : goal.without-requires-clause-strict
without-requires-clause-strict c =
    subst IsStrict (sym c.loop-place.invariant) (strict_kept (is_left c.args.file.now c.loop-place.place) (all_paths c.args.groups) c.requires.strict)

-- a path from the root is taken out; at another's place none stands
pub loop-place-preserved : goal.loop-place-preserved
loop-place-preserved c =
    let rules_are : c.paths-paths.result ≡ c.args.file.now.file.rules
    = c.paths-paths.ensures.value ∙ ap (λ (f : FileRules). f.rules) (c.get.ensures.value ∙ c.paths.ensures) in
    elim c.if-is_from_root.branch [
      | then-is_from_root+in_ok-share+in_ok-rest w ↦
          let slot_is : w.of.result ≡ root_path c.args.file.now.path c.loop-place.place (slice_get c.args.file.now.file.rules c.loop-place.place)
          = w.of.ensures ∙ ap (λ (f : FileRow). root_path f.path c.loop-place.place (slice_get f.file.rules c.loop-place.place)) w.in_ok-share.ensures in
          ap all_paths w.rest-is ∙ w.in_ok-rest.ensures
          ∙ (λ i. filter (λ (q : RootPath). not (is_tied (slot_is i) q)) (c.loop-place.invariant i))
          ∙ one_out c.args.file.now c.loop-place.place (all_paths c.args.groups) c.requires.from
      | else-is_from_root w ↦
          let count = ap length rules_are in
          let inside : c.loop-place.place < length c.args.file.now.file.rules = omega (arith, c.loop-place-test.true, c.len-place-end.ensures, count) in
          ap all_paths w.rest-is ∙ c.loop-place.invariant
          ∙ none_out c.args.file.now c.loop-place.place (all_paths c.args.groups) c.requires.from c.at.result inside
          (ap (begins_at root) (sym (c.at.ensures.is ∙ ap (λ (rs : List Rule). get_or rs c.loop-place.place c.at.result) rules_are))
          ∙ sym c.is_from_root.ensures ∙ w.if-is_from_root.false)
    ]

pub returns : goal.returns
returns c =
    let rules_are : c.paths-paths.result ≡ c.args.file.now.file.rules
    = c.paths-paths.ensures.value ∙ ap (λ (f : FileRules). f.rules) (c.get.ensures.value ∙ c.paths.ensures) in
    let count = ap length rules_are in
    c.loop-place.invariant ∙ all_out c.args.file.now (all_paths c.args.groups) c.loop-place.place c.requires.from (omega (arith, c.loop-place-test.false, c.len-place-end.ensures, count))
