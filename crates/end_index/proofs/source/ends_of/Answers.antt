use Rattle.std.proofs.Common.{sym, ◌∙◌, ap, subst, List, ◌++◌, take}
use Rattle.std.specs.List.{flat_map}
use Rattle.partial_path.specs.declared.config.Spot.{Spot}
use Rattle.partial_path.specs.Keys.{asked_texts, key_size}
use Rattle.root_index.specs.Offers.{files_of}
use Rattle.back_stitch.specs.Sources.{AreEnds}
use Rattle.end_index.specs.declared.runs.EndRuns.{EndRuns}
use Rattle.partial_path.specs.declared.end_table.EndMark.{EndMark}
use Rattle.end_index.specs.Ends.{AreListed}
use Rattle.end_index.specs.Looks.{inside_left, outside_left, rules_of}
use Rattle.end_index.specs.Runs.{shares_left}
use Rattle.end_index.proofs.Given.{given_at_root, given_at_exported, given_at_other}
use Rattle.end_index.proofs.Ordered.{from_first}
use Rattle.end_index.proofs.source.ends_of.Goals as goal

pub returns-in-Root : goal.returns-in-Root
returns-in-Root c =
    let asked = asked_texts (take key_size c.args._symbols.now) in
    let of = subst (λ (ms : List (List EndMark)). AreListed ms c.args.ends.now.root.shares) c.requires.root c.are_listed.ensures.root in
    subst (λ (s : Spot). AreEnds (files_of c.args.view.now) s c.args._symbols.now (outside_left (files_of c.args.view.now) asked c.args.ends.now.root.shares c.before_runs.result)) (sym c.in-Root.is)
    (given_at_root (files_of c.args.view.now) c.are_sources.ensures c.args._symbols.now c.args.ends.now.root.shares c.before_runs.result of
    (ap (λ (at : EndRuns). shares_left asked at c.args.ends.now.root.shares) c.before_runs.ensures ∙ from_first asked 0 c.args.ends.now.root.shares of.order))

pub returns-then-is_exported : goal.returns-then-is_exported
returns-then-is_exported c =
    let asked = asked_texts (take key_size c.args._symbols.now) in
    let of = subst (λ (ms : List (List EndMark)). AreListed ms c.args.ends.now.stack.shares) c.requires.stack c.are_listed.ensures.stack in
    subst (λ (s : Spot). AreEnds (files_of c.args.view.now) s c.args._symbols.now
    (inside_left (files_of c.args.view.now) c.in-At.node 0 ++ outside_left (files_of c.args.view.now) asked c.args.ends.now.stack.shares c.before_runs-then-is_exported.result)) (sym c.in-At.is)
    (given_at_exported (files_of c.args.view.now) c.are_sources.ensures c.args._symbols.now c.in-At.node c.args.ends.now.stack.shares c.before_runs-then-is_exported.result of
    (ap (λ (at : EndRuns). shares_left asked at c.args.ends.now.stack.shares) c.before_runs-then-is_exported.ensures ∙ from_first asked 0 c.args.ends.now.stack.shares of.order)
    (sym c.is_exported.ensures ∙ c.if-is_exported.true))

pub returns-else-is_exported : goal.returns-else-is_exported
returns-else-is_exported c =
    let asked = asked_texts (take key_size c.args._symbols.now) in
    subst (λ (s : Spot). AreEnds (files_of c.args.view.now) s c.args._symbols.now
    (inside_left (files_of c.args.view.now) c.in-At.node 0 ++ outside_left (files_of c.args.view.now) asked c.args.ends.now.stack.shares c.behind_runs.result)) (sym c.in-At.is)
    (given_at_other (files_of c.args.view.now) c.are_sources.ensures c.args._symbols.now c.in-At.node (outside_left (files_of c.args.view.now) asked c.args.ends.now.stack.shares c.behind_runs.result)
    (ap (flat_map (rules_of (files_of c.args.view.now))) (ap (shares_left asked c.behind_runs.result) (sym c.stack.ensures.value) ∙ c.behind_runs.ensures asked)) (sym c.is_exported.ensures ∙ c.if-is_exported.false))
